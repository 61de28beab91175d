use Rattle.lie_math.specs.Polynomial.{term}
use Rattle.lie_lin.proofs.DividedForms.{divided_at, form_step}
use Rattle.lie_lin.proofs.normalised.divided_coefficients.Goals as goal

pub divided_coefficient-requires-clause-divides : goal.divided_coefficient-requires-clause-divides
divided_coefficient-requires-clause-divides c = divided_at c.args.mono.now c.args.number c.args.terms.now c.loop-term.term-index c.term-item.result c.loop-term-test.true c.term-item.is c.requires.numbers c.requires.monomials

pub loop-term-preserved : goal.loop-term-preserved
loop-term-preserved c =
    form_step (term c.args.mono.now c.args.number) c.in_ok-rest.rest c.loop-term.out.items c.push.new.self.items c.args.terms.now c.loop-term.term-index c.term-item.result c.loop-term-test.true c.term-item.is
    c.in_ok-push.ensures.items c.in_ok-rest.ensures c.loop-term.invariant
