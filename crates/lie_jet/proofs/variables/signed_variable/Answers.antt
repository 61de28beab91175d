use Rattle.std.proofs.Common.{sym, subst, ap, ◌∙◌}
use Rattle.lie_math.specs.Limits.{HasLowExponents}
use Rattle.lie_math.specs.Monomial.{Monomial}
use Rattle.lie_math.specs.Polynomial.{term}
use Rattle.lie_ring.proofs.OneTerm.{low_single}
use Rattle.lie_jet.proofs.variables.signed_variable.Goals as goal

pub term_polynomial-requires : goal.term_polynomial-requires
term_polynomial-requires c = subst HasLowExponents (sym c.variable.ensures) (low_single c.args.number)

pub returns-clause-variable : goal.returns-clause-variable
returns-clause-variable c = c.in_ok-term_polynomial.ensures ∙ ap (λ (m : Monomial). term m c.args.sign) c.variable.ensures
