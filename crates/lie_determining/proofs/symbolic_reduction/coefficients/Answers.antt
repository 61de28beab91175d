use Rattle.std.proofs.Common.{◌≡◌, ◌∷◌, [], ◌++◌, arith}
use Rattle.std.proofs.lemmas.Grind.{common_steps}
use Rattle.lie_determining.proofs.ReducedForms.{coefficients_more}
use Rattle.lie_determining.proofs.symbolic_reduction.coefficients.Goals as goal

pub loop-term-preserved : goal.loop-term-preserved
loop-term-preserved c =
    let pushed : c.push.new.self.items ≡ c.loop-term.made.items ++ c.in_ok-copy.copy ∷ [] = grind (arith, common_steps) in
    coefficients_more c.terms-term-items.result.now c.loop-term.term-index c.term-item.result c.loop-term.made.items c.push.new.self.items c.in_ok-copy.copy c.loop-term-test.true c.term-item.is c.loop-term.invariant pushed c.in_ok-copy.ensures
