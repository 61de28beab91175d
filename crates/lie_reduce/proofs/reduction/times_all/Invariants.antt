use Rattle.std.proofs.Common.{◌≡◌, take}
use Rattle.lie_math.specs.Polynomial.{◌*ᴾ◌}
use Rattle.lie_solved.specs.SolvedForms.{solved_equations}
use Rattle.lie_reduce.proofs.Factors.{product}
use Rattle.lie_reduce.proofs.Replacing.{replaced_power}
use Rattle.lie_reduce.proofs.reduction.times_all.Given as goal

abbrev pub invariant-loop-pair : goal.invariant-loop-pair
invariant-loop-pair l = l.product ≡ l.fn.poly *ᴾ product (replaced_power (solved_equations l.space l.rules)) (take l.pair-index l.pairs)
