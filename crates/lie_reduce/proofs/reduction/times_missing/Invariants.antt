use Rattle.std.proofs.Common.{◌≡◌, ℕ, take}
use Rattle.lie_math.specs.Polynomial.{◌*ᴾ◌}
use Rattle.lie_reduce.specs.ReducedTerms.{exponents_at}
use Rattle.lie_reduce.proofs.Factors.{product}
use Rattle.lie_reduce.proofs.Replacing.{missing_power}
use Rattle.lie_reduce.proofs.reduction.times_missing.Given as goal

abbrev pub invariant-loop-i : goal.invariant-loop-i
invariant-loop-i l = (e : ℕ → ℕ) → l.greatest ≡ exponents_at l.space l.rules e → l.product ≡ l.fn.poly *ᴾ product (missing_power l.space e l.mono) (take l.i l.rules)
