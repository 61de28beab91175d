use Rattle.std.proofs.Common.{◌≡◌, ◌<◌, ℕ, length}
use Rattle.lie_brackets.specs.Generators.{terms_at}
use Rattle.lie_brackets.proofs.generators.pivot_place.Given as goal

abbrev pub invariant-loop-part : goal.invariant-loop-part
invariant-loop-part l = (t : ℕ) → t < l.part → length (terms_at l.parts t) ≡ 0
