use Rattle.std.proofs.Common.{◌<◌, ◌≤◌, ℕ, length}
use Rattle.lie_math.specs.Monomial.{degree}
use Rattle.lie_brackets.specs.Generators.{term_at}
use Rattle.lie_brackets.proofs.generators.lowest_place.Given as goal

abbrev pub invariant-loop-i : goal.invariant-loop-i
invariant-loop-i l = record {
  inside : l.place < length l.terms;
  lowest : (j : ℕ) → j < l.i → degree (term_at l.terms l.place).0 ≤ degree (term_at l.terms j).0;
  first : (j : ℕ) → j < l.place → degree (term_at l.terms l.place).0 < degree (term_at l.terms j).0;
}
