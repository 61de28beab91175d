use Rattle.std.proofs.Common.{◌≡◌, ◌<◌, ℕ, map}
use Rattle.std.specs.List.{range_with_len}
use Rattle.lie_math.specs.Limits.{IsWithinLimits}
use Rattle.lie_math.specs.VectorField.{component}
use Rattle.lie_geometry.specs.Commutator.{commutator_component}
use Rattle.lie_brackets.specs.Bulks.{bracket_bulk}
use Rattle.lie_brackets.specs.FieldTerms.{field_of_terms}
use Rattle.lie_brackets.proofs.brackets.bracket_of_terms.Given as goal

abbrev pub invariant-loop-s : goal.invariant-loop-s
invariant-loop-s l = record {
  parts : l.parts.items ≡ map (commutator_component (component (field_of_terms l.v)) (component (field_of_terms l.w))) (range_with_len 0 l.s);
  fits : (t : ℕ) → t < l.s → IsWithinLimits (bracket_bulk (field_of_terms l.v) (field_of_terms l.w) t);
}
