use Rattle.std.specs.Prelude.{◌≡◌, map}
use Rattle.std.specs.List.{range_with_len}
use Rattle.lie_math.specs.Polynomial.{polynomial_of}
use Rattle.lie_spans.specs.FieldRows.{row_terms}
use Rattle.lie_algebra.proofs.fields.field_of.Given as goal

abbrev pub invariant-loop-component : goal.invariant-loop-component
invariant-loop-component l = l.parts.items ≡ map (λ s. polynomial_of (row_terms s l.columns l.row)) (range_with_len 0 l.component)
