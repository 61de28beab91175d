-- The primitive parts of rows: what they have from the rows, and that they span them.
use Rattle.std.specs.Prelude.{◌≡◌, ◌<◌, ◌==◌, true, false, cond, List, [], ◌∷◌, ◌++◌, pos, ◌+ℤ◌, ◌*ℤ◌}
use Rattle.std.proofs.Common.{refl, sym, ◌∙◌}
use Rattle.std.specs.List.{AllByRecursion as Every}
use Rattle.lie_math.specs.Integer.{integer_ring}
use Rattle.lie_math.proofs.RingSolver.{v, c0, ◌⊕◌, ◌⊗◌, solve, listed}
use Rattle.lie_spans.specs.Spans.{IsSpanned}
use Rattle.lie_spans.specs.Rows.{Row, entry}
use Rattle.lie_spans.specs.Content.{row_content, divided_row, primitive_parts}
use Rattle.lie_spans.proofs.Spans.{spanned_same, spanned-zero, spanned-plus}
use Rattle.lie_spans.proofs.Content.{positive_of_test, zero_of_test, content_divides, divided_is, content_vanishes}

pub primitive_parts_each : (P : Row → Type 0) (Q : Row → Type 0) → ((r : Row) → P r → 0 < row_content r → Q (divided_row (row_content r) r)) → (rs : List Row) → Every P rs → Every Q (primitive_parts rs)
primitive_parts_each P Q f [] h = tt
primitive_parts_each P Q f (r ∷ rs) h =
    elim (row_content r == 0) as (λ b. (row_content r == 0) ≡ b → Every Q (cond b [] (divided_row (row_content r) r ∷ []) ++ primitive_parts rs)) [
      | true ↦ λ e. primitive_parts_each P Q f rs h.1
      | false ↦ λ e. (f r h.0 (positive_of_test (row_content r) e), primitive_parts_each P Q f rs h.1)
    ] refl

pub primitive_parts_span : (xs rs : List Row) → Every (λ r. IsSpanned entry xs (entry r)) (primitive_parts rs) → Every (λ r. IsSpanned entry xs (entry r)) rs
primitive_parts_span xs [] h = tt
primitive_parts_span xs (r ∷ rs) h =
    elim (row_content r == 0) as (λ b. (row_content r == 0) ≡ b → Every (λ r. IsSpanned entry xs (entry r)) (cond b [] (divided_row (row_content r) r ∷ []) ++ primitive_parts rs) → IsSpanned entry xs (entry r) × Every (λ s. IsSpanned entry xs (entry s)) rs) [
      | true ↦ λ e q. (spanned_same entry xs (λ j. pos 0) (entry r) (λ j. sym (content_vanishes r (zero_of_test (row_content r) e) j)) (spanned-zero entry xs), primitive_parts_span xs rs q)
      | false ↦ λ e q. (
        spanned_same entry xs (λ j. pos (row_content r) *ℤ entry (divided_row (row_content r) r) j +ℤ pos 0 *ℤ entry (divided_row (row_content r) r) j) (entry r)
            (λ j. solve integer_ring (listed (pos 0) (pos (row_content r) ∷ entry (divided_row (row_content r) r) j ∷ [])) (v 0 ⊗ v 1 ⊕ c0 ⊗ v 1) (v 0 ⊗ v 1) refl ∙ divided_is (row_content r) r (content_divides r) j)
            (spanned-plus entry xs (pos (row_content r)) (pos 0) (entry (divided_row (row_content r) r)) (entry (divided_row (row_content r) r)) q.0 q.0),
        primitive_parts_span xs rs q.1,
      )
    ] refl h
