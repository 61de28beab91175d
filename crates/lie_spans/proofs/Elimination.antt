-- The elimination gives the reduced basis of what the rows span.
use Rattle.std.specs.Prelude.{◌≡◌, ℕ, List, [], length}
use Rattle.std.proofs.Common.{◌∙◌, arith}
use Rattle.std.specs.List.{AllByRecursion as Every}
use Rattle.lie_spans.specs.Spans.{IsSpanned}
use Rattle.lie_spans.specs.Rows.{Row, entry, IsReducedBasis}
use Rattle.lie_spans.specs.Content.{primitive_parts}
use Rattle.lie_spans.specs.Elimination.{columns_cleared, turned_rows, basis_of}
use Rattle.lie_math.proofs.EveryElement.{every-weaken}
use Rattle.lie_spans.proofs.Spans.{spanned_each, spanned_through}
use Rattle.lie_spans.proofs.Columns.{Ended, all_columns, state_start}
use Rattle.lie_spans.proofs.Turning.{turned_reduced, turned_spanned, turned_spans, all_turned_each, all_turned_each_back}

-- the elimination gives the reduced basis of what the rows span
pub basis_of_is : (n : ℕ) (rows : List Row) → Every (λ r. length r ≡ n) rows → IsReducedBasis n (λ w. IsSpanned entry rows (entry w)) (basis_of n rows)
unfolding basis_of
basis_of_is n rows h =
    let ps : List Row = columns_cleared n 0 [] (primitive_parts rows) in
    let e : Ended n rows ps = all_columns n n 0 rows [] (primitive_parts rows) (omega arith) (state_start n rows h) in
    record {
      lengths = all_turned_each (λ r. length r ≡ n) (λ r. length r ≡ n) (λ r t l u. u.length ∙ l) ps e.lengths;
      reduced = turned_reduced n rows ps e;
      spans = λ w l. (
        spanned_through entry (turned_rows ps) rows (entry w) (every-weaken (λ r. IsSpanned entry ps (entry r)) (λ r. IsSpanned entry (turned_rows ps) (entry r))
            (λ r. spanned_through entry (turned_rows ps) ps (entry r) (all_turned_each_back (λ r. IsSpanned entry (turned_rows ps) (entry r)) (λ r. IsSpanned entry (turned_rows ps) (entry r)) (λ r t s u. turned_spans r t u (turned_rows ps) s) ps (spanned_each entry (turned_rows ps)))) rows e.spans),
        spanned_through entry rows (turned_rows ps) (entry w) (all_turned_each (λ r. IsSpanned entry rows (entry r)) (λ r. IsSpanned entry rows (entry r)) (λ r t s u. turned_spanned r t u rows s) ps e.spanned),
      );
    }
