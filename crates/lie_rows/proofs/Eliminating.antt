-- The steps of the elimination, column by column.
use Rattle.std.proofs.Common.{◌≡◌, ℕ, zero, suc, ◌+◌, ◌<◌, ◌≤◌, ◌↔◌, List, [], refl, sym, subst, arith, add-one}
use Rattle.lie_spans.specs.Spans.{IsSpanned}
use Rattle.lie_spans.specs.Rows.{Row, entry, HaveLength, IsReducedBasis}
use Rattle.lie_spans.specs.Content.{primitive_parts}
use Rattle.lie_math.specs.Limits.{number_limit}
use Rattle.lie_math.proofs.EveryElement.{every-append, every-front, every-back}
use Rattle.lie_spans.specs.Bulks.{column_bulks, columns_bulks, basis_bulks}
use Rattle.lie_spans.specs.Elimination.{first_with, column_cleared, columns_cleared, turned_rows, basis_of}
use Rattle.lie_spans.proofs.Columns.{State, state_start, step}
use Rattle.lie_spans.proofs.Elimination.{basis_of_is}
use Rattle.lie_rows.specs.Causes.{AreWithin}

-- ---- all columns

pub record Eliminating (columns : ℕ) (rows : List Row) (k : ℕ) (ds rs : List Row) : Type 0 where
  pub left : ℕ
  pub sum : left + k ≡ columns
  pub state : State columns k rows ds rs
  pub value : columns_cleared left k ds rs ≡ columns_cleared columns 0 [] (primitive_parts rows)
  pub fits : AreWithin (columns_bulks left k ds rs) ↔ AreWithin (columns_bulks columns 0 [] (primitive_parts rows))

pub eliminating_start : (columns : ℕ) (rows : List Row) → HaveLength columns rows → Eliminating columns rows 0 [] (primitive_parts rows)
eliminating_start columns rows h = record { left = columns; sum = omega arith; state = state_start columns rows h; value = refl; fits = (λ f. f, λ f. f) }

module _ (columns : ℕ) (rows : List Row) (k : ℕ) (ds rs : List Row) (s : Eliminating columns rows k ds rs) where
  pub eliminating_lengths : HaveLength columns ds × HaveLength columns rs
  eliminating_lengths = (s.state.lengths, s.state.other_lengths)

  pub eliminating_more : k < columns → AreWithin (column_bulks k ds (first_with k rs)) → Eliminating columns rows (k + 1) (column_cleared k ds rs (first_with k rs)).0 (column_cleared k ds rs (first_with k rs)).1
  eliminating_more h p = go s.left s.sum s.value s.fits
    where
      go : (m : ℕ) → m + k ≡ columns → columns_cleared m k ds rs ≡ columns_cleared columns 0 [] (primitive_parts rows) → (AreWithin (columns_bulks m k ds rs) ↔ AreWithin (columns_bulks columns 0 [] (primitive_parts rows))) → Eliminating columns rows (k + 1) (column_cleared k ds rs (first_with k rs)).0 (column_cleared k ds rs (first_with k rs)).1
      go zero e v f = absurd (omega arith)
      go (suc m) e v f = subst (λ j. Eliminating columns rows j (column_cleared k ds rs (first_with k rs)).0 (column_cleared k ds rs (first_with k rs)).1) (sym (add-one k)) (record {
        left = m;
        sum = omega arith;
        state = step columns k rows ds rs s.state;
        value = v;
        fits = (
          λ g. f.0 (every-append (λ b. b < number_limit) (column_bulks k ds (first_with k rs)) (columns_bulks m (suc k) (column_cleared k ds rs (first_with k rs)).0 (column_cleared k ds rs (first_with k rs)).1) p g),
          λ g. every-back (λ b. b < number_limit) (column_bulks k ds (first_with k rs)) (columns_bulks m (suc k) (column_cleared k ds rs (first_with k rs)).0 (column_cleared k ds rs (first_with k rs)).1) (f.1 g),
        );
      })

  pub eliminating_part : k < columns → AreWithin (basis_bulks columns rows) → AreWithin (column_bulks k ds (first_with k rs))
  unfolding basis_bulks
  eliminating_part h b = go s.left s.sum s.fits
    where
      go : (m : ℕ) → m + k ≡ columns → (AreWithin (columns_bulks m k ds rs) ↔ AreWithin (columns_bulks columns 0 [] (primitive_parts rows))) → AreWithin (column_bulks k ds (first_with k rs))
      go zero e f = absurd (omega arith)
      go (suc m) e f = every-front (λ b. b < number_limit) (column_bulks k ds (first_with k rs)) (columns_bulks m (suc k) (column_cleared k ds rs (first_with k rs)).0 (column_cleared k ds rs (first_with k rs)).1) (f.1 b)

  pub eliminating_end : columns ≤ k → HaveLength columns rows → (IsReducedBasis columns (λ w. IsSpanned entry rows (entry w)) (turned_rows ds)) × AreWithin (basis_bulks columns rows)
  unfolding basis_bulks basis_of
  eliminating_end h l = go s.left s.sum s.value s.fits
    where
      go : (m : ℕ) → m + k ≡ columns → columns_cleared m k ds rs ≡ columns_cleared columns 0 [] (primitive_parts rows) → (AreWithin (columns_bulks m k ds rs) ↔ AreWithin (columns_bulks columns 0 [] (primitive_parts rows))) → (IsReducedBasis columns (λ w. IsSpanned entry rows (entry w)) (turned_rows ds)) × AreWithin (columns_bulks columns 0 [] (primitive_parts rows))
      go zero e v f = (subst (λ ps. IsReducedBasis columns (λ w. IsSpanned entry rows (entry w)) (turned_rows ps)) (sym v) (basis_of_is columns rows l), f.0 tt)
      go (suc m) e v f = absurd (omega arith)
