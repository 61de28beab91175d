-- The steps of keeping rows.
use Rattle.std.proofs.Common.{◌≡◌, ℕ, zero, suc, ◌+◌, ◌<◌, ◌≤◌, ◌↔◌, List, [], ◌∷◌, ◌++◌, length, map, get_or, drop, refl, sym, ap, ◌∙◌, subst, arith, ℤ, pos, ⊎_elim, drop_of_length-le, Vec, Global}
use Rattle.std.specs.List.{AllByRecursion as Every}
use Rattle.std.proofs.lemmas.Bool.{cases_lt}
use Rattle.std.proofs.lemmas.List.{map-append}
use Rattle.lie_math.specs.Limits.{number_limit}
use Rattle.lie_math.proofs.EveryElement.{every-weaken, every-append, every-front, every-back}
use Rattle.lie_spans.specs.Bulks.{clearing_bulks, lowered_bulks, kept_with_bulks, kept_bulks}
use Rattle.lie_spans.specs.Content.{row_content, nonzero_row}
use Rattle.lie_spans.specs.Elimination.{cleared_rows}
use Rattle.lie_spans.specs.KeptRows.{AreKept, last_column, lowered_rows, kept_with, kept_rows}
use Rattle.lie_spans.specs.Rows.{Row, entry, HaveLength}
use Rattle.lie_spans.proofs.Clearing.{entry_past_end}
use Rattle.lie_spans.proofs.Content.{content_vanishes}
use Rattle.lie_spans.proofs.KeptRows.{Zeros, Lower, lower_start, left_counts, lowered_is, kept_none, row_is, ends_kept}
use Rattle.lie_rows.specs.Causes.{AreWithin}
use Rattle.lie_rows.specs.Rows.{rows_of, AreEnds, AreLeftOver}
use Rattle.lie_rows.proofs.RowLists.{rows_at, row_at_is, every_row_at}

-- ---- the row that is left over
module _ (columns : ℕ) (kept left : List (Vec ℤ Global)) (p : Vec ℤ Global) (some : 0 < length left) (e : p ≡ get_or left 0 p) (h : AreLeftOver columns (rows_of kept) (rows_of left)) where
  first_is : (ls : List (Vec ℤ Global)) → 0 < length ls → p ≡ get_or ls 0 p → (rs : List Row) × (rows_of ls ≡ p.items ∷ rs)
  first_is [] h f = absurd (omega arith)
  first_is (x ∷ ls) h f = (rows_of ls, ap (λ (y : Vec ℤ Global). y.items ∷ rows_of ls) (sym f))

  first : (rs : List Row) × (rows_of left ≡ p.items ∷ rs)
  first = first_is left some e

  pub leftover_length : length p.items ≡ columns
  leftover_length = (subst (HaveLength columns) first.1 h.lengths).0

  pub leftover_counts : ¬ (entry p.items (last_column p.items) ≡ pos 0)
  leftover_counts = (subst (Every (λ r. ¬ (entry r (last_column r) ≡ pos 0))) first.1 h.counts).0

  leftover_apart : Every (λ q. entry p.items (last_column q) ≡ pos 0) (rows_of kept)
  leftover_apart = (subst (Every (λ r. Every (λ q. entry r (last_column q) ≡ pos 0) (rows_of kept))) first.1 h.apart).0

  pub leftover_inside : last_column p.items < length p.items
  leftover_inside = ⊎_elim (λ l. l) (λ l. absurd (leftover_counts (entry_past_end p.items (last_column p.items) l))) (cases_lt (last_column p.items) (length p.items))

  pub leftover_lengths : AreKept columns (rows_of kept) → HaveLength (length p.items) (rows_of kept)
  leftover_lengths g = subst (λ n. HaveLength n (rows_of kept)) (sym leftover_length) g.lengths

  pub leftover_items : (out new : List Row) → out ≡ cleared_rows p.items (last_column p.items) (rows_of kept) → new ≡ out ++ p.items ∷ [] → new ≡ kept_with (rows_of kept) (rows_of left)
  leftover_items out new a b = b ∙ ap (λ rs. rs ++ p.items ∷ []) a ∙ ap (kept_with (rows_of kept)) (sym first.1)

  -- the last columns stay, and that of the new row comes behind them
  pub leftover_ends : AreKept columns (rows_of kept) → (ends new_ends : List ℕ) → AreEnds (rows_of kept) ends → new_ends ≡ ends ++ last_column p.items ∷ []
      → (out new : List Row) → out ≡ cleared_rows p.items (last_column p.items) (rows_of kept) → new ≡ out ++ p.items ∷ [] → AreEnds new new_ends
  leftover_ends g ends new_ends f en out new a b =
      ap (map last_column) b ∙ map-append last_column out (p.items ∷ [])
      ∙ ap (λ rs. map last_column rs ++ last_column p.items ∷ []) a
      ∙ ap (λ ns. ns ++ last_column p.items ∷ []) (ends_kept columns (rows_of kept) g p.items leftover_length has leftover_apart ∙ f) ∙ sym en
    where
      has : 0 < row_content p.items
      has = go (row_content p.items) refl
        where
          go : (n : ℕ) → row_content p.items ≡ n → 0 < row_content p.items
          go zero z = absurd (leftover_counts (content_vanishes p.items z (last_column p.items)))
          go (suc n) z = omega (arith, z)

  pub leftover_fits : AreWithin (clearing_bulks p.items (last_column p.items) (rows_of kept)) → AreWithin (kept_with_bulks (rows_of kept) (rows_of left))
  leftover_fits f = subst (λ rs. AreWithin (kept_with_bulks (rows_of kept) rs)) (sym first.1) f

  pub leftover_part : AreWithin (kept_with_bulks (rows_of kept) (rows_of left)) → AreWithin (clearing_bulks p.items (last_column p.items) (rows_of kept))
  leftover_part f = subst (λ rs. AreWithin (kept_with_bulks (rows_of kept) rs)) first.1 f

pub leftover_none : (kept left : List (Vec ℤ Global)) → length left ≡ 0 → (rows_of kept ≡ kept_with (rows_of kept) (rows_of left)) × AreWithin (kept_with_bulks (rows_of kept) (rows_of left))
leftover_none kept [] h = (refl, tt)
leftover_none kept (x ∷ ls) h = absurd (omega arith)

-- ---- all rows

pub record Keeping (columns : ℕ) (rows : List (Vec ℤ Global)) (i : ℕ) (kept : List Row) : Type 0 where
  pub is_kept : AreKept columns kept
  pub value : kept_rows columns kept (rows_of (drop i rows)) ≡ kept_rows columns [] (rows_of rows)
  pub fits : AreWithin (kept_bulks columns kept (rows_of (drop i rows))) ↔ AreWithin (kept_bulks columns [] (rows_of rows))

pub keeping_start : (columns : ℕ) (rows : List (Vec ℤ Global)) → Keeping columns rows 0 []
keeping_start columns rows = record { is_kept = kept_none columns; value = refl; fits = (λ f. f, λ f. f) }

module _ (columns : ℕ) (rows : List (Vec ℤ Global)) (i : ℕ) (kept : List Row) (s : Keeping columns rows i kept) (x : Vec ℤ Global) (h : i < length rows) (e : x ≡ get_or rows i x) (hl : HaveLength columns (rows_of rows)) where
  now : rows_of (drop i rows) ≡ x.items ∷ rows_of (drop (i + 1) rows)
  now = rows_at rows i x h e

  fits_now : AreWithin (kept_bulks columns kept (x.items ∷ rows_of (drop (i + 1) rows))) ↔ AreWithin (kept_bulks columns [] (rows_of rows))
  fits_now = subst (λ rs. AreWithin (kept_bulks columns kept rs) ↔ AreWithin (kept_bulks columns [] (rows_of rows))) now s.fits

  pub keeping_length : length x.items ≡ columns
  keeping_length = ap length (sym (row_at_is rows i x h e)) ∙ every_row_at (λ r. length r ≡ columns) rows i h hl

  pub keeping_lower : Lower columns kept 0 (x.items ∷ []) (lowered_rows columns kept (nonzero_row x.items))
  keeping_lower = lowered_is columns kept s.is_kept columns (x.items ∷ []) (nonzero_row x.items) (lower_start columns kept s.is_kept x.items keeping_length)

  pub keeping_left_over : AreLeftOver columns kept (lowered_rows columns kept (nonzero_row x.items))
  keeping_left_over = record {
    lengths = keeping_lower.lengths;
    counts = left_counts (lowered_rows columns kept (nonzero_row x.items)) keeping_lower.some;
    apart = every-weaken (Zeros kept 0) (λ r. Every (λ q. entry r (last_column q) ≡ pos 0) kept)
        (λ r z. every-weaken (λ q. 0 ≤ last_column q → entry r (last_column q) ≡ pos 0) (λ q. entry r (last_column q) ≡ pos 0) (λ q f. f (omega arith)) kept z)
        (lowered_rows columns kept (nonzero_row x.items)) keeping_lower.zeros;
  }

  -- the actions of the next row, and those of the rows after it
  parts : AreWithin (kept_bulks columns kept (x.items ∷ rows_of (drop (i + 1) rows))) → AreWithin (lowered_bulks columns kept (nonzero_row x.items)) × AreWithin (kept_with_bulks kept (lowered_rows columns kept (nonzero_row x.items))) × AreWithin (kept_bulks columns (kept_with kept (lowered_rows columns kept (nonzero_row x.items))) (rows_of (drop (i + 1) rows)))
  parts w =
      let both = every-back (λ b. b < number_limit) (lowered_bulks columns kept (nonzero_row x.items)) ((kept_with_bulks kept (lowered_rows columns kept (nonzero_row x.items))) ++ (kept_bulks columns (kept_with kept (lowered_rows columns kept (nonzero_row x.items))) (rows_of (drop (i + 1) rows)))) w in
      (every-front (λ b. b < number_limit) (lowered_bulks columns kept (nonzero_row x.items)) ((kept_with_bulks kept (lowered_rows columns kept (nonzero_row x.items))) ++ (kept_bulks columns (kept_with kept (lowered_rows columns kept (nonzero_row x.items))) (rows_of (drop (i + 1) rows)))) w, every-front (λ b. b < number_limit) (kept_with_bulks kept (lowered_rows columns kept (nonzero_row x.items))) (kept_bulks columns (kept_with kept (lowered_rows columns kept (nonzero_row x.items))) (rows_of (drop (i + 1) rows))) both, every-back (λ b. b < number_limit) (kept_with_bulks kept (lowered_rows columns kept (nonzero_row x.items))) (kept_bulks columns (kept_with kept (lowered_rows columns kept (nonzero_row x.items))) (rows_of (drop (i + 1) rows))) both)

  pub keeping_part_lower : AreWithin (kept_bulks columns [] (rows_of rows)) → AreWithin (lowered_bulks columns kept (nonzero_row x.items))
  keeping_part_lower w = (parts (fits_now.1 w)).0

  pub keeping_part_with : AreWithin (kept_bulks columns [] (rows_of rows)) → AreWithin (kept_with_bulks kept (lowered_rows columns kept (nonzero_row x.items)))
  keeping_part_with w = (parts (fits_now.1 w)).1

  pub keeping_more : (new : List Row) → new ≡ kept_with kept (lowered_rows columns kept (nonzero_row x.items)) → AreWithin (lowered_bulks columns kept (nonzero_row x.items)) → AreWithin (kept_with_bulks kept (lowered_rows columns kept (nonzero_row x.items))) → Keeping columns rows (i + 1) new
  keeping_more new n f g = subst (Keeping columns rows (i + 1)) (sym n) (record {
    is_kept = (row_is columns kept x.items keeping_length s.is_kept).kept_rows;
    value = ap (kept_rows columns kept) (sym now) ∙ s.value;
    fits = (
      λ t. fits_now.0 (every-append (λ b. b < number_limit) (lowered_bulks columns kept (nonzero_row x.items)) ((kept_with_bulks kept (lowered_rows columns kept (nonzero_row x.items))) ++ (kept_bulks columns (kept_with kept (lowered_rows columns kept (nonzero_row x.items))) (rows_of (drop (i + 1) rows)))) f (every-append (λ b. b < number_limit) (kept_with_bulks kept (lowered_rows columns kept (nonzero_row x.items))) (kept_bulks columns (kept_with kept (lowered_rows columns kept (nonzero_row x.items))) (rows_of (drop (i + 1) rows))) g t)),
      λ t. (parts (fits_now.1 t)).2,
    );
  })

pub keeping_end : (columns : ℕ) (rows : List (Vec ℤ Global)) (i : ℕ) (kept : List Row) → length rows ≤ i → Keeping columns rows i kept → (kept ≡ kept_rows columns [] (rows_of rows)) × AreWithin (kept_bulks columns [] (rows_of rows))
keeping_end columns rows i kept h s =
    let zero_of_test : drop i rows ≡ [] = drop_of_length-le rows h in (
      ap (λ ys. kept_rows columns kept (rows_of ys)) (sym zero_of_test) ∙ s.value,
      s.fits.0 (subst (λ ys. AreWithin (kept_bulks columns kept (rows_of ys))) (sym zero_of_test) tt),
    )
