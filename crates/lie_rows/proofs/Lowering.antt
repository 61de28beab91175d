-- The steps of reducing a row by the kept rows.
use Rattle.std.proofs.Common.{◌≡◌, ℕ, suc, ◌-◌, ◌<◌, ◌↔◌, List, [], ◌∷◌, ◌++◌, length, refl, sym, ap, ◌∙◌, subst, arith, cond, true, false, true≢false, pos, Option, Some, None}
use Rattle.std.specs.Prelude.{MatchOption}
use Rattle.std.specs.Option.{is_some}
use Rattle.std.specs.List.{AllByRecursion as Every}
use Rattle.lie_math.specs.Integer.{is_zero_int}
use Rattle.lie_math.specs.Limits.{number_limit}
use Rattle.lie_math.proofs.EveryElement.{every-append, every-front, every-back}
use Rattle.lie_spans.specs.Bulks.{difference_bulks, clearing_bulks, lowered_in_bulks, lowered_bulks}
use Rattle.lie_spans.specs.Rows.{Row, entry, HaveLength}
use Rattle.lie_spans.specs.Content.{nonzero_row, primitive_part}
use Rattle.lie_spans.specs.Elimination.{over_common, eliminated_row, cleared_rows, first_with}
use Rattle.lie_spans.specs.KeptRows.{AreKept, ending_at, lowered_in, lowered_rows}
use Rattle.lie_spans.proofs.FirstWith.{Told, first_with_told}
use Rattle.lie_spans.proofs.KeptRows.{Lower, lower_start, lower_step}
use Rattle.lie_rows.specs.Causes.{AreWithin}

-- ---- a row reduced by the kept rows

pub record Lowering (columns : ℕ) (kept : List Row) (row : Row) (k : ℕ) (left : List Row) : Type 0 where
  pub lower : Lower columns kept k (row ∷ []) left
  pub value : lowered_rows k kept left ≡ lowered_rows columns kept (nonzero_row row)
  pub fits : AreWithin (lowered_bulks k kept left) ↔ AreWithin (lowered_bulks columns kept (nonzero_row row))

pub lowering_start : (columns : ℕ) (kept : List Row) (row : Row) → AreKept columns kept → length row ≡ columns → Lowering columns kept row columns (nonzero_row row)
lowering_start columns kept row h l = record { lower = lower_start columns kept h row l; value = refl; fits = (λ f. f, λ f. f) }

module _ (columns : ℕ) (kept : List Row) (row : Row) (h : AreKept columns kept) (k : ℕ) (left : List Row) (s : Lowering columns kept row k left) (low : 0 < k) where
  before : suc (k - 1) ≡ k
  before = omega arith

  here : Lowering columns kept row (suc (k - 1)) left
  here = subst (λ j. Lowering columns kept row j left) (sym before) s

  pub lowering_part : AreWithin (lowered_bulks columns kept (nonzero_row row)) → AreWithin (lowered_in_bulks (k - 1) left (ending_at (k - 1) kept))
  lowering_part w = every-front (λ b. b < number_limit) (lowered_in_bulks (k - 1) left (ending_at (k - 1) kept)) (lowered_bulks (k - 1) kept (lowered_in (k - 1) left (ending_at (k - 1) kept))) (here.fits.1 w)

  pub lowering_more : (new : List Row) → new ≡ lowered_in (k - 1) left (ending_at (k - 1) kept) → AreWithin (lowered_in_bulks (k - 1) left (ending_at (k - 1) kept)) → Lowering columns kept row (k - 1) new
  lowering_more new e f = subst (Lowering columns kept row (k - 1)) (sym e) (record {
    lower = lower_step columns kept h (k - 1) (row ∷ []) left here.lower;
    value = here.value;
    fits = (
      λ g. here.fits.0 (every-append (λ b. b < number_limit) (lowered_in_bulks (k - 1) left (ending_at (k - 1) kept)) (lowered_bulks (k - 1) kept (lowered_in (k - 1) left (ending_at (k - 1) kept))) f g),
      λ g. every-back (λ b. b < number_limit) (lowered_in_bulks (k - 1) left (ending_at (k - 1) kept)) (lowered_bulks (k - 1) kept (lowered_in (k - 1) left (ending_at (k - 1) kept))) (here.fits.1 g),
    );
  })

pub lowering_end : (columns : ℕ) (kept : List Row) (row : Row) (k : ℕ) (left : List Row) → k ≡ 0 → Lowering columns kept row k left → (left ≡ lowered_rows columns kept (nonzero_row row)) × AreWithin (lowered_bulks columns kept (nonzero_row row))
lowering_end columns kept row k left e s =
    let t : Lowering columns kept row 0 left = subst (λ j. Lowering columns kept row j left) e s in (t.value, t.fits.0 tt)

pub lowering_lengths : (columns : ℕ) (kept : List Row) (row : Row) (k : ℕ) (left : List Row) → Lowering columns kept row k left → HaveLength columns left
lowering_lengths columns kept row k left s = (s.lower).lengths

-- rows with 0 in a column stay as they are, and nothing is made
module _ (k : ℕ) where
  cleared_none : (q : Row) (rs : List Row) → Every (λ r. entry r k ≡ pos 0) rs → (rs ≡ cleared_rows q k rs) × AreWithin (clearing_bulks q k rs)
  cleared_none q [] h = (refl, tt)
  cleared_none q (r ∷ rs) h =
      let t = cleared_none q rs h.1 in
      let z : is_zero_int (entry r k) ≡ true = ap is_zero_int h.0 in (
        ap (λ xs. r ∷ xs) t.0 ∙ sym (ap (λ b. cond b (r ∷ []) (primitive_part (eliminated_row q k r)) ++ cleared_rows q k rs) z),
        subst (λ bs. AreWithin (bs ++ clearing_bulks q k rs)) (sym (ap (λ b. cond b [] (difference_bulks (over_common (entry q k) (entry r k)) (over_common (entry r k) (entry q k)) r q)) z)) t.1,
      )

  pub lowered_in_none : (kept rs : List Row) → first_with k rs ≡ None → (rs ≡ lowered_in k rs (ending_at k kept)) × AreWithin (lowered_in_bulks k rs (ending_at k kept))
  lowered_in_none kept rs e = go (ending_at k kept)
    where
      zeros : Every (λ r. entry r k ≡ pos 0) rs
      zeros = subst (Told k rs) e (first_with_told k rs)

      go : (o : Option Row) → (rs ≡ lowered_in k rs o) × AreWithin (lowered_in_bulks k rs o)
      go None = (refl, tt)
      go (Some q) = cleared_none q rs zeros

-- what is said of None
pub when_none : {X A : Type 0} (B : X → Type 0) (o : Option X) → is_some o ≡ false → MatchOption o A B → A
when_none B None e a = a
when_none B (Some x) e a = absurd (true≢false e)
