-- The elimination from the last column keeps the span, so its solutions are the reduced basis of what the rows take to 0.
use Rattle.std.specs.Prelude.{◌≡◌, ℕ, zero, suc, ◌<◌, ◌≤◌, ◌==◌, Bool, true, false, cond, List, [], ◌∷◌, ◌++◌, map, ℤ, pos, ◌+ℤ◌, ◌*ℤ◌, neg_ℤ, unsigned_abs, length, Some, None}
use Rattle.std.proofs.Common.{refl, sym, ap, ap₂, subst, ◌∙◌, arith, ⊎_elim, append-nil}
use Rattle.std.specs.List.{AllByRecursion as Every}
use Rattle.std.proofs.lemmas.Bool.{cases_lt}
use Rattle.std.proofs.lemmas.List.{map-append}
use Rattle.lie_math.specs.Integer.{is_zero_int, integer_ring}
use Rattle.lie_math.proofs.Integer.{no_zero_divisors_ℤ}
use Rattle.lie_math.proofs.RingSolver.{v, c0, ◌⊕◌, ◌⊗◌, ⊖, solve, listed}
use Rattle.lie_spans.specs.Spans.{IsSpanned}
use Rattle.lie_spans.specs.Rows.{Row, entry, IsReducedBasis}
use Rattle.lie_spans.specs.Content.{row_content, divided_row, nonzero_row, primitive_part}
use Rattle.lie_spans.specs.Elimination.{cleared_rows, cleared_row, eliminated_row}
use Rattle.lie_spans.specs.Kernel.{IsKernel}
use Rattle.lie_spans.specs.KeptRows.{AreKept, Clear, last_column, ending_at, lowered_in, lowered_rows, kept_with, kept_rows}
use Rattle.lie_spans.specs.Solutions.{solution_rows, kernel_of}
use Rattle.lie_math.proofs.EveryElement.{every-weaken, every_both, every-append, every-front, every-back}
use Rattle.lie_spans.proofs.Lists.{every_two-append}
use Rattle.lie_spans.proofs.Spans.{spanned_each, spanned_through, spanned_same, spanned-zero}
use Rattle.lie_spans.proofs.Content.{positive_of_test, zero_of_test, content_vanishes}
use Rattle.lie_spans.proofs.Clearing.{IsCleared, cleared_each, cleared_two, cleared_row_one, cleared_spans, cleared_spanned, zero_on, zero_back}
use Rattle.lie_spans.proofs.Dots.{kernel_through}
use Rattle.lie_spans.proofs.LastColumns.{entry_after_last, entry_at_last, last_column_is}
use Rattle.lie_spans.proofs.EndingAt.{Told, ending_at_told, Into, ending_at_into, Crossed, crossed}
use Rattle.lie_spans.proofs.OneSolution.{last_column_below}
use Rattle.lie_spans.proofs.Solutions.{solutions_are}

abbrev pub Sp : List Row → Row → Type 0
Sp xs r = IsSpanned entry xs (entry r)

abbrev pub AtMostOne : List Row → Type 0
AtMostOne [] = Unit {0}
AtMostOne (r ∷ []) = Unit {0}
AtMostOne (r ∷ (s ∷ rs)) = ⊥

few_parted : (t : Bool) (r : Row) → AtMostOne (cond t [] (r ∷ []))
few_parted true r = tt
few_parted false r = tt

few_cleared_row : (p : Row) (k : ℕ) (r : Row) → AtMostOne (cleared_row p k r)
few_cleared_row p k r = elim (is_zero_int (entry r k)) as (λ t. AtMostOne (cond t (r ∷ []) (primitive_part (eliminated_row p k r)))) [
  | true ↦ tt
  | false ↦ few_parted (row_content (eliminated_row p k r) == 0) (divided_row (row_content (eliminated_row p k r)) (eliminated_row p k r))
]

few_cleared : (p : Row) (k : ℕ) (rs : List Row) → AtMostOne rs → AtMostOne (cleared_rows p k rs)
few_cleared p k [] h = tt
few_cleared p k (r ∷ []) h = subst AtMostOne (sym (append-nil (cleared_row p k r))) (few_cleared_row p k r)
few_cleared p k (r ∷ (s ∷ rs)) h = absurd h

-- a row that is not zero
abbrev pub HasEntry : Row → Type 0
HasEntry r = 0 < row_content r

-- ---- a row reduced by the kept rows

abbrev pub Zeros : List Row → ℕ → Row → Type 0
Zeros kept k r = Every (λ q. k ≤ last_column q → entry r (last_column q) ≡ pos 0) kept

pub record Lower (n : ℕ) (kept : List Row) (k : ℕ) (ls ms : List Row) : Type 0 where
  pub lengths : Every (λ r. length r ≡ n) ms
  pub some : Every HasEntry ms
  pub zeros : Every (Zeros kept k) ms
  pub few : AtMostOne ms
  pub spanned : (xs : List Row) → Every (Sp xs) kept → Every (Sp xs) ls → Every (Sp xs) ms
  pub spans : (xs : List Row) → Every (Sp xs) kept → Every (Sp xs) ms → Every (Sp xs) ls

abbrev Facts : ℕ → List Row → Row → Type 0
Facts n kept q = ((length q ≡ n) × (¬ (entry q (last_column q) ≡ pos 0))) × Crossed kept q

facts : (n : ℕ) (kept : List Row) → AreKept n kept → Every (Facts n kept) kept
facts n kept h = every_both (λ q. (length q ≡ n) × (¬ (entry q (last_column q) ≡ pos 0))) (Crossed kept) (Facts n kept) (λ q a b. (a, b)) kept
    (every_both (λ q. length q ≡ n) (λ q. ¬ (entry q (last_column q) ≡ pos 0)) (λ q. (length q ≡ n) × (¬ (entry q (last_column q) ≡ pos 0))) (λ q a b. (a, b)) kept h.lengths h.counts)
    (crossed kept h.clear)

module _ (n : ℕ) (kept : List Row) (h : AreKept n kept) (k : ℕ) (ls ms : List Row) (s : Lower n kept (suc k) ls ms) where
  lower_none : Told k kept None → Lower n kept k ls ms
  lower_none t = record {
    lengths = s.lengths;
    some = s.some;
    zeros = every-weaken (Zeros kept (suc k)) (Zeros kept k) (λ r z. every_both (λ q. suc k ≤ last_column q → entry r (last_column q) ≡ pos 0) (λ q. ¬ (last_column q ≡ k)) (λ q. k ≤ last_column q → entry r (last_column q) ≡ pos 0) (λ q f g l. f (above (last_column q) g l)) kept z t) ms s.zeros;
    few = s.few;
    spanned = s.spanned;
    spans = s.spans;
  }
    where
      above : (m : ℕ) → ¬ (m ≡ k) → k ≤ m → suc k ≤ m
      above m g l = omega arith

  lower_some : (p : Row) → Told k kept (Some p) → Facts n kept p → ((xs : List Row) → Every (Sp xs) kept → Sp xs p) → Lower n kept k ls (cleared_rows p k ms)
  lower_some p t f sp = record {
    lengths = cleared_each p k counts n f.0.0 (λ r. length r ≡ n) (λ r. length r ≡ n) (λ r d l c. c.length ∙ l) ms s.lengths s.lengths;
    some = cleared_each p k counts n f.0.0 HasEntry HasEntry (λ r d l c. c.some l) ms s.lengths s.some;
    zeros = cleared_each p k counts n f.0.0 (Zeros kept (suc k)) (Zeros kept k) zeros ms s.lengths s.zeros;
    few = few_cleared p k ms s.few;
    spanned = λ xs a b. cleared_each p k counts n f.0.0 (Sp xs) (Sp xs) (cleared_spanned p k counts n f.0.0 xs (sp xs a)) ms s.lengths (s.spanned xs a b);
    spans = λ xs a b. s.spans xs a (cleared_spans p k counts n f.0.0 xs (sp xs a) ms s.lengths b);
  }
    where
      counts : ¬ (entry p k ≡ pos 0)
      counts z = f.0.1 (ap (entry p) t ∙ z)

      zeros : (r d : Row) → Zeros kept (suc k) r → IsCleared p k r d → Zeros kept k d
      zeros r d z c = every_both (λ q. suc k ≤ last_column q → entry r (last_column q) ≡ pos 0) (λ q. ¬ (last_column q ≡ last_column p) → entry p (last_column q) ≡ pos 0) (λ q. k ≤ last_column q → entry d (last_column q) ≡ pos 0)
          (λ q a b l. ⊎_elim
          (λ m. zero_on p k r d c (last_column q) (b (λ e. absurd (omega (arith, t)))) (a (omega arith)))
          (λ m. ap (entry d) (let e : last_column q ≡ k = omega arith in e) ∙ c.gone)
          (cases_lt k (last_column q))) kept z f.1

pub lower_step : (n : ℕ) (kept : List Row) → AreKept n kept → (k : ℕ) (ls ms : List Row) → Lower n kept (suc k) ls ms → Lower n kept k ls (lowered_in k ms (ending_at k kept))
lower_step n kept h k ls ms s = elim (ending_at k kept) as (λ o. Told k kept o → Into (Facts n kept) o → ((xs : List Row) → Every (Sp xs) kept → Into (Sp xs) o) → Lower n kept k ls (lowered_in k ms o)) [
  | None ↦ λ t f g. lower_none n kept h k ls ms s t
  | Some p ↦ λ t f g. lower_some n kept h k ls ms s p t f g
] (ending_at_told k kept) (ending_at_into (Facts n kept) k kept (facts n kept h)) (λ xs a. ending_at_into (Sp xs) k kept a)

pub lowered_is : (n : ℕ) (kept : List Row) → AreKept n kept → (k : ℕ) (ls ms : List Row) → Lower n kept k ls ms → Lower n kept 0 ls (lowered_rows k kept ms)
lowered_is n kept h zero ls ms s = s
lowered_is n kept h (suc k) ls ms s = lowered_is n kept h k ls (lowered_in k ms (ending_at k kept)) (lower_step n kept h k ls ms s)

-- ---- a row that is left over is kept

pub record Outcome (n : ℕ) (kept rows new : List Row) : Type 0 where
  pub kept_rows : AreKept n new
  pub kept_spanned : Every (Sp new) kept
  pub rows_spanned : Every (Sp new) rows
  pub spanned : (xs : List Row) → Every (Sp xs) kept → Every (Sp xs) rows → Every (Sp xs) new

module _ (n : ℕ) (kept : List Row) (g : AreKept n kept) (p : Row) (lp : length p ≡ n) (some : HasEntry p) (z : Every (λ q. entry p (last_column q) ≡ pos 0) kept) where
  p_counts : ¬ (entry p (last_column p) ≡ pos 0)
  p_counts = entry_at_last p some

  abbrev Old : Row → Type 0
  Old q = (¬ (entry q (last_column q) ≡ pos 0)) × (entry p (last_column q) ≡ pos 0)

  old : Every Old kept
  old = every_both (λ q. ¬ (entry q (last_column q) ≡ pos 0)) (λ q. entry p (last_column q) ≡ pos 0) Old (λ q a b. (a, b)) kept g.counts z

  -- a reduced row keeps its last column
  same_last : (q d : Row) → Old q → IsCleared p (last_column p) q d → last_column d ≡ last_column q
  same_last q d o c = last_column_is d (last_column q) (λ e. o.0 (zero_back p (last_column p) q d c (last_column q) o.1 e)) (λ j l. ⊎_elim
      (λ m.
      let idle : c.down ≡ pos 0 = c.idle (entry_after_last q (last_column p) m) in
      no_zero_divisors_ℤ c.scale (entry d j) (counts c.scale c.scale_counts)
      (c.same j ∙ ap₂ (λ x y. c.up *ℤ x +ℤ neg_ℤ (y *ℤ entry p j)) (entry_after_last q j l) idle ∙ solve integer_ring (listed (pos 0) (c.up ∷ entry p j ∷ [])) (v 0 ⊗ c0 ⊕ ⊖ (c0 ⊗ v 1)) c0 refl))
      (λ m. zero_on p (last_column p) q d c j (entry_after_last p j (omega arith)) (entry_after_last q j l))
      (cases_lt (last_column q) (last_column p)))
    where
      counts : (x : ℤ) → 0 < unsigned_abs x → ¬ (x ≡ pos 0)
      counts x h e = let f : unsigned_abs x ≡ 0 = ap unsigned_abs e in omega arith

  still_counts : (q d : Row) → Old q → IsCleared p (last_column p) q d → ¬ (entry d (last_column d) ≡ pos 0)
  still_counts q d o c e = o.0 (zero_back p (last_column p) q d c (last_column q) o.1 (ap (entry d) (sym (same_last q d o c)) ∙ e))

  still_clear : (x y d e : Row) → Old x → Old y → Clear x y → IsCleared p (last_column p) x d → IsCleared p (last_column p) y e → Clear d e
  still_clear x y d e ox oy k c f = record {
    left = ap (entry d) (same_last y e oy f) ∙ zero_on p (last_column p) x d c (last_column y) oy.1 k.left;
    right = ap (entry e) (same_last x d ox c) ∙ zero_on p (last_column p) y e f (last_column x) ox.1 k.right;
  }

  clear_new : (q d : Row) → Old q → IsCleared p (last_column p) q d → Every (Clear d) (p ∷ [])
  clear_new q d o c = (record { left = c.gone; right = ap (entry p) (same_last q d o c) ∙ o.1 }, tt)

  kept_new : AreKept n (cleared_rows p (last_column p) kept ++ p ∷ [])
  kept_new = record {
    lengths = every-append (λ r. length r ≡ n) (cleared_rows p (last_column p) kept) (p ∷ []) (cleared_each p (last_column p) p_counts n lp (λ r. length r ≡ n) (λ r. length r ≡ n) (λ r d l c. c.length ∙ l) kept g.lengths g.lengths) (lp, tt);
    counts = every-append (λ r. ¬ (entry r (last_column r) ≡ pos 0)) (cleared_rows p (last_column p) kept) (p ∷ []) (cleared_each p (last_column p) p_counts n lp Old (λ r. ¬ (entry r (last_column r) ≡ pos 0)) still_counts kept g.lengths old) (p_counts, tt);
    clear = every_two-append Clear (cleared_rows p (last_column p) kept) (p ∷ [])
        (cleared_two p (last_column p) p_counts n lp Old Clear Clear still_clear kept g.lengths old g.clear) (tt, tt)
        (cleared_each p (last_column p) p_counts n lp Old (λ d. Every (Clear d) (p ∷ [])) clear_new kept g.lengths old);
  }

  -- and so do all
  pub ends_kept : map last_column (cleared_rows p (last_column p) kept) ≡ map last_column kept
  ends_kept = go kept g.lengths old
    where
      go : (qs : List Row) → Every (λ q. length q ≡ n) qs → Every Old qs → map last_column (cleared_rows p (last_column p) qs) ≡ map last_column qs
      go [] l o = refl
      go (q ∷ qs) l o =
          map-append last_column (cleared_row p (last_column p) q) (cleared_rows p (last_column p) qs)
          ∙ ap₂ ◌++◌ (cleared_row_one p (last_column p) p_counts last_column q (lp ∙ sym l.0) (last_column q) o.0.1 o.0.0 (λ d c. same_last q d o.0 c)) (go qs l.1 o.1)

  new_front : Every (Sp (cleared_rows p (last_column p) kept ++ p ∷ [])) (cleared_rows p (last_column p) kept)
  new_front = every-front (Sp (cleared_rows p (last_column p) kept ++ p ∷ [])) (cleared_rows p (last_column p) kept) (p ∷ []) (spanned_each entry (cleared_rows p (last_column p) kept ++ p ∷ []))

  new_last : Sp (cleared_rows p (last_column p) kept ++ p ∷ []) p
  new_last = (every-back (Sp (cleared_rows p (last_column p) kept ++ p ∷ [])) (cleared_rows p (last_column p) kept) (p ∷ []) (spanned_each entry (cleared_rows p (last_column p) kept ++ p ∷ []))).0

  kept_in_new : Every (Sp (cleared_rows p (last_column p) kept ++ p ∷ [])) kept
  kept_in_new = cleared_spans p (last_column p) p_counts n lp (cleared_rows p (last_column p) kept ++ p ∷ []) new_last kept g.lengths new_front

  new_in : (xs : List Row) → Every (Sp xs) kept → Sp xs p → Every (Sp xs) (cleared_rows p (last_column p) kept ++ p ∷ [])
  new_in xs a b = every-append (Sp xs) (cleared_rows p (last_column p) kept) (p ∷ []) (cleared_each p (last_column p) p_counts n lp (Sp xs) (Sp xs) (cleared_spanned p (last_column p) p_counts n lp xs b) kept g.lengths a) (b, tt)

keep_is : (n : ℕ) (kept ls ms : List Row) → AreKept n kept → Lower n kept 0 ls ms → Outcome n kept ls (kept_with kept ms)
keep_is n kept ls [] g s = record {
  kept_rows = g;
  kept_spanned = spanned_each entry kept;
  rows_spanned = s.spans kept (spanned_each entry kept) tt;
  spanned = λ xs a b. a;
}
keep_is n kept ls (p ∷ []) g s =
    let z : Every (λ q. entry p (last_column q) ≡ pos 0) kept = every-weaken (λ q. 0 ≤ last_column q → entry p (last_column q) ≡ pos 0) (λ q. entry p (last_column q) ≡ pos 0) (λ q f. f (omega arith)) kept s.zeros.0 in
    record {
      kept_rows = kept_new n kept g p s.lengths.0 s.some.0 z;
      kept_spanned = kept_in_new n kept g p s.lengths.0 s.some.0 z;
      rows_spanned = s.spans (cleared_rows p (last_column p) kept ++ p ∷ []) (kept_in_new n kept g p s.lengths.0 s.some.0 z) (new_last n kept g p s.lengths.0 s.some.0 z, tt);
      spanned = λ xs a b. new_in n kept g p s.lengths.0 s.some.0 z xs a (s.spanned xs a b).0;
    }
keep_is n kept ls (p ∷ (q ∷ ms)) g s = absurd s.few

-- one more row
pub lower_start : (n : ℕ) (kept : List Row) → AreKept n kept → (r : Row) → length r ≡ n → Lower n kept n (r ∷ []) (nonzero_row r)
lower_start n kept h r l =
    elim (row_content r == 0) as (λ t. (row_content r == 0) ≡ t → Lower n kept n (r ∷ []) (cond t [] (r ∷ []))) [
      | true ↦ λ e. record {
        lengths = tt;
        some = tt;
        zeros = tt;
        few = tt;
        spanned = λ xs a b. tt;
        spans = λ xs a b. (spanned_same entry xs (λ j. pos 0) (entry r) (λ j. sym (content_vanishes r (zero_of_test (row_content r) e) j)) (spanned-zero entry xs), tt);
      }
      | false ↦ λ e. record {
        lengths = (l, tt);
        some = (positive_of_test (row_content r) e, tt);
        zeros = (every_both (λ q. length q ≡ n) (λ q. ¬ (entry q (last_column q) ≡ pos 0)) (λ q. n ≤ last_column q → entry r (last_column q) ≡ pos 0) (λ q a b m. absurd (let k = last_column_below n q a b in omega arith)) kept h.lengths h.counts, tt);
        few = tt;
        spanned = λ xs a b. b;
        spans = λ xs a b. b;
      }
    ] refl

pub row_is : (n : ℕ) (kept : List Row) (r : Row) → length r ≡ n → AreKept n kept → Outcome n kept (r ∷ []) (kept_with kept (lowered_rows n kept (nonzero_row r)))
row_is n kept r l g = keep_is n kept (r ∷ []) (lowered_rows n kept (nonzero_row r)) g (lowered_is n kept g n (r ∷ []) (nonzero_row r) (lower_start n kept g r l))

-- all rows
pub kept_is : (n : ℕ) (kept rs : List Row) → Every (λ r. length r ≡ n) rs → AreKept n kept → Outcome n kept rs (kept_rows n kept rs)
kept_is n kept [] l g = record { kept_rows = g; kept_spanned = spanned_each entry kept; rows_spanned = tt; spanned = λ xs a b. a }
kept_is n kept (r ∷ rs) l g =
    let first : Outcome n kept (r ∷ []) (kept_with kept (lowered_rows n kept (nonzero_row r))) = row_is n kept r l.0 g in
    let rest : Outcome n (kept_with kept (lowered_rows n kept (nonzero_row r))) rs (kept_rows n (kept_with kept (lowered_rows n kept (nonzero_row r))) rs) = kept_is n (kept_with kept (lowered_rows n kept (nonzero_row r))) rs l.1 first.kept_rows in
    let through : (q : Row) → Sp (kept_with kept (lowered_rows n kept (nonzero_row r))) q → Sp (kept_rows n (kept_with kept (lowered_rows n kept (nonzero_row r))) rs) q = λ q s. spanned_through entry (kept_rows n (kept_with kept (lowered_rows n kept (nonzero_row r))) rs) (kept_with kept (lowered_rows n kept (nonzero_row r))) (entry q) rest.kept_spanned s in
    record {
      kept_rows = rest.kept_rows;
      kept_spanned = every-weaken (Sp (kept_with kept (lowered_rows n kept (nonzero_row r)))) (Sp (kept_rows n (kept_with kept (lowered_rows n kept (nonzero_row r))) rs)) through kept first.kept_spanned;
      rows_spanned = (through r first.rows_spanned.0, rest.rows_spanned);
      spanned = λ xs a b. rest.spanned xs (first.spanned xs a (b.0, tt)) b.1;
    }

-- the solutions are the reduced basis of what the rows take to 0
pub kernel_of_is : (n : ℕ) (rows : List Row) → Every (λ r. length r ≡ n) rows → IsReducedBasis n (λ w. IsKernel n rows (entry w)) (kernel_of n rows)
unfolding kernel_of
kernel_of_is n rows l =
    let o : Outcome n [] rows (kept_rows n [] rows) = kept_is n [] rows l (record { lengths = tt; counts = tt; clear = tt }) in
    let b : IsReducedBasis n (λ w. IsKernel n (kept_rows n [] rows) (entry w)) (solution_rows n (kept_rows n [] rows) n 0) = solutions_are n (kept_rows n [] rows) o.kept_rows in
    record {
      lengths = b.lengths;
      reduced = b.reduced;
      spans = λ w e. (
        λ k. (b.spans w e).0 (kernel_through n rows (kept_rows n [] rows) (entry w) (o.spanned rows tt (spanned_each entry rows)) k),
        λ s. kernel_through n (kept_rows n [] rows) rows (entry w) o.rows_spanned ((b.spans w e).1 s),
      );
    }

pub kept_none : (n : ℕ) → AreKept n []
kept_none n = record { lengths = tt; counts = tt; clear = tt }

-- a row that is left over has an entry
pub left_counts : (rs : List Row) → Every HasEntry rs → Every (λ r. ¬ (entry r (last_column r) ≡ pos 0)) rs
left_counts rs h = every-weaken HasEntry (λ r. ¬ (entry r (last_column r) ≡ pos 0)) entry_at_last rs h
