-- The elimination column by column: before column k the pivot rows are apart and the other rows are empty, and both together span what the rows do.
use Rattle.std.specs.Prelude.{◌≡◌, ℕ, zero, suc, ◌+◌, ◌<◌, List, [], ◌∷◌, ◌++◌, pos, ◌*ℤ◌, length, Some, None}
use Rattle.std.proofs.Common.{refl, sym, ap, subst, ◌∙◌, arith, ⊎_elim, append-nil}
use Rattle.std.specs.List.{AllByRecursion as Every}
use Rattle.std.proofs.lemmas.Bool.{cases_lt}
use Rattle.lie_spans.specs.Spans.{EveryTwo, IsSpanned}
use Rattle.lie_spans.specs.Reduced.{HasNoCommonDivisor}
use Rattle.lie_spans.specs.Rows.{Row, entry}
use Rattle.lie_spans.specs.Content.{row_content, divided_row, primitive_parts}
use Rattle.lie_spans.specs.Elimination.{pivot, cleared_rows, first_with, column_cleared, columns_cleared}
use Rattle.lie_math.proofs.EveryElement.{every-weaken, every_both, every-append, every-front, every-back}
use Rattle.lie_spans.proofs.Lists.{every_all, every_two-append}
use Rattle.lie_spans.proofs.Spans.{spanned_each, spanned_through, spanned_same, spanned_over}
use Rattle.lie_spans.proofs.Content.{content_divides, divided_is, length-divided, primitive_divided, vanishes_content, content_primitive}
use Rattle.lie_spans.proofs.Pivots.{Apart, before_pivot, pivot_is}
use Rattle.lie_spans.proofs.Clearing.{IsCleared, cleared_each, cleared_two, cleared_spans, cleared_spanned, entry_past_end, zero_on, zero_back}
use Rattle.lie_spans.proofs.FirstWith.{Into, Back, Told, first_with_into, first_with_back, first_with_told}
use Rattle.lie_spans.proofs.PrimitiveParts.{primitive_parts_each, primitive_parts_span}

pub record IsPivotRow (k : ℕ) (p : Row) : Type 0 where
  pub counts : ¬ (entry p (pivot p) ≡ pos 0)
  pub low : pivot p < k

abbrev pub IsEmpty : ℕ → Row → Type 0
IsEmpty k r = (j : ℕ) → j < k → entry r j ≡ pos 0

pub record State (n k : ℕ) (rows ps rs : List Row) : Type 0 where
  pub lengths : Every (λ r. length r ≡ n) ps
  pub other_lengths : Every (λ r. length r ≡ n) rs
  pub primitive : Every (HasNoCommonDivisor entry) ps
  pub other_primitive : Every (HasNoCommonDivisor entry) rs
  pub pivots : Every (IsPivotRow k) ps
  pub apart : EveryTwo Apart ps
  pub empty : Every (IsEmpty k) rs
  pub spanned : Every (λ r. IsSpanned entry rows (entry r)) ps
  pub other_spanned : Every (λ r. IsSpanned entry rows (entry r)) rs
  pub spans : Every (λ r. IsSpanned entry (ps ++ rs) (entry r)) rows

module _ (n k : ℕ) (rows ps rs : List Row) (s : State n k rows ps rs) where
  -- no row has an entry in the column
  pub state_none : Told k rs None → State n (suc k) rows ps rs
  state_none t = record {
    lengths = s.lengths;
    other_lengths = s.other_lengths;
    primitive = s.primitive;
    other_primitive = s.other_primitive;
    pivots = every-weaken (IsPivotRow k) (IsPivotRow (suc k)) (λ p h. record { counts = h.counts; low = let l = h.low in omega arith }) ps s.pivots;
    apart = s.apart;
    empty = every_both (IsEmpty k) (λ r. entry r k ≡ pos 0) (IsEmpty (suc k)) (λ r h z j l. one_more r h z j l) rs s.empty t;
    spanned = s.spanned;
    other_spanned = s.other_spanned;
    spans = s.spans;
  }
    where
      one_more : (r : Row) → IsEmpty k r → entry r k ≡ pos 0 → (j : ℕ) → j < suc k → entry r j ≡ pos 0
      one_more r h z j l = ⊎_elim (h j) (λ m. subst (λ i. entry r i ≡ pos 0) (let e : k ≡ j = omega arith in e) z) (cases_lt j k)

  module _ (q : Row × List Row) (t : Told k rs (Some q)) (into : (P : Row → Type 0) → Every P rs → Into P (Some q)) (back : (P : Row → Type 0) → Back P rs (Some q)) where
    -- the pivot of the new pivot row
    new_pivot : pivot q.0 ≡ k
    new_pivot = pivot_is q.0 k t (into (IsEmpty k) s.empty).0

    length_p : length q.0 ≡ n
    length_p = (into (λ r. length r ≡ n) s.other_lengths).0

    zero_before : (j : ℕ) → j < k → entry q.0 j ≡ pos 0
    zero_before = (into (IsEmpty k) s.empty).0

    old_pivot : (r d : Row) → IsPivotRow k r → IsCleared q.0 k r d → pivot d ≡ pivot r
    old_pivot r d h c =
        pivot_is d (pivot r) (λ z. h.counts (zero_back q.0 k r d c (pivot r) (zero_before (pivot r) h.low) z))
        (λ j l. zero_on q.0 k r d c j (zero_before j (let m = h.low in omega arith)) (before_pivot r j l))

    pivot_row : (r d : Row) → IsPivotRow k r → IsCleared q.0 k r d → IsPivotRow (suc k) d
    pivot_row r d h c =
        let e : pivot d ≡ pivot r = old_pivot r d h c in
        record {
          counts = λ z. h.counts (zero_back q.0 k r d c (pivot r) (zero_before (pivot r) h.low) (subst (λ x. entry d x ≡ pos 0) e z));
          low = let m = h.low in omega arith;
        }

    still_apart : (x y d e : Row) → IsPivotRow k x → IsPivotRow k y → Apart x y → IsCleared q.0 k x d → IsCleared q.0 k y e → Apart d e
    still_apart x y d e hx hy a c f =
        let px : pivot d ≡ pivot x = old_pivot x d hx c in
        let py : pivot e ≡ pivot y = old_pivot y e hy f in
        record {
          rise = let r = a.rise in omega arith;
          left = subst (λ j. entry d j ≡ pos 0) (sym py) (zero_on q.0 k x d c (pivot y) (zero_before (pivot y) hy.low) a.left);
          right = subst (λ j. entry e j ≡ pos 0) (sym px) (zero_on q.0 k y e f (pivot x) (zero_before (pivot x) hx.low) a.right);
        }

    apart_new : (r d : Row) → IsPivotRow k r → IsCleared q.0 k r d → Apart d q.0
    apart_new r d h c =
        let e : pivot d ≡ pivot r = old_pivot r d h c in
        let low : pivot d < k = let m = h.low in omega arith in
        record {
          rise = omega (arith, new_pivot);
          left = subst (λ j. entry d j ≡ pos 0) (sym new_pivot) c.gone;
          right = zero_before (pivot d) low;
        }

    empty_more : (r d : Row) → IsEmpty k r → IsCleared q.0 k r d → IsEmpty (suc k) d
    empty_more r d h c j l = ⊎_elim (λ m. zero_on q.0 k r d c j (zero_before j m) (h j m)) (λ m. subst (λ i. entry d i ≡ pos 0) (let e : k ≡ j = omega arith in e) c.gone) (cases_lt j k)

    abbrev Sp : Row → Type 0
    Sp r = IsSpanned entry ((cleared_rows q.0 k ps ++ q.0 ∷ []) ++ cleared_rows q.0 k q.1) (entry r)

    -- what the new rows span
    spans_new : (w : Row) → IsSpanned entry (ps ++ rs) (entry w) → IsSpanned entry ((cleared_rows q.0 k ps ++ q.0 ∷ []) ++ cleared_rows q.0 k q.1) (entry w)
    spans_new w x = spanned_through entry ((cleared_rows q.0 k ps ++ q.0 ∷ []) ++ cleared_rows q.0 k q.1) (ps ++ rs) (entry w) (every-append Sp ps rs old_ps old_rs) x
      where
        each : Every Sp ((cleared_rows q.0 k ps ++ q.0 ∷ []) ++ cleared_rows q.0 k q.1)
        each = spanned_each entry ((cleared_rows q.0 k ps ++ q.0 ∷ []) ++ cleared_rows q.0 k q.1)

        front : Every Sp (cleared_rows q.0 k ps ++ q.0 ∷ [])
        front = every-front Sp (cleared_rows q.0 k ps ++ q.0 ∷ []) (cleared_rows q.0 k q.1) each

        sp : Sp q.0
        sp = (every-back Sp (cleared_rows q.0 k ps) (q.0 ∷ []) front).0

        old_ps : Every Sp ps
        old_ps = cleared_spans q.0 k t n length_p _ sp ps s.lengths (every-front Sp (cleared_rows q.0 k ps) (q.0 ∷ []) front)

        old_rs : Every Sp rs
        old_rs = back Sp sp (cleared_spans q.0 k t n length_p _ sp q.1 (into (λ r. length r ≡ n) s.other_lengths).1 (every-back Sp (cleared_rows q.0 k ps ++ q.0 ∷ []) (cleared_rows q.0 k q.1) each))

    pub state_some : State n (suc k) rows (cleared_rows q.0 k ps ++ q.0 ∷ []) (cleared_rows q.0 k q.1)
    state_some =
        let lengths_q : Every (λ r. length r ≡ n) q.1 = (into (λ r. length r ≡ n) s.other_lengths).1 in
        let sp : IsSpanned entry rows (entry q.0) = (into (λ r. IsSpanned entry rows (entry r)) s.other_spanned).0 in
        let same_length : (r d : Row) → length r ≡ n → IsCleared q.0 k r d → length d ≡ n = λ r d l c. c.length ∙ l in
        record {
          lengths = every-append (λ r. length r ≡ n) (cleared_rows q.0 k ps) (q.0 ∷ []) (cleared_each q.0 k t n length_p (λ r. length r ≡ n) (λ r. length r ≡ n) same_length ps s.lengths s.lengths) (length_p, tt);
          other_lengths = cleared_each q.0 k t n length_p (λ r. length r ≡ n) (λ r. length r ≡ n) same_length q.1 lengths_q lengths_q;
          primitive = every-append (HasNoCommonDivisor entry) (cleared_rows q.0 k ps) (q.0 ∷ []) (cleared_each q.0 k t n length_p (HasNoCommonDivisor entry) (HasNoCommonDivisor entry) (λ r d h c. c.primitive h) ps s.lengths s.primitive) ((into (HasNoCommonDivisor entry) s.other_primitive).0, tt);
          other_primitive = cleared_each q.0 k t n length_p (HasNoCommonDivisor entry) (HasNoCommonDivisor entry) (λ r d h c. c.primitive h) q.1 lengths_q (into (HasNoCommonDivisor entry) s.other_primitive).1;
          pivots = every-append (IsPivotRow (suc k)) (cleared_rows q.0 k ps) (q.0 ∷ []) (cleared_each q.0 k t n length_p (IsPivotRow k) (IsPivotRow (suc k)) pivot_row ps s.lengths s.pivots)
              (record { counts = λ z. t (subst (λ j. entry q.0 j ≡ pos 0) new_pivot z); low = omega (arith, new_pivot) }, tt);
          apart = every_two-append Apart (cleared_rows q.0 k ps) (q.0 ∷ [])
              (cleared_two q.0 k t n length_p (IsPivotRow k) Apart Apart still_apart ps s.lengths s.pivots s.apart) (tt, tt)
              (cleared_each q.0 k t n length_p (IsPivotRow k) (λ d. Every (Apart d) (q.0 ∷ [])) (λ r d h c. (apart_new r d h c, tt)) ps s.lengths s.pivots);
          empty = cleared_each q.0 k t n length_p (IsEmpty k) (IsEmpty (suc k)) empty_more q.1 lengths_q (into (IsEmpty k) s.empty).1;
          spanned = every-append (λ r. IsSpanned entry rows (entry r)) (cleared_rows q.0 k ps) (q.0 ∷ [])
              (cleared_each q.0 k t n length_p (λ r. IsSpanned entry rows (entry r)) (λ r. IsSpanned entry rows (entry r)) (cleared_spanned q.0 k t n length_p rows sp) ps s.lengths s.spanned) (sp, tt);
          other_spanned = cleared_each q.0 k t n length_p (λ r. IsSpanned entry rows (entry r)) (λ r. IsSpanned entry rows (entry r)) (cleared_spanned q.0 k t n length_p rows sp) q.1 lengths_q (into (λ r. IsSpanned entry rows (entry r)) s.other_spanned).1;
          spans = every-weaken (λ w. IsSpanned entry (ps ++ rs) (entry w)) (λ w. IsSpanned entry ((cleared_rows q.0 k ps ++ q.0 ∷ []) ++ cleared_rows q.0 k q.1) (entry w)) spans_new rows s.spans;
        }

pub step : (n k : ℕ) (rows ps rs : List Row) → State n k rows ps rs → State n (suc k) rows (column_cleared k ps rs (first_with k rs)).0 (column_cleared k ps rs (first_with k rs)).1
step n k rows ps rs s =
    elim (first_with k rs) as (λ o. Told k rs o → ((P : Row → Type 0) → Every P rs → Into P o) → ((P : Row → Type 0) → Back P rs o) → State n (suc k) rows (column_cleared k ps rs o).0 (column_cleared k ps rs o).1) [
      | None ↦ λ t i b. state_none n k rows ps rs s t
      | Some q ↦ λ t i b. state_some n k rows ps rs s q t i b
    ] (first_with_told k rs) (λ P. first_with_into P k rs) (λ P. first_with_back P k rs)

-- after the last column no other row is left
nothing_left : (n : ℕ) (rows ps rs : List Row) → State n n rows ps rs → rs ≡ []
nothing_left n rows ps [] s = refl
nothing_left n rows ps (r ∷ rs) s =
    let none_at : (j : ℕ) → entry r j ≡ pos 0 = λ j. ⊎_elim (s.empty.0 j) (λ l. entry_past_end r j (let e : length r ≡ n = s.other_lengths.0 in omega arith)) (cases_lt j n) in
    absurd (let e : 0 ≡ 1 = sym (vanishes_content r none_at) ∙ content_primitive r s.other_primitive.0 in omega arith)

-- pivot rows alone, which span what the rows span
pub record Ended (n : ℕ) (rows ps : List Row) : Type 0 where
  pub lengths : Every (λ r. length r ≡ n) ps
  pub primitive : Every (HasNoCommonDivisor entry) ps
  pub pivots : Every (λ p. ¬ (entry p (pivot p) ≡ pos 0)) ps
  pub apart : EveryTwo Apart ps
  pub spanned : Every (λ r. IsSpanned entry rows (entry r)) ps
  pub spans : Every (λ r. IsSpanned entry ps (entry r)) rows

pub all_columns : (n m k : ℕ) (rows ps rs : List Row) → m + k ≡ n → State n k rows ps rs → Ended n rows (columns_cleared m k ps rs)
all_columns n zero k rows ps rs e s =
    let here : State n n rows ps rs = subst (λ j. State n j rows ps rs) (let f : k ≡ n = omega arith in f) s in
    record {
      lengths = s.lengths;
      primitive = s.primitive;
      pivots = every-weaken (IsPivotRow k) (λ p. ¬ (entry p (pivot p) ≡ pos 0)) (λ p h. h.counts) ps s.pivots;
      apart = s.apart;
      spanned = s.spanned;
      spans = subst (λ xs. Every (λ r. IsSpanned entry xs (entry r)) rows) (ap (λ ys. ps ++ ys) (nothing_left n rows ps rs here) ∙ append-nil ps) s.spans;
    }
all_columns n (suc m) k rows ps rs e s = all_columns n m (suc k) rows (column_cleared k ps rs (first_with k rs)).0 (column_cleared k ps rs (first_with k rs)).1 (omega arith) (step n k rows ps rs s)

pub state_start : (n : ℕ) (rows : List Row) → Every (λ r. length r ≡ n) rows → State n 0 rows [] (primitive_parts rows)
state_start n rows h = record {
  lengths = tt;
  other_lengths = primitive_parts_each (λ r. length r ≡ n) (λ r. length r ≡ n) (λ r l c. length-divided (row_content r) r ∙ l) rows h;
  primitive = tt;
  other_primitive = primitive_parts_each (λ r. length r ≡ n) (HasNoCommonDivisor entry) (λ r l c. primitive_divided r c) rows h;
  pivots = tt;
  apart = tt;
  empty = every_all (IsEmpty 0) (λ r j l. absurd (omega arith)) (primitive_parts rows);
  spanned = tt;
  other_spanned = primitive_parts_each (λ r. IsSpanned entry rows (entry r)) (λ r. IsSpanned entry rows (entry r)) (λ r s c.
      spanned_over entry rows (pos (row_content r)) (entry (divided_row (row_content r) r)) c (spanned_same entry rows (entry r) (λ j. pos (row_content r) *ℤ entry (divided_row (row_content r) r) j) (λ j. sym (divided_is (row_content r) r (content_divides r) j)) s))
      rows (spanned_each entry rows);
  spans = primitive_parts_span (primitive_parts rows) rows (spanned_each entry (primitive_parts rows));
}
