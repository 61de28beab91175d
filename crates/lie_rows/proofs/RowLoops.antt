-- The steps of the loops over a row, over plain variables.
use Rattle.std.proofs.Common.{◌≡◌, ℕ, zero, suc, ◌+◌, ◌*◌, ◌<◌, ◌≤◌, ◌↔◌, List, [], ◌∷◌, ◌++◌, length, get_or, drop, refl, sym, ap, ap₂, ◌∙◌, subst, arith, drop-cons, add-one, append_assoc, append-nil, ℤ, pos, ◌+ℤ◌, ◌*ℤ◌, neg_ℤ, drop_of_length-le, cond, true, false}
use Rattle.std.specs.Prelude.{unsigned_abs}
use Rattle.std.proofs.lemmas.Nat.Gcd.{le_of_dvd}
use Prim.Native.Nat.{◌∣◌}
use Rattle.lie_math.specs.Integer.{is_zero_int, int_nil}
use Rattle.lie_math.specs.CommonDivisors.{common_divisor}
use Rattle.lie_math.specs.Limits.{number_limit}
use Rattle.lie_spans.specs.Rows.{Row, entry}
use Rattle.lie_spans.specs.Content.{row_content}
use Rattle.lie_spans.specs.Bulks.{difference_bulks}
use Rattle.lie_spans.specs.Elimination.{pivot, row_difference}
use Rattle.lie_spans.proofs.Divisors.{common_divisor_left, common_divisor_right}
use Rattle.lie_spans.proofs.Content.{content_divides}
use Rattle.lie_rows.specs.Causes.{AreWithin}

pub drop_at : {X : Type 0} (xs : List X) (i : ℕ) (x : X) → i < length xs → x ≡ get_or xs i x → drop i xs ≡ x ∷ drop (i + 1) xs
drop_at xs i x h e = drop-cons xs i x h ∙ ap₂ (λ y k. y ∷ drop k xs) (sym e) (sym (add-one i))

-- a list that is made front to back
pub made_step : {X Y : Type 0} (f : List X → List Y) (xs : List X) (i : ℕ) (x : X) (y : Y) (out : List Y) → i < length xs → x ≡ get_or xs i x → f (x ∷ drop (i + 1) xs) ≡ y ∷ f (drop (i + 1) xs) → out ++ f (drop i xs) ≡ f xs → (out ++ y ∷ []) ++ f (drop (i + 1) xs) ≡ f xs
made_step f xs i x y out h e c s = append_assoc out (y ∷ []) (f (drop (i + 1) xs)) ∙ ap (λ ys. out ++ ys) (sym c ∙ ap f (sym (drop_at xs i x h e))) ∙ s

pub made_end : {X Y : Type 0} (f : List X → List Y) (xs : List X) (i : ℕ) (out : List Y) → length xs ≤ i → f [] ≡ [] → out ++ f (drop i xs) ≡ f xs → out ≡ f xs
made_end f xs i out h e s = sym (ap (λ ys. out ++ f ys) (drop_of_length-le xs h) ∙ ap (λ ys. out ++ ys) e ∙ append-nil out) ∙ s

-- ---- the common divisor

common_divisor_none : common_divisor 0 0 ≡ 0
unfolding common_divisor
common_divisor_none = refl

pub common_divisor_below : (a b m : ℕ) → 0 < m → a < m → b < m → common_divisor a b < m
common_divisor_below zero zero m p h k = subst (λ n. n < m) (sym common_divisor_none) p
common_divisor_below zero (suc b) m p h k = let l : common_divisor 0 (suc b) ≤ suc b = le_of_dvd (omega arith) (common_divisor_right 0 (suc b)) in omega arith
common_divisor_below (suc a) b m p h k = let l : common_divisor (suc a) b ≤ suc a = le_of_dvd (omega arith) (common_divisor_left (suc a) b) in omega arith

pub content_step : (row : Row) (i : ℕ) (x : ℤ) (g : ℕ) → i < length row → x ≡ get_or row i x → g ≡ row_content (drop (i + 1) row) → common_divisor (unsigned_abs x) g ≡ row_content (drop i row)
content_step row i x g h e s = ap (common_divisor (unsigned_abs x)) s ∙ ap row_content (sym (drop_at row i x h e))

-- an entry of a row is divided by the content
pub read_at : (r : Row) (k : ℕ) (x : ℤ) → k < length r → x ≡ get_or r k x → entry r k ≡ x
read_at [] k x h e = absurd (omega arith)
read_at (y ∷ r) zero x h e = sym e
read_at (y ∷ r) (suc k) x h e = read_at r k x (omega arith) e

pub content_divides_at : (r : Row) (k : ℕ) (x : ℤ) (g : ℕ) → g ≡ row_content r → k < length r → x ≡ get_or r k x → g ∣ unsigned_abs x
content_divides_at r k x g s h e = subst (λ n. n ∣ unsigned_abs x) (sym s) (subst (λ z. row_content r ∣ unsigned_abs z) (read_at r k x h e) (content_divides r k))

-- ---- a combination of two rows

pub record Differing (a b : ℤ) (row other : Row) (out : Row) (i : ℕ) : Type 0 where
  pub made : out ++ row_difference a b (drop i row) (drop i other) ≡ row_difference a b row other
  pub fits : AreWithin (difference_bulks a b (drop i row) (drop i other)) ↔ AreWithin (difference_bulks a b row other)

module _ (a b : ℤ) (row other out : Row) (i : ℕ) (x y : ℤ) (s : Differing a b row other out i) (h : i < length row) (k : i < length other) (ex : x ≡ get_or row i x) (ey : y ≡ get_or other i y) where
  left : drop i row ≡ x ∷ drop (i + 1) row
  left = drop_at row i x h ex

  right : drop i other ≡ y ∷ drop (i + 1) other
  right = drop_at other i y k ey

  here : AreWithin (difference_bulks a b (x ∷ drop (i + 1) row) (y ∷ drop (i + 1) other)) ↔ AreWithin (difference_bulks a b row other)
  here = subst (λ xs. AreWithin (difference_bulks a b xs (y ∷ drop (i + 1) other)) ↔ AreWithin (difference_bulks a b row other)) left (subst (λ ys. AreWithin (difference_bulks a b (drop i row) ys) ↔ AreWithin (difference_bulks a b row other)) right s.fits)

  pub differing_past : number_limit ≤ unsigned_abs a * unsigned_abs x + unsigned_abs b * unsigned_abs y → ¬ (AreWithin (difference_bulks a b row other))
  differing_past l f = let q = (here.1 f).0 in omega arith

  pub differing_more : (z : ℤ) → z ≡ a *ℤ x +ℤ neg_ℤ (b *ℤ y) → unsigned_abs a * unsigned_abs x + unsigned_abs b * unsigned_abs y < number_limit → Differing a b row other (out ++ z ∷ []) (i + 1)
  differing_more z e l = record {
    made = append_assoc out (z ∷ []) _ ∙ ap (λ w. out ++ (w ∷ row_difference a b (drop (i + 1) row) (drop (i + 1) other))) e
        ∙ ap₂ (λ xs ys. out ++ row_difference a b xs ys) (sym left) (sym right) ∙ s.made;
    fits = (λ f. here.0 (l, f), λ f. (here.1 f).1);
  }

pub differing_start : (a b : ℤ) (row other : Row) → Differing a b row other [] 0
differing_start a b row other = record { made = refl; fits = (λ f. f, λ f. f) }

pub differing_end : (a b : ℤ) (row other out : Row) (i : ℕ) → length row ≤ i → Differing a b row other out i → (out ≡ row_difference a b row other) × AreWithin (difference_bulks a b row other)
differing_end a b row other out i h s =
    let zero_of_test : drop i row ≡ [] = drop_of_length-le row h in (
      sym (ap (λ xs. out ++ row_difference a b xs (drop i other)) zero_of_test ∙ append-nil out) ∙ s.made,
      s.fits.0 (subst (λ xs. AreWithin (difference_bulks a b xs (drop i other))) (sym zero_of_test) tt),
    )

-- ---- the first entry that is not 0

pub not_zero_test : (w : ℤ) → ¬ (w ≡ pos 0) → is_zero_int w ≡ false
not_zero_test w n = elim (is_zero_int w) as (λ b. is_zero_int w ≡ b → b ≡ false) [ true ↦ λ e. absurd (n (int_nil w e)) | false ↦ λ e. refl ] refl

pub leading_step : (row : Row) (i : ℕ) (x : ℤ) → i < length row → x ≡ get_or row i x → x ≡ pos 0 → entry (drop i row) (pivot (drop i row)) ≡ entry row (pivot row) → entry (drop (i + 1) row) (pivot (drop (i + 1) row)) ≡ entry row (pivot row)
leading_step row i x h e z s = sym (ap (λ xs. entry xs (pivot xs)) (drop_at row i x h e ∙ ap (λ w. w ∷ drop (i + 1) row) z)) ∙ s

pub leading_found : (row : Row) (i : ℕ) (x : ℤ) → i < length row → x ≡ get_or row i x → ¬ (x ≡ pos 0) → entry (drop i row) (pivot (drop i row)) ≡ entry row (pivot row) → x ≡ entry row (pivot row)
leading_found row i x h e z s = sym (first x z (drop (i + 1) row)) ∙ sym (ap (λ xs. entry xs (pivot xs)) (drop_at row i x h e)) ∙ s
  where
    first : (w : ℤ) → ¬ (w ≡ pos 0) → (ws : Row) → entry (w ∷ ws) (pivot (w ∷ ws)) ≡ w
    first w n ws = ap (λ b. entry (w ∷ ws) (cond b (suc (pivot ws)) 0)) (not_zero_test w n)

pub leading_none : (row : Row) (i : ℕ) → length row ≤ i → entry (drop i row) (pivot (drop i row)) ≡ entry row (pivot row) → entry row (pivot row) ≡ pos 0
leading_none row i h s = sym s ∙ ap (λ xs. entry xs (pivot xs)) (drop_of_length-le row h)
