-- The solution for one free column: the kept rows take it to 0.
use Rattle.std.specs.Prelude.{◌≡◌, ℕ, zero, suc, ◌+◌, ◌*◌, ◌/◌, ◌<◌, ◌≤◌, true, false, cond, List, [], ◌∷◌, ℤ, pos, negsuc, ◌+ℤ◌, ◌*ℤ◌, neg_ℤ, ◌<ℤ◌, unsigned_abs, length, int_div, Option, Some, None}
use Rattle.std.proofs.Common.{refl, sym, ap, ap₂, subst, ◌∙◌, arith, ⊎_elim}
use Rattle.std.specs.List.{AllByRecursion as Every}
use Rattle.std.proofs.lemmas.Bool.{cases_lt}
use Rattle.std.proofs.Math.Nat.{dvd_trans, dvd-mul_left, dvd-mul_right, mul_comm, mul_assoc, div-mul_cancel}
use Prim.Native.Nat.{◌∣◌}
use borrow.Author.Differences.{ints}
use Rattle.lie_math.specs.Integer.{is_zero_int, int_nil, integer_ring}
use Rattle.lie_math.proofs.Integer.{not_zero, no_zero_divisors_ℤ, int_div_exact, zero_or_not}
use Rattle.lie_math.proofs.RingSolver.{v, c0, ◌⊕◌, ◌⊗◌, ⊖, solve, listed}
use Rattle.lie_math.specs.CommonDivisors.{common_divisor}
use Rattle.lie_spans.specs.Solutions.{common_multiple}
use Rattle.lie_spans.specs.Reduced.{HasNoCommonDivisor}
use Rattle.lie_spans.specs.Rows.{Row, entry}
use Rattle.lie_spans.specs.Content.{row_content, divided_row}
use Rattle.lie_spans.specs.Kernel.{dot, IsKernel}
use Rattle.lie_spans.specs.KeptRows.{AreKept, last_column, ending_at}
use Rattle.lie_spans.specs.Solutions.{last_multiple, answer, answer_of, solution_at, row_from, solution_row}
use Rattle.lie_spans.proofs.Divisors.{common_divisor_left, common_divisor_right}
use Rattle.lie_math.proofs.EveryElement.{every-weaken, every_both}
use Rattle.lie_spans.proofs.Reduced.{abs_positive}
use Rattle.lie_spans.proofs.Content.{content_divides, divided_is, length-divided, primitive_divided, content_vanishes}
use Rattle.lie_spans.proofs.Clearing.{entry_past_end}
use Rattle.lie_spans.proofs.Dots.{dot_below, dot-plus, dot-zero, dot_two}
use Rattle.lie_spans.proofs.LastColumns.{same_or_not, apart_test, itself_test, entry_after_last}
use Rattle.lie_spans.proofs.EndingAt.{Told, ending_at_told, Into, ending_at_into, ending_at_each, Crossed, crossed}

common_multiple_left : (a b : ℕ) → a ∣ common_multiple a b
common_multiple_left a b =
    let e : common_multiple a b ≡ a * (b / common_divisor a b) =
    ap (λ x. a / common_divisor a b * x) (sym (div-mul_cancel (common_divisor a b) (common_divisor_right a b)) ∙ mul_comm (b / common_divisor a b) (common_divisor a b))
    ∙ sym (mul_assoc (a / common_divisor a b) (common_divisor a b) (b / common_divisor a b)) ∙ ap (λ x. x * (b / common_divisor a b)) (div-mul_cancel (common_divisor a b) (common_divisor_left a b)) in
    subst (λ x. a ∣ x) (sym e) (dvd-mul_right a (b / common_divisor a b))

common_multiple_right : (a b : ℕ) → b ∣ common_multiple a b
common_multiple_right a b = dvd-mul_left b (a / common_divisor a b)

common_multiple_positive : (a b : ℕ) → 0 < a → 0 < b → 0 < common_multiple a b
common_multiple_positive a b h k = grind (arith, part (a / common_divisor a b) refl)
  where
    part : (n : ℕ) → n ≡ a / common_divisor a b → 0 < a / common_divisor a b
    part zero e = absurd (let z : 0 * common_divisor a b ≡ a = ap (λ x. x * common_divisor a b) e ∙ div-mul_cancel (common_divisor a b) (common_divisor_left a b) in omega arith)
    part (suc n) e = omega arith

pub multiple_positive : (f : ℕ) (kept : List Row) → Every (λ r. ¬ (entry r (last_column r) ≡ pos 0)) kept → 0 < last_multiple f kept
multiple_positive f [] h = omega arith
multiple_positive f (q ∷ qs) h = elim (is_zero_int (entry q f)) as (λ b. 0 < cond b (last_multiple f qs) (common_multiple (unsigned_abs (entry q (last_column q))) (last_multiple f qs))) [
  | true ↦ multiple_positive f qs h.1
  | false ↦ common_multiple_positive (unsigned_abs (entry q (last_column q))) (last_multiple f qs) (abs_positive (entry q (last_column q)) h.0) (multiple_positive f qs h.1)
]

-- each of the numbers on the way is at most the last one
pub common_multiple_above : (a b : ℕ) → 0 < a → b ≤ common_multiple a b
common_multiple_above a b h = by_size (a / common_divisor a b) refl
  where
    by_size : (n : ℕ) → n ≡ a / common_divisor a b → b ≤ a / common_divisor a b * b
    by_size zero e = absurd (let z : 0 * common_divisor a b ≡ a = ap (λ x. x * common_divisor a b) e ∙ div-mul_cancel (common_divisor a b) (common_divisor_left a b) in omega arith)
    by_size (suc n) e = subst (λ x. b ≤ x * b) e (grind arith)

pub multiple_above : (f : ℕ) (q : Row) (qs : List Row) → ¬ (entry q (last_column q) ≡ pos 0) → last_multiple f qs ≤ last_multiple f (q ∷ qs)
multiple_above f q qs h = elim (is_zero_int (entry q f)) as (λ b. last_multiple f qs ≤ cond b (last_multiple f qs) (common_multiple (unsigned_abs (entry q (last_column q))) (last_multiple f qs))) [
  | true ↦ omega arith
  | false ↦ common_multiple_above (unsigned_abs (entry q (last_column q))) (last_multiple f qs) (abs_positive (entry q (last_column q)) h)
]

abbrev pub Divides : ℕ → ℕ → Row → Type 0
Divides f m q = ¬ (entry q f ≡ pos 0) → unsigned_abs (entry q (last_column q)) ∣ m

pub multiple_divides : (f : ℕ) (kept : List Row) → Every (Divides f (last_multiple f kept)) kept
multiple_divides f [] = tt
multiple_divides f (q ∷ qs) = elim (is_zero_int (entry q f)) as (λ b. is_zero_int (entry q f) ≡ b → Divides f (cond b (last_multiple f qs) (common_multiple (unsigned_abs (entry q (last_column q))) (last_multiple f qs))) q × Every (Divides f (cond b (last_multiple f qs) (common_multiple (unsigned_abs (entry q (last_column q))) (last_multiple f qs)))) qs) [
  | true ↦ λ e. (λ n. absurd (n (int_nil (entry q f) e)), multiple_divides f qs)
  | false ↦ λ e. (
    λ n. common_multiple_left (unsigned_abs (entry q (last_column q))) (last_multiple f qs),
    every-weaken (Divides f (last_multiple f qs)) (Divides f (common_multiple (unsigned_abs (entry q (last_column q))) (last_multiple f qs))) (λ s d n. dvd_trans (unsigned_abs (entry s (last_column s))) (d n) (common_multiple_right (unsigned_abs (entry q (last_column q))) (last_multiple f qs))) qs (multiple_divides f qs),
  )
] refl

pub multiple_back : (m : ℕ) (a : ℤ) → unsigned_abs a ∣ m → a *ℤ int_div (pos m) a ≡ pos m
multiple_back m (pos g) h = int_div_exact (pos m) g h
multiple_back m (negsuc g) h =
    let e : m / suc g * suc g ≡ m = div-mul_cancel (suc g) h in
    minus (suc g) (m / suc g) (negsuc g) refl ∙ ap pos e
  where
    minus : (g q : ℕ) (a : ℤ) → a ≡ neg_ℤ (pos g) → a *ℤ neg_ℤ (pos q) ≡ pos (q * g)
    minus g q a e = ap (λ x. x *ℤ neg_ℤ (pos q)) e ∙ solve integer_ring (listed (pos 0) (pos g ∷ pos q ∷ [])) (⊖ (v 0) ⊗ ⊖ (v 1)) (v 1 ⊗ v 0) refl

-- what a kept row takes the answer to
answered : (f m : ℕ) (q : Row) → Divides f m q → entry q f *ℤ pos m +ℤ entry q (last_column q) *ℤ answer f m q ≡ pos 0
answered f m q d = ⊎_elim
    (λ z. ap (λ x. x *ℤ pos m +ℤ entry q (last_column q) *ℤ neg_ℤ (x *ℤ int_div (pos m) (entry q (last_column q)))) z ∙ solve integer_ring (listed (pos 0) (pos m ∷ entry q (last_column q) ∷ int_div (pos m) (entry q (last_column q)) ∷ [])) (c0 ⊗ v 0 ⊕ v 1 ⊗ ⊖ (c0 ⊗ v 2)) c0 refl)
    (λ n. ap (λ x. entry q f *ℤ x +ℤ entry q (last_column q) *ℤ answer f m q) (sym (multiple_back m (entry q (last_column q)) (d n)))
    ∙ solve integer_ring (listed (pos 0) (entry q f ∷ entry q (last_column q) ∷ int_div (pos m) (entry q (last_column q)) ∷ [])) (v 0 ⊗ (v 1 ⊗ v 2) ⊕ v 1 ⊗ ⊖ (v 0 ⊗ v 2)) c0 refl)
    (zero_or_not (entry q f))

pub answer_none : (f m : ℕ) (q : Row) → entry q f ≡ pos 0 → answer f m q ≡ pos 0
answer_none f m q z = ap (λ x. neg_ℤ (x *ℤ int_div (pos m) (entry q (last_column q)))) z ∙ solve integer_ring (listed (pos 0) (int_div (pos m) (entry q (last_column q)) ∷ [])) (⊖ (c0 ⊗ v 0)) c0 refl

pub last_column_below : (n : ℕ) (q : Row) → length q ≡ n → ¬ (entry q (last_column q) ≡ pos 0) → last_column q < n
last_column_below n q l c = ⊎_elim (λ h. h) (λ h. absurd (c (entry_past_end q (last_column q) (omega arith)))) (cases_lt (last_column q) n)

pub length-row_of : (w : ℕ → ℤ) (n j : ℕ) → length (row_from w n j) ≡ n
length-row_of w zero j = refl
length-row_of w (suc n) j = ap suc (length-row_of w n (suc j))

pub entry-row_from : (w : ℕ → ℤ) (n i j : ℕ) → j < n → entry (row_from w n i) j ≡ w (j + i)
entry-row_from w zero i j h = absurd (omega arith)
entry-row_from w (suc n) i zero h = ap w (let e : i ≡ 0 + i = omega arith in e)
entry-row_from w (suc n) i (suc j) h = entry-row_from w n (suc i) j (omega arith) ∙ ap w (let e : j + suc i ≡ suc j + i = omega arith in e)

-- a row that solves, for the free column f
pub record IsSolution (n : ℕ) (kept : List Row) (f : ℕ) (s : Row) : Type 0 where
  pub free : ending_at f kept ≡ None
  pub length : length s ≡ n
  pub primitive : HasNoCommonDivisor entry s
  pub kernel : IsKernel n kept (entry s)
  pub before : (j : ℕ) → j < f → entry s j ≡ pos 0
  pub positive : pos 0 <ℤ entry s f
  pub others : (j : ℕ) → ending_at j kept ≡ None → ¬ (j ≡ f) → entry s j ≡ pos 0

module _ (n : ℕ) (kept : List Row) (h : AreKept n kept) (f : ℕ) (below : f < n) (free : ending_at f kept ≡ None) where
  not_held : Every (λ q. ¬ (last_column q ≡ f)) kept
  not_held = subst (Told f kept) free (ending_at_told f kept)

  at_f : solution_at f kept f ≡ pos (last_multiple f kept)
  at_f = ap (λ b. cond b (pos (last_multiple f kept)) (answer_of f (last_multiple f kept) (ending_at f kept))) (itself_test f)

  at_other : (j : ℕ) → ¬ (j ≡ f) → solution_at f kept j ≡ answer_of f (last_multiple f kept) (ending_at j kept)
  at_other j g = ap (λ b. cond b (pos (last_multiple f kept)) (answer_of f (last_multiple f kept) (ending_at j kept))) (apart_test j f g)

  at_free : (j : ℕ) → ending_at j kept ≡ None → ¬ (j ≡ f) → solution_at f kept j ≡ pos 0
  at_free j e g = at_other j g ∙ ap (answer_of f (last_multiple f kept)) e

  at_before : (j : ℕ) → j < f → solution_at f kept j ≡ pos 0
  at_before j l = at_other j (omega arith) ∙ by_case (ending_at j kept) (ending_at_told j kept)
    where
      by_case : (o : Option Row) → Told j kept o → answer_of f (last_multiple f kept) o ≡ pos 0
      by_case None t = refl
      by_case (Some q) t = answer_none f (last_multiple f kept) q (entry_after_last q f (omega (arith, t)))

  -- a kept row takes it to 0
  module _ (q : Row) (g : ¬ (last_column q ≡ f)) (l : last_column q < n) (e : ending_at (last_column q) kept ≡ Some q) (d : Divides f (last_multiple f kept) q) (c : Crossed kept q) where
    rest : (j : ℕ) → ¬ (j ≡ f) → ¬ (j ≡ last_column q) → entry q j *ℤ solution_at f kept j ≡ pos 0
    rest j a b =
        elim (ending_at j kept) as (λ o. ending_at j kept ≡ o → Told j kept o → Into (λ s. ¬ (last_column s ≡ last_column q) → entry q (last_column s) ≡ pos 0) o → entry q j *ℤ solution_at f kept j ≡ pos 0) [
          | None ↦ λ z t i. ap (λ x. entry q j *ℤ x) (at_free j z a) ∙ solve integer_ring (listed (pos 0) (entry q j ∷ [])) (v 0 ⊗ c0) c0 refl
          | Some s ↦ λ z t i.
              ap (λ x. x *ℤ solution_at f kept j) (ap (entry q) (sym t) ∙ i (λ w. b (sym t ∙ w)))
              ∙ solve integer_ring (listed (pos 0) (solution_at f kept j ∷ [])) (c0 ⊗ v 0) c0 refl
        ] refl (ending_at_told j kept) (ending_at_into (λ s. ¬ (last_column s ≡ last_column q) → entry q (last_column s) ≡ pos 0) j kept c)

    at_last_q : solution_at f kept (last_column q) ≡ answer f (last_multiple f kept) q
    at_last_q = at_other (last_column q) g ∙ ap (answer_of f (last_multiple f kept)) e

    takes : dot n (entry q) (solution_at f kept) ≡ pos 0
    takes = ⊎_elim
        (λ z. dot-zero n (entry q) (solution_at f kept) (λ j k. ⊎_elim
        (λ w. ap (λ i. entry q i *ℤ solution_at f kept i) w ∙ ap (λ x. x *ℤ solution_at f kept f) z ∙ solve integer_ring (listed (pos 0) (solution_at f kept f ∷ [])) (c0 ⊗ v 0) c0 refl)
        (λ w. ⊎_elim
        (λ y. ap (λ i. entry q i *ℤ solution_at f kept i) y ∙ ap (λ x. entry q (last_column q) *ℤ x) (at_last_q ∙ answer_none f (last_multiple f kept) q z) ∙ solve integer_ring (listed (pos 0) (entry q (last_column q) ∷ [])) (v 0 ⊗ c0) c0 refl)
        (λ y. rest j w y)
        (same_or_not j (last_column q)))
        (same_or_not j f)))
        (λ z.
        let low : f < last_column q = between f (last_column q) (λ m. z (entry_after_last q f m)) g in
        dot_two n (entry q) (solution_at f kept) f (last_column q) low l (λ j k a b. rest j a b)
        ∙ ap₂ (λ x y. entry q f *ℤ x +ℤ entry q (last_column q) *ℤ y) at_f at_last_q ∙ answered f (last_multiple f kept) q d)
        (zero_or_not (entry q f))
      where
        between : (a b : ℕ) → ¬ (b < a) → ¬ (b ≡ a) → a < b
        between a b x y = omega arith

  pub content_sol : 0 < row_content (solution_row n kept f)
  content_sol = at_least (row_content (solution_row n kept f)) (λ e.
      not_zero (last_multiple f kept) (multiple_positive f kept h.counts) (sym at_f ∙ sym (entry-row_from (solution_at f kept) n 0 f below ∙ ap (solution_at f kept) (plus_none f)) ∙ content_vanishes (solution_row n kept f) e f))
    where
      at_least : (m : ℕ) → ¬ (m ≡ 0) → 0 < m
      at_least m g = omega arith

      plus_none : (m : ℕ) → m + 0 ≡ m
      plus_none m = omega arith

  at_sol : (j : ℕ) → j < n → pos (row_content (solution_row n kept f)) *ℤ entry (divided_row (row_content (solution_row n kept f)) (solution_row n kept f)) j ≡ solution_at f kept j
  at_sol j l = divided_is (row_content (solution_row n kept f)) (solution_row n kept f) (content_divides (solution_row n kept f)) j ∙ entry-row_from (solution_at f kept) n 0 j l ∙ ap (solution_at f kept) (let e : j + 0 ≡ j = omega arith in e)

  sol_zero : (j : ℕ) → solution_at f kept j ≡ pos 0 → entry (divided_row (row_content (solution_row n kept f)) (solution_row n kept f)) j ≡ pos 0
  sol_zero j z = ⊎_elim
      (λ l. no_zero_divisors_ℤ (pos (row_content (solution_row n kept f))) _ (not_zero (row_content (solution_row n kept f)) content_sol) (at_sol j l ∙ z))
      (λ l. entry_past_end (divided_row (row_content (solution_row n kept f)) (solution_row n kept f)) j (omega (arith, length-divided (row_content (solution_row n kept f)) (solution_row n kept f), length-row_of (solution_at f kept) n 0)))
      (cases_lt j n)

  sol_kernel : (q : Row) → dot n (entry q) (solution_at f kept) ≡ pos 0 → dot n (entry q) (entry (divided_row (row_content (solution_row n kept f)) (solution_row n kept f))) ≡ pos 0
  sol_kernel q t =
      no_zero_divisors_ℤ (pos (row_content (solution_row n kept f))) _ (not_zero (row_content (solution_row n kept f)) content_sol)
      (solve integer_ring (listed (pos 0) (pos (row_content (solution_row n kept f)) ∷ dot n (entry q) (entry (divided_row (row_content (solution_row n kept f)) (solution_row n kept f))) ∷ [])) (v 0 ⊗ v 1) (v 0 ⊗ v 1 ⊕ c0 ⊗ v 1) refl
      ∙ sym (dot-plus n (pos (row_content (solution_row n kept f))) (pos 0) (entry q) (entry (divided_row (row_content (solution_row n kept f)) (solution_row n kept f))) (entry (divided_row (row_content (solution_row n kept f)) (solution_row n kept f))))
      ∙ dot_below n (entry q) _ (solution_at f kept) (λ j l. solve integer_ring (listed (pos 0) (pos (row_content (solution_row n kept f)) ∷ entry (divided_row (row_content (solution_row n kept f)) (solution_row n kept f)) j ∷ [])) (v 0 ⊗ v 1 ⊕ c0 ⊗ v 1) (v 0 ⊗ v 1) refl ∙ at_sol j l)
      ∙ t)

  sol_positive : pos 0 <ℤ entry (divided_row (row_content (solution_row n kept f)) (solution_row n kept f)) f
  sol_positive = by_sign (row_content (solution_row n kept f)) (last_multiple f kept) (entry (divided_row (row_content (solution_row n kept f)) (solution_row n kept f)) f) (multiple_positive f kept h.counts) (at_sol f below ∙ at_f)
    where
      by_sign : (a b : ℕ) (x : ℤ) → 0 < b → pos a *ℤ x ≡ pos b → pos 0 <ℤ x
      by_sign a b (pos (suc x)) k e = omega (arith, ints)
      by_sign a b (pos zero) k e = absurd (omega (arith, ints, e))
      by_sign a b (negsuc x) k e = absurd (omega (arith, ints, e))

  pub solution_is : IsSolution n kept f (divided_row (row_content (solution_row n kept f)) (solution_row n kept f))
  solution_is = record {
    free = free;
    length = length-divided (row_content (solution_row n kept f)) (solution_row n kept f) ∙ length-row_of (solution_at f kept) n 0;
    primitive = primitive_divided (solution_row n kept f) content_sol;
    kernel = all (every_both (λ q. ¬ (last_column q ≡ f)) (λ q. last_column q < n) (λ q. (¬ (last_column q ≡ f)) × (last_column q < n)) (λ q a b. (a, b)) kept not_held (every_both (λ q. length q ≡ n) (λ q. ¬ (entry q (last_column q) ≡ pos 0)) (λ q. last_column q < n) (λ q a b. last_column_below n q a b) kept h.lengths h.counts))
        (ending_at_each kept h.counts h.clear) (multiple_divides f kept) (crossed kept h.clear);
    before = λ j l. sol_zero j (at_before j l);
    positive = sol_positive;
    others = λ j e g. sol_zero j (at_free j e g);
  }
    where
      all : Every (λ q. (¬ (last_column q ≡ f)) × (last_column q < n)) kept → Every (λ q. ending_at (last_column q) kept ≡ Some q) kept → Every (Divides f (last_multiple f kept)) kept → Every (Crossed kept) kept → IsKernel n kept (entry (divided_row (row_content (solution_row n kept f)) (solution_row n kept f)))
      all a b c d =
          every_both (λ q. ((¬ (last_column q ≡ f)) × (last_column q < n)) × (ending_at (last_column q) kept ≡ Some q)) (λ q. Divides f (last_multiple f kept) q × Crossed kept q) (λ q. dot n (entry q) (entry (divided_row (row_content (solution_row n kept f)) (solution_row n kept f))) ≡ pos 0)
          (λ q x y. sol_kernel q (takes q x.0.0 x.0.1 x.1 y.0 y.1)) kept
          (every_both (λ q. (¬ (last_column q ≡ f)) × (last_column q < n)) (λ q. ending_at (last_column q) kept ≡ Some q) (λ q. ((¬ (last_column q ≡ f)) × (last_column q < n)) × (ending_at (last_column q) kept ≡ Some q)) (λ q x y. (x, y)) kept a b)
          (every_both (Divides f (last_multiple f kept)) (Crossed kept) (λ q. Divides f (last_multiple f kept) q × Crossed kept q) (λ q x y. (x, y)) kept c d)
