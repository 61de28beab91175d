-- Two reduced lists that span each other have the same entries, and the numbers of a combination can be read off at the pivots.
use Rattle.std.specs.Prelude.{◌≡◌, ℕ, zero, suc, ◌*◌, ◌<◌, List, [], ◌∷◌, length, get_or, ℤ, pos, negsuc, ◌+ℤ◌, ◌*ℤ◌, ◌<ℤ◌, unsigned_abs}
use Rattle.std.proofs.Common.{refl, sym, ap, subst, ◌∙◌, arith}
use Rattle.std.specs.List.{AllByRecursion as Every}
use Rattle.std.proofs.Math.Nat.{dvd_antisymm, dvd-mul_right}
use Rattle.std.proofs.lemmas.Int.{unsigned_abs-mul}
use Prim.Native.Nat.{◌∣◌}
use borrow.Author.Differences.{ints}
use Rattle.lie_math.specs.Integer.{integer_ring}
use Rattle.lie_math.proofs.Integer.{not_zero, no_zero_divisors_ℤ, cancel_ℤ, unsigned_abs_zero}
use Rattle.lie_math.proofs.RingSolver.{v, c0, ◌⊕◌, ◌⊗◌, solve, listed}
use Rattle.lie_spans.specs.Spans.{combination, IsSpanned}
use Rattle.lie_spans.specs.Reduced.{HasNoCommonDivisor, IsPivot, IsApart, IsReduced}
use Rattle.lie_spans.proofs.Divisors.{divides_through}
use Rattle.lie_math.proofs.EveryElement.{every-weaken, every_both, every_at}
use Rattle.lie_spans.proofs.Spans.{combination_vanishes}

pub positive_not_zero : (x : ℤ) → pos 0 <ℤ x → ¬ (x ≡ pos 0)
positive_not_zero x h e = absurd (omega (arith, ints))

pub abs_positive : (a : ℤ) → ¬ (a ≡ pos 0) → 0 < unsigned_abs a
abs_positive a h = at_least (unsigned_abs a) (λ e. h (unsigned_abs_zero a e))
  where
    at_least : (n : ℕ) → ¬ (n ≡ 0) → 0 < n
    at_least n f = omega arith

module _ {V C : Type 0} (entry : V → C → ℤ) where
  -- two vectors without a common divisor, one a multiple of the other, that are both positive somewhere
  module _ (r s : V) (m : ℕ) (c : ℤ) (p : C) (hr : HasNoCommonDivisor entry r) (hs : HasNoCommonDivisor entry s) (hm : 0 < m) (e : (k : C) → pos m *ℤ entry r k ≡ c *ℤ entry s k) (pr : pos 0 <ℤ entry r p) (ps : pos 0 <ℤ entry s p) where
    sizes : (j : C) → m * unsigned_abs (entry r j) ≡ unsigned_abs c * unsigned_abs (entry s j)
    sizes j = sym (unsigned_abs-mul (pos m) (entry r j)) ∙ ap unsigned_abs (e j) ∙ unsigned_abs-mul c (entry s j)

    factor_not_zero : ¬ (c ≡ pos 0)
    factor_not_zero z =
        positive_not_zero (entry r p) pr (no_zero_divisors_ℤ (pos m) (entry r p) (not_zero m hm)
        (e p ∙ ap (λ x. x *ℤ entry s p) z ∙ solve integer_ring (listed (pos 0) (entry s p ∷ [])) (c0 ⊗ v 0) c0 refl))

    into : m ∣ unsigned_abs c
    into = divides_through (λ j. unsigned_abs (entry s j)) hs m (unsigned_abs c) hm (λ j. subst (λ n. m ∣ n) (sizes j) (dvd-mul_right m (unsigned_abs (entry r j))))

    back : unsigned_abs c ∣ m
    back = divides_through (λ j. unsigned_abs (entry r j)) hr (unsigned_abs c) m (abs_positive c factor_not_zero) (λ j. subst (λ n. unsigned_abs c ∣ n) (sym (sizes j)) (dvd-mul_right (unsigned_abs c) (unsigned_abs (entry s j))))

    by_sign : (a : ℤ) (x y : ℤ) → unsigned_abs a ≡ m → pos m *ℤ x ≡ a *ℤ y → pos 0 <ℤ x → pos 0 <ℤ y → a ≡ pos m
    by_sign (pos n) x y h q px py = ap pos h
    by_sign (negsuc n) (pos (suc x)) (pos (suc y)) h q px py = absurd (omega (arith, ints, q))
    by_sign (negsuc n) (pos zero) y h q px py = absurd px.lt
    by_sign (negsuc n) (negsuc x) y h q px py = absurd px.lt
    by_sign (negsuc n) (pos (suc x)) (pos zero) h q px py = absurd py.lt
    by_sign (negsuc n) (pos (suc x)) (negsuc y) h q px py = absurd py.lt

    factor_is : c ≡ pos m
    factor_is = by_sign c (entry r p) (entry s p) (dvd_antisymm back into) (e p) pr ps

    pub same_primitive : (k : C) → entry r k ≡ entry s k
    same_primitive k = cancel_ℤ (pos m) (entry r k) (entry s k) (not_zero m hm) (e k ∙ ap (λ x. x *ℤ entry s k) factor_is)

  -- lists of vectors with the same entries
  abbrev pub Alike : List V → List V → Type 0
  Alike [] [] = Unit {0}
  Alike [] (s ∷ ss) = ⊥
  Alike (r ∷ rs) [] = ⊥
  Alike (r ∷ rs) (s ∷ ss) = ((k : C) → entry r k ≡ entry s k) × Alike rs ss

  alike_every : (P Q : V → Type 0) → ((r s : V) → ((k : C) → entry r k ≡ entry s k) → P r → Q s) → (rs ss : List V) → Alike rs ss → Every P rs → Every Q ss
  alike_every P Q f [] [] e h = tt
  alike_every P Q f [] (s ∷ ss) e h = absurd e
  alike_every P Q f (r ∷ rs) [] e h = absurd e
  alike_every P Q f (r ∷ rs) (s ∷ ss) e h = (f r s e.0 h.0, alike_every P Q f rs ss e.1 h.1)

  -- a combination without its first vector
  drop_first : (c : ℕ → ℤ) (r : V) (rs : List V) (k : C) → c 0 ≡ pos 0 → combination entry c (r ∷ rs) k ≡ combination entry (λ i. c (suc i)) rs k
  drop_first c r rs k z =
      ap (λ x. x *ℤ entry r k +ℤ combination entry (λ i. c (suc i)) rs k) z
      ∙ solve integer_ring (listed (entry r k) (entry r k ∷ combination entry (λ i. c (suc i)) rs k ∷ [])) (c0 ⊗ v 0 ⊕ v 1) (v 1) refl

  vanishes : (rs : List V) (w : C → ℤ) (s : IsSpanned entry rs w) (k : C) → combination entry s.numbers rs k ≡ pos 0 → w k ≡ pos 0
  vanishes rs w s k e = no_zero_divisors_ℤ (pos s.multiple) (w k) (not_zero s.multiple s.positive) (s.same k ∙ e)

  module _ (before : C → C → Type 0) (before_trans : (i j k : C) → before i j → before j k → before i k) (same_column : (j k : C) → ¬ (before j k) → ¬ (before k j) → j ≡ k) where
    abbrev HasPivot : V → Type 0
    HasPivot r = (k : C) × IsPivot entry before r k

    abbrev Apart : V → V → Type 0
    Apart r s = (j k : C) → IsPivot entry before r j → IsPivot entry before s k → IsApart entry before r s j k

    rest_reduced : (r : V) (rs : List V) → IsReduced entry before (r ∷ rs) → IsReduced entry before rs
    rest_reduced r rs h = record { primitive = h.primitive.1; pivots = h.pivots.1; apart = h.apart.1 }

    -- ---- what a combination of a reduced list has at the pivots
    -- at the first pivot only the first vector counts
    entry_at_first : (c : ℕ → ℤ) (r : V) (rs : List V) → IsReduced entry before (r ∷ rs) → (j : C) → IsPivot entry before r j → combination entry c (r ∷ rs) j ≡ c 0 *ℤ entry r j
    entry_at_first c r rs h j p =
        ap (λ x. c 0 *ℤ entry r j +ℤ x) (combination_vanishes entry (λ i. c (suc i)) rs j (every_both HasPivot (Apart r) (λ s. entry s j ≡ pos 0) (λ s q a. (a j q.0 p q.1).right) rs h.pivots.1 h.apart.0))
        ∙ solve integer_ring (listed (c 0) (c 0 ∷ entry r j ∷ [])) (v 0 ⊗ v 1 ⊕ c0) (v 0 ⊗ v 1) refl

    first_gone : (c : ℕ → ℤ) (r : V) (rs : List V) → IsReduced entry before (r ∷ rs) → (j : C) → IsPivot entry before r j → combination entry c (r ∷ rs) j ≡ pos 0 → c 0 ≡ pos 0
    first_gone c r rs h j p e =
        no_zero_divisors_ℤ (entry r j) (c 0) (positive_not_zero (entry r j) p.positive)
        (solve integer_ring (listed (c 0) (c 0 ∷ entry r j ∷ [])) (v 1 ⊗ v 0) (v 0 ⊗ v 1) refl ∙ sym (entry_at_first c r rs h j p) ∙ e)

    -- one that has 0 at all pivots is 0
    all_gone : (rs : List V) → IsReduced entry before rs → (c : ℕ → ℤ) → Every (λ r. (k : C) → IsPivot entry before r k → combination entry c rs k ≡ pos 0) rs → (k : C) → combination entry c rs k ≡ pos 0
    all_gone [] h c e k = refl
    all_gone (r ∷ rs) h c e k =
        let z : c 0 ≡ pos 0 = first_gone c r rs h (h.pivots.0).0 (h.pivots.0).1 (e.0 (h.pivots.0).0 (h.pivots.0).1) in
        drop_first c r rs k z
        ∙ all_gone rs (rest_reduced r rs h) (λ i. c (suc i)) (every-weaken (λ s. (j : C) → IsPivot entry before s j → combination entry c (r ∷ rs) j ≡ pos 0) (λ s. (j : C) → IsPivot entry before s j → combination entry (λ i. c (suc i)) rs j ≡ pos 0) (λ s q j p. sym (drop_first c r rs j z) ∙ q j p) rs e.1) k

    -- before the first pivot there is nothing
    nothing_before : (r : V) (rs : List V) → IsReduced entry before (r ∷ rs) → (j k : C) → IsPivot entry before r j → before k j → Every (λ s. entry s k ≡ pos 0) (r ∷ rs)
    nothing_before r rs h j k p l = (p.first k l, every_both HasPivot (Apart r) (λ s. entry s k ≡ pos 0) (λ s q a. (q.1).first k (before_trans k j q.0 l (a j q.0 p q.1).rise)) rs h.pivots.1 h.apart.0)

    not_before : (r : V) (rs : List V) → IsReduced entry before (r ∷ rs) → (w : V) (j k : C) → IsPivot entry before r j → IsPivot entry before w k → IsSpanned entry (r ∷ rs) (entry w) → ¬ (before k j)
    not_before r rs h w j k p q s l = positive_not_zero (entry w k) q.positive (vanishes (r ∷ rs) (entry w) s k (combination_vanishes entry s.numbers (r ∷ rs) k (nothing_before r rs h j k p l)))

    -- what has 0 at the first pivot is spanned by the others
    spanned_by_rest : (r : V) (rs : List V) (w : C → ℤ) → IsReduced entry before (r ∷ rs) → (j : C) → IsPivot entry before r j → IsSpanned entry (r ∷ rs) w → w j ≡ pos 0 → IsSpanned entry rs w
    spanned_by_rest r rs w h j p s e =
        let z : s.numbers 0 ≡ pos 0 =
        first_gone s.numbers r rs h j p (sym (s.same j) ∙ ap (λ x. pos s.multiple *ℤ x) e ∙ solve integer_ring (listed (pos 0) (pos s.multiple ∷ [])) (v 0 ⊗ c0) c0 refl) in
        record { multiple = s.multiple; positive = s.positive; numbers = λ i. s.numbers (suc i); same = λ k. s.same k ∙ drop_first s.numbers r rs k z }

    -- ---- two reduced lists that span each other
    module _ (r s : V) (rs ss : List V) (h : IsReduced entry before (r ∷ rs)) (k : IsReduced entry before (s ∷ ss)) (a : Every (λ w. IsSpanned entry (s ∷ ss) (entry w)) (r ∷ rs)) (b : Every (λ w. IsSpanned entry (r ∷ rs) (entry w)) (s ∷ ss)) where
      same_pivots : (h.pivots.0).0 ≡ (k.pivots.0).0
      same_pivots =
          same_column (h.pivots.0).0 (k.pivots.0).0
          (not_before s ss k r (k.pivots.0).0 (h.pivots.0).0 (k.pivots.0).1 (h.pivots.0).1 a.0)
          (not_before r rs h s (h.pivots.0).0 (k.pivots.0).0 (h.pivots.0).1 (k.pivots.0).1 b.0)

      both_pivots : IsPivot entry before s (h.pivots.0).0
      both_pivots = subst (λ j. IsPivot entry before s j) (sym same_pivots) (k.pivots.0).1

      left_rest : Every (λ w. IsSpanned entry ss (entry w)) rs
      left_rest = every_both (λ w. IsSpanned entry (s ∷ ss) (entry w)) (λ w. HasPivot w × Apart r w) (λ w. IsSpanned entry ss (entry w))
          (λ w q e. spanned_by_rest s ss (entry w) k (h.pivots.0).0 both_pivots q (e.1 (h.pivots.0).0 (e.0).0 (h.pivots.0).1 (e.0).1).right) rs a.1
          (every_both HasPivot (Apart r) (λ w. HasPivot w × Apart r w) (λ w p q. (p, q)) rs h.pivots.1 h.apart.0)

      right_rest : Every (λ w. IsSpanned entry rs (entry w)) ss
      right_rest = every_both (λ w. IsSpanned entry (r ∷ rs) (entry w)) (λ w. HasPivot w × Apart s w) (λ w. IsSpanned entry rs (entry w))
          (λ w q e. spanned_by_rest r rs (entry w) h (h.pivots.0).0 (h.pivots.0).1 q (e.1 (h.pivots.0).0 (e.0).0 both_pivots (e.0).1).right) ss b.1
          (every_both HasPivot (Apart s) (λ w. HasPivot w × Apart s w) (λ w p q. (p, q)) ss k.pivots.1 k.apart.0)

      module _ (rests : Alike rs ss) where
        abbrev Zero : V → V → Type 0
        Zero w x = (j : C) → IsPivot entry before x j → entry w j ≡ pos 0

        zero_left : Every (Zero r) ss
        zero_left = alike_every (Zero r) (Zero r) (λ x y e f j p. f j (record { positive = subst (λ z. pos 0 <ℤ z) (sym (e j)) p.positive; first = λ i l. e i ∙ p.first i l })) rs ss rests
            (every-weaken (Apart r) (Zero r) (λ x q j p. (q (h.pivots.0).0 j (h.pivots.0).1 p).left) rs h.apart.0)

        zero_right : Every (Zero s) ss
        zero_right = every-weaken (Apart s) (Zero s) (λ x q j p. (q (h.pivots.0).0 j both_pivots p).left) ss k.apart.0

        none_at : (w : V) → Zero r w → Zero s w → (j : C) → IsPivot entry before w j → combination entry (λ i. (a.0).numbers (suc i)) ss j ≡ pos 0
        none_at w e f j p =
            solve integer_ring (listed (pos 0) ((a.0).numbers 0 ∷ combination entry (λ i. (a.0).numbers (suc i)) ss j ∷ [])) (v 1) (v 0 ⊗ c0 ⊕ v 1) refl
            ∙ ap (λ x. (a.0).numbers 0 *ℤ x +ℤ combination entry (λ i. (a.0).numbers (suc i)) ss j) (sym (f j p))
            ∙ sym ((a.0).same j) ∙ ap (λ x. pos (a.0).multiple *ℤ x) (e j p) ∙ solve integer_ring (listed (pos 0) (pos (a.0).multiple ∷ [])) (v 0 ⊗ c0) c0 refl

        others : (j : C) → combination entry (λ i. (a.0).numbers (suc i)) ss j ≡ pos 0
        others = all_gone ss (rest_reduced s ss k) (λ i. (a.0).numbers (suc i)) (every_both (Zero r) (Zero s) (λ w. (j : C) → IsPivot entry before w j → combination entry (λ i. (a.0).numbers (suc i)) ss j ≡ pos 0) none_at ss zero_left zero_right)

        same_heads : (j : C) → entry r j ≡ entry s j
        same_heads = same_primitive r s (a.0).multiple ((a.0).numbers 0) (h.pivots.0).0 h.primitive.0 k.primitive.0 (a.0).positive
            (λ j. (a.0).same j ∙ ap (λ x. (a.0).numbers 0 *ℤ entry s j +ℤ x) (others j) ∙ solve integer_ring (listed (pos 0) ((a.0).numbers 0 ∷ entry s j ∷ [])) (v 0 ⊗ v 1 ⊕ c0) (v 0 ⊗ v 1) refl)
            ((h.pivots.0).1).positive both_pivots.positive

    pub same_reduced : (rs ss : List V) → IsReduced entry before rs → IsReduced entry before ss → Every (λ r. IsSpanned entry ss (entry r)) rs → Every (λ s. IsSpanned entry rs (entry s)) ss → Alike rs ss
    same_reduced [] [] h k a b = tt
    same_reduced [] (s ∷ ss) h k a b = positive_not_zero (entry s (k.pivots.0).0) ((k.pivots.0).1).positive (vanishes [] (entry s) b.0 (k.pivots.0).0 refl)
    same_reduced (r ∷ rs) [] h k a b = positive_not_zero (entry r (h.pivots.0).0) ((h.pivots.0).1).positive (vanishes [] (entry r) a.0 (h.pivots.0).0 refl)
    same_reduced (r ∷ rs) (s ∷ ss) h k a b =
        let rests : Alike rs ss = same_reduced rs ss (rest_reduced r rs h) (rest_reduced s ss k) (left_rest r s rs ss h k a b) (right_rest r s rs ss h k a b) in
        (same_heads r s rs ss h k a b rests, rests)

    -- ---- the numbers of a combination
    numbers_at : (c : ℕ → ℤ) (rs : List V) → IsReduced entry before rs → (i : ℕ) (r : V) → i < length rs → r ≡ get_or rs i r → (k : C) → IsPivot entry before r k → combination entry c rs k ≡ c i *ℤ entry r k
    numbers_at c [] h i r l e k p = absurd (omega arith)
    numbers_at c (s ∷ rs) h zero r l e k p = entry_at_first c s rs h k (subst (λ x. IsPivot entry before x k) e p) ∙ ap (λ x. c 0 *ℤ entry x k) (sym e)
    numbers_at c (s ∷ rs) h (suc i) r l e k p =
        let a : Apart s r = every_at (Apart s) rs i r (omega arith) e h.apart.0 in
        ap (λ x. c 0 *ℤ x +ℤ combination entry (λ j. c (suc j)) rs k) (a (h.pivots.0).0 k (h.pivots.0).1 p).left
        ∙ solve integer_ring (listed (c 0) (c 0 ∷ combination entry (λ j. c (suc j)) rs k ∷ [])) (v 0 ⊗ c0 ⊕ v 1) (v 1) refl
        ∙ numbers_at (λ j. c (suc j)) rs (rest_reduced s rs h) i r (omega arith) e k p

    -- the number of the i-th vector, over the multiple, is the entry at its pivot over its own entry there
    pub numbers_are : (rs : List V) (w : C → ℤ) → IsReduced entry before rs → (s : IsSpanned entry rs w) (i : ℕ) (r : V) → i < length rs → r ≡ get_or rs i r → (k : C) → IsPivot entry before r k → pos s.multiple *ℤ w k ≡ s.numbers i *ℤ entry r k
    numbers_are rs w h s i r l e k p = s.same k ∙ numbers_at s.numbers rs h i r l e k p
