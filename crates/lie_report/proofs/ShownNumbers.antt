-- The number by which an unknown is shown is found by halving.
use Rattle.std.specs.Prelude.{ℕ, zero, suc, ◌≡◌, ◌+◌, ◌<◌, ◌≤◌, ltb, Bool, true, false, cond, List, [], ◌∷◌, length, filter, map, refl}
use Rattle.std.specs.List.{AllByRecursion as Every}
use Rattle.std.specs.List.Sorted.{IsPartitionedBy, IsPartitionPoint, IsStrictlySortedBy}
use Rattle.std.specs.Cmp.{ranks}
use Rattle.std.specs.Ordering.{nat_cmp, MatchOrdering}
use Rattle.std.proofs.Common.{sym, ap, ◌∙◌, subst, arith, get_or, Less, ltb-true, lt-ltb}
use Rattle.lie_math.specs.LinearSystem.{Unknown}
use Rattle.lie_lin.specs.Systems.{unknown_of}
use Rattle.lie_lin.specs.declared.system.Unknown as kept
use Rattle.lie_report.specs.Terms.{AreRising, shown_number}

less_of : (a b : ℕ) → nat_cmp a b ≡ Less → a < b
less_of a b e = subst (λ o. MatchOrdering o (a < b) (a ≡ b) (b < a)) e (ranks a b)

goes_on : (x : ℕ) (fs : List kept.Unknown) (i : ℕ) (d : kept.Unknown) → Every (λ (y : Unknown). nat_cmp x y.number ≡ Less) (map unknown_of fs) → i < length fs → x < (get_or fs i d).number
goes_on x [] i d a h = absurd (omega arith)
goes_on x (f ∷ fs) zero d a h = less_of x f.number a.0
goes_on x (f ∷ fs) (suc i) d a h = goes_on x fs i d a.1 (omega arith)

pub lesser_stand_first : (n : ℕ) (fs : List kept.Unknown) → AreRising (map unknown_of fs) → IsPartitionedBy (λ (f : kept.Unknown). ltb f.number n) fs
unfolding IsStrictlySortedBy
lesser_stand_first n [] o i j d le lt h = absurd (omega arith)
lesser_stand_first n (f ∷ fs) o zero zero d le lt h = h
lesser_stand_first n (f ∷ fs) o zero (suc j) d le lt h =
    let below = goes_on f.number fs j d o.0 (omega arith) in
    let small = ltb-true (get_or fs j d).number n h in
    lt-ltb f.number n (omega arith)
lesser_stand_first n (f ∷ fs) o (suc i) zero d le lt h = absurd (omega arith)
lesser_stand_first n (f ∷ fs) o (suc i) (suc j) d le lt h = lesser_stand_first n fs o.1 i j d (omega arith) (omega arith) h

module _ {X : Type 0} (p : X → Bool) where
  -- how many pass where those that pass stand first
  pub count_first : (xs : List X) (i : ℕ) → i ≤ length xs → IsPartitionPoint (λ y. p y ≡ true) (λ y. p y ≡ false) xs i → length (filter p xs) ≡ i
  count_first [] zero le h = refl
  count_first [] (suc i) le h = absurd (omega arith)
  count_first (x ∷ xs) zero le h =
      rw (h.1 0 x (omega arith) (omega arith)) (count_first xs zero (omega arith) ((λ k d le lt. absurd (omega arith)), (λ k d le lt. h.1 (suc k) d (omega arith) (omega arith))))
  count_first (x ∷ xs) (suc i) le h =
      rw (h.0 0 x (omega arith) (omega arith))
      (ap suc (count_first xs i (omega arith) ((λ k d le lt. h.0 (suc k) d (omega arith) (omega arith)), (λ k d le lt. h.1 (suc k) d (omega arith) (omega arith)))))

count_lesser : (n : ℕ) (fs : List kept.Unknown) → length (filter (λ (f : Unknown). ltb f.number n) (map unknown_of fs)) ≡ length (filter (λ (f : kept.Unknown). ltb f.number n) fs)
count_lesser n [] = refl
count_lesser n (f ∷ fs) = go (ltb f.number n) (count_lesser n fs)
  where
    go : (b : Bool) → length (filter (λ (f : Unknown). ltb f.number n) (map unknown_of fs)) ≡ length (filter (λ (f : kept.Unknown). ltb f.number n) fs)
        → length (cond b (unknown_of f ∷ filter (λ (f : Unknown). ltb f.number n) (map unknown_of fs)) (filter (λ (f : Unknown). ltb f.number n) (map unknown_of fs)))
        ≡ length (cond b (f ∷ filter (λ (f : kept.Unknown). ltb f.number n) fs) (filter (λ (f : kept.Unknown). ltb f.number n) fs))
    go true e = ap suc e
    go false e = e

pub shown_by_count : (fs : List kept.Unknown) (n i r : ℕ) → i ≤ length fs → IsPartitionPoint (λ (f : kept.Unknown). ltb f.number n ≡ true) (λ (f : kept.Unknown). ltb f.number n ≡ false) fs i
    → r ≡ i + 1 → r ≡ shown_number (map unknown_of fs) n
shown_by_count fs n i r le h is = is ∙ sym (ap (λ k. k + 1) (count_lesser n fs ∙ count_first (λ (f : kept.Unknown). ltb f.number n) fs i le h))
