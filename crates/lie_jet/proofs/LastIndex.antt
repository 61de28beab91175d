-- Jets derived once less by their last index.
use Rattle.std.specs.Prelude.{◌≡◌, ℕ, zero, suc, ◌+◌, ◌-◌, ◌<◌, ◌≤◌, List, [], ◌∷◌, ◌++◌, length, take, drop, replicate, slice_set, slice_index}
use Rattle.std.proofs.Common.{refl, sym, ap, ap₂, subst, ◌∙◌, arith}
use Rattle.std.proofs.lemmas.List.{drop-set-lt, length-set}
use Rattle.lie_math.specs.Counts.{order}
use Rattle.lie_geometry.specs.Coordinates.{Space}
use Rattle.lie_geometry.specs.Prolongation.{indices_from, indices}
use Rattle.lie_jet.specs.Jets.{IsJet}
use Rattle.lie_jet.specs.declared.jet.Jet.{Jet}
use Rattle.lie_jet.specs.Lowered.{IsLowered}

-- no index is p or more
pub no_more : (p : ℕ) (xs : List ℕ) → indices_from p (drop p (take p xs)) ≡ []
no_more p xs = ap (indices_from p) (nothing p xs)
  where
    nothing : (p : ℕ) (xs : List ℕ) → drop p (take p xs) ≡ []
    nothing zero xs = refl
    nothing (suc p) [] = refl
    nothing (suc p) (x ∷ xs) = nothing p xs

-- where the count is 0 there is no such index either
pub one_fewer : (s p i : ℕ) (xs : List ℕ) → i < p → indices_from (s + suc i) (drop (suc i) (take p xs)) ≡ [] → slice_index xs i ≡ 0 → indices_from (s + i) (drop i (take p xs)) ≡ []
one_fewer s zero i xs h e z = absurd (omega arith)
one_fewer s (suc p) i [] h e z = none i
  where
    none : (i : ℕ) → indices_from (s + i) (drop i []) ≡ []
    none zero = refl
    none (suc i) = refl
one_fewer s (suc p) zero (x ∷ xs) h e z = ap₂ (λ t c. t ++ replicate c (s + 0)) (ap (λ n. indices_from n (take p xs)) (moved s) ∙ e) z
  where
    moved : (s : ℕ) → suc (s + 0) ≡ s + 1
    moved s = omega arith
one_fewer s (suc p) (suc i) (x ∷ xs) h e z =
    ap (λ n. indices_from n (drop i (take p xs))) (moved s i) ∙ one_fewer (suc s) p i xs (omega arith) (ap (λ n. indices_from n (drop (suc i) (take p xs))) (moved' s i) ∙ e) z
  where
    moved : (s i : ℕ) → s + suc i ≡ suc s + i
    moved s i = omega arith

    moved' : (s i : ℕ) → suc s + suc i ≡ s + suc (suc i)
    moved' s i = omega arith

-- the first index is the last variable with a positive count
pub first_index : (s p i : ℕ) (xs : List ℕ) → i < p → indices_from (s + suc i) (drop (suc i) (take p xs)) ≡ [] → 0 < slice_index xs i
    → indices_from s (take p xs) ≡ (s + i) ∷ indices_from s (take p (slice_set xs i (slice_index xs i - 1)))
first_index s zero i xs h e z = absurd (omega arith)
first_index s (suc p) i [] h e z = absurd (nothing i z)
  where
    nothing : (i : ℕ) → 0 < slice_index [] i → ⊥
    nothing i z = omega arith
first_index s (suc p) zero (x ∷ xs) h e z =
    let none : indices_from (suc s) (take p xs) ≡ [] = ap (λ n. indices_from n (take p xs)) (moved s) ∙ e in
    ap (λ t. t ++ replicate x s) none ∙ ap (λ c. replicate c s) (one_more x z) ∙ ap₂ (λ n t. n ∷ (t ++ replicate (x - 1) s)) (plain s) (sym none)
  where
    moved : (s : ℕ) → suc s ≡ s + 1
    moved s = omega arith

    plain : (s : ℕ) → s ≡ s + 0
    plain s = omega arith

    one_more : (x : ℕ) → 0 < x → x ≡ suc (x - 1)
    one_more x h = omega arith
first_index s (suc p) (suc i) (x ∷ xs) h e z =
    ap (λ t. t ++ replicate x s) (first_index (suc s) p i xs (omega arith) (ap (λ n. indices_from n (drop (suc i) (take p xs))) (moved' s i) ∙ e) z) ∙ ap (λ n. n ∷ (indices_from (suc s) (take p (slice_set xs i (slice_index xs i - 1))) ++ replicate x s)) (moved s i)
  where
    moved : (s i : ℕ) → suc s + i ≡ s + suc i
    moved s i = omega arith

    moved' : (s i : ℕ) → suc s + suc i ≡ s + suc (suc i)
    moved' s i = omega arith

order_lowered : (p i : ℕ) (xs : List ℕ) → i < p → 0 < slice_index xs i → suc (order (take p (slice_set xs i (slice_index xs i - 1)))) ≡ order (take p xs)
order_lowered zero i xs h z = absurd (omega arith)
order_lowered (suc p) i [] h z = absurd (nothing i z)
  where
    nothing : (i : ℕ) → 0 < slice_index [] i → ⊥
    nothing i z = omega arith
order_lowered (suc p) zero (x ∷ xs) h z = omega arith
order_lowered (suc p) (suc i) (x ∷ xs) h z = let e = order_lowered p i xs (omega arith) z in omega arith

pub lowered_jet : (S : Space) (j l : Jet) (i : ℕ) → IsJet S 12 j → i < S.p → indices_from (suc i) (drop (suc i) (take S.p j.counts)) ≡ [] → 0 < slice_index j.counts i → l.dep ≡ j.dep → l.counts ≡ slice_set j.counts i (slice_index j.counts i - 1) → IsLowered S j i l
lowered_jet S j l i is h e z d c =
    let o : suc (order (take S.p l.counts)) ≡ order (take S.p j.counts) = ap (λ xs. suc (order (take S.p xs))) c ∙ order_lowered S.p i j.counts h z in
    record {
      within = h;
      jet = record {
        space = is.space;
        dependent = subst (λ a. a < S.q) (sym d) is.dependent;
        four = ap length c ∙ length-set _ _ _ ∙ is.four;
        rest = ap (drop S.p) c ∙ drop-set-lt S.p j.counts i _ h ∙ is.rest;
        low = let k : order (take S.p j.counts) ≤ 12 = is.low in omega arith;
      };
      dependent = d;
      order_less = o;
      first = first_index 0 S.p i j.counts h (ap (λ n. indices_from n (drop (suc i) (take S.p j.counts))) (plain (suc i)) ∙ e) z ∙ ap₂ (λ n xs. n ∷ indices (take S.p xs)) (plain i) (sym c);
    }
  where
    plain : (n : ℕ) → 0 + n ≡ n
    plain n = omega arith

-- ---- as the loop goes, from the place n to the one before it
pub fewer_before : (p n k : ℕ) (xs : List ℕ) → 0 < n → n ≤ p → k ≡ n - 1 → indices_from n (drop n (take p xs)) ≡ [] → slice_index xs k ≤ 0 → indices_from (n - 1) (drop (n - 1) (take p xs)) ≡ []
fewer_before p n k xs h g q e z =
    subst (λ m. indices_from m (drop (n - 1) (take p xs)) ≡ []) (plain (n - 1))
    (one_fewer 0 p (n - 1) xs (less h g) (ap (λ m. indices_from m (drop (suc (n - 1)) (take p xs))) (plain (suc (n - 1))) ∙ ap (λ m. indices_from m (drop m (take p xs))) (next h) ∙ e) (ap (slice_index xs) (sym q) ∙ none z))
  where
    plain : (m : ℕ) → 0 + m ≡ m
    plain m = omega arith

    less : 0 < n → n ≤ p → n - 1 < p
    less h g = omega arith

    next : 0 < n → suc (n - 1) ≡ n
    next h = omega arith

    none : {m : ℕ} → m ≤ 0 → m ≡ 0
    none h = omega arith

pub lowered_before : (S : Space) (j : Jet) (n k : ℕ) → IsJet S 12 j → 0 < n → n ≤ S.p → k ≡ n - 1 → indices_from n (drop n (take S.p j.counts)) ≡ [] → 0 < slice_index j.counts k → IsLowered S j (n - 1) (record { dep = j.dep; counts = slice_set j.counts k (slice_index j.counts k - 1) })
lowered_before S j n k is h g q e z =
    lowered_jet S j _ (n - 1) is (less h g) (ap (λ m. indices_from m (drop m (take S.p j.counts))) (next h) ∙ e) (subst (λ m. 0 < slice_index j.counts m) q z) refl (ap (λ m. slice_set j.counts m (slice_index j.counts m - 1)) q)
  where
    less : 0 < n → n ≤ S.p → n - 1 < S.p
    less h g = omega arith

    next : 0 < n → suc (n - 1) ≡ n
    next h = omega arith
