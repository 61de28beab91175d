-- What decides whether a system is valid: variables of unknowns, derivatives of listed unknowns, polynomials in low variables, and order.
use Rattle.std.specs.Prelude.{◌≡◌, ℕ, zero, suc, ◌+◌, ◌-◌, ◌<◌, ◌≤◌, Bool, true, false, cond, eqb, ltb, ◌&&◌, ◌||◌, List, [], ◌∷◌, filter, length, get_or, take, ℤ}
use Rattle.std.proofs.Common.{Ordering, Less, refl, sym, ap, subst, ◌∙◌, arith, inl, inr, true≢false, add-one, ltb-true, ltb-false, eqb-true}
use Rattle.std.proofs.lemmas.Bool.{eqb-false}
use Rattle.std.proofs.lemmas.List.{get_or_default, get_or_past}
use Rattle.std.proofs.lemmas.List.FromFn.{get_or-range_with_len, length-range_with_len}
use Rattle.std.proofs.lemmas.Map.Views.{any-filter_same}
use Rattle.std.specs.List.{AllByRecursion as Every, list_any, range_with_len}
use Rattle.std.specs.List.Sorted.{IsStrictlySortedBy}
use Rattle.std.specs.Cmp.{IsTotalOrder, nat_cmp_is, ranks}
use Rattle.std.specs.Ordering.{nat_cmp, MatchOrdering}
use Rattle.std.proofs.lemmas.List.Kept.{IsStrictlySortedBy-filter}
use Rattle.lie_math.specs.Counts.{trimmed, before_counts}
use Rattle.lie_math.specs.Monomial.{Monomial, exponent, powers}
use Rattle.lie_math.specs.Polynomial.{WholePolynomial, terms}
use Rattle.lie_math.specs.Variables.{IsIn}
use Rattle.lie_lin.specs.Validity.{AreLow}
use Rattle.lie_math.proofs.CanonicalLists.{value_has}
use Rattle.lie_math.proofs.Decisions.{number_decided}
use Rattle.lie_math.proofs.EveryElement.{every-filter, every_picked}
use Rattle.lie_math.proofs.FiniteSum.{entries_of}

-- ---- lists that are looked through
pub every_more : {X : Type 0} (P : X → Type 0) (xs : List X) (i : ℕ) (x : X) → i < length xs → x ≡ get_or xs i x → Every P (take i xs) → P x → Every P (take (i + 1) xs)
every_more P xs i x lt is h p = subst (λ k. Every P (take k xs)) (sym (add-one i)) (go xs i lt is h)
  where
    go : (xs : List _) (i : ℕ) → i < length xs → x ≡ get_or xs i x → Every P (take i xs) → Every P (take (suc i) xs)
    go [] i lt is h = absurd (omega arith)
    go (y ∷ xs) zero lt is h = (subst P is p, tt)
    go (y ∷ xs) (suc i) lt is h = (h.0, go xs i (omega arith) is h.1)

module _ {X : Type 0} (R : X → X → Ordering) (total : IsTotalOrder R) where
  pub sorted_more : (xs : List X) (i : ℕ) (x : X) → i < length xs → x ≡ get_or xs i x → IsStrictlySortedBy R (take i xs) → ((j : ℕ) → i ≡ suc j → R (get_or xs j x) x ≡ Less) → IsStrictlySortedBy R (take (i + 1) xs)
  unfolding IsStrictlySortedBy
  sorted_more xs i x lt is s h = subst (λ k. IsStrictlySortedBy R (take k xs)) (sym (add-one i)) (go xs i lt is s h)
    where
      above : (y : X) (xs : List X) (i : ℕ) → i < length xs → x ≡ get_or xs i x → Every (λ z. R y z ≡ Less) (take i xs) → R y x ≡ Less → Every (λ z. R y z ≡ Less) (take (suc i) xs)
      above y [] i lt is k l = absurd (omega arith)
      above y (z ∷ xs) zero lt is k l = (subst (λ w. R y w ≡ Less) is l, tt)
      above y (z ∷ xs) (suc i) lt is k l = (k.0, above y xs i (omega arith) is k.1 l)

      under : (y : X) (xs : List X) (i : ℕ) → i < length xs → Every (λ z. R y z ≡ Less) (take (suc i) xs) → R (get_or xs i x) x ≡ Less → R y x ≡ Less
      under y [] i lt k l = absurd (omega arith)
      under y (z ∷ xs) zero lt k l = total.trans y z x k.0 l
      under y (z ∷ xs) (suc i) lt k l = under y xs i (omega arith) k.1 l

      go : (xs : List X) (i : ℕ) → i < length xs → x ≡ get_or xs i x → IsStrictlySortedBy R (take i xs) → ((j : ℕ) → i ≡ suc j → R (get_or xs j x) x ≡ Less) → IsStrictlySortedBy R (take (suc i) xs)
      go [] i lt is s h = absurd (omega arith)
      go (y ∷ xs) zero lt is s h = (tt, tt)
      go (y ∷ xs) (suc zero) lt is s h = (above y xs zero (omega arith) is tt (h zero refl), go xs zero (omega arith) is tt (λ j e. absurd (omega arith)))
      go (y ∷ xs) (suc (suc i)) lt is s h = (
        above y xs (suc i) (omega arith) is s.0 (under y xs i (omega arith) s.0 (h (suc i) refl)),
        go xs (suc i) (omega arith) is s.1 (λ j e. h (suc j) (ap suc e)),
      )

pub sorted_pair : {X : Type 0} (R : X → X → Ordering) (xs : List X) (i : ℕ) (d e : X) → suc i < length xs → IsStrictlySortedBy R xs → R (get_or xs i d) (get_or xs (suc i) e) ≡ Less
unfolding IsStrictlySortedBy
sorted_pair R [] i d e lt s = absurd (omega arith)
sorted_pair R (x ∷ xs) zero d e lt s = (every_picked (λ z. R x z ≡ Less) xs zero e (omega arith) s.0).0
sorted_pair R (x ∷ xs) (suc i) d e lt s = sorted_pair R xs i d e (omega arith) s.1

-- ---- variables whose bits are set
pub every_filter_of : {X : Type 0} (P : X → Type 0) (t : X → Bool) (xs : List X) → Every (λ x. t x ≡ true → P x) xs → Every P (filter t xs)
every_filter_of P t [] h = tt
every_filter_of P t (x ∷ xs) h = go (t x) h.0 (every_filter_of P t xs h.1)
  where
    go : (b : Bool) → (b ≡ true → P x) → Every P (filter t xs) → Every P (cond b (x ∷ filter t xs) (filter t xs))
    go true p k = (p refl, k)
    go false p k = k

pub every_filtered : {X : Type 0} (P : X → Type 0) (t : X → Bool) (xs : List X) → Every P (filter t xs) → Every (λ x. t x ≡ true → P x) xs
every_filtered P t [] h = tt
every_filtered P t (x ∷ xs) h = go (t x) refl (every_filtered P t xs) h
  where
    go : (b : Bool) → t x ≡ b → (Every P (filter t xs) → Every (λ y. t y ≡ true → P y) xs) → Every P (cond b (x ∷ filter t xs) (filter t xs)) → (t x ≡ true → P x) × Every (λ y. t y ≡ true → P y) xs
    go true e rest k = ((λ f. k.0), rest k.1)
    go false e rest k = ((λ f. absurd (true≢false (sym f ∙ e))), rest k)

every_range : (P : ℕ → Type 0) (a n : ℕ) → ((s : ℕ) → a ≤ s → s < a + n → P s) → Every P (range_with_len a n)
every_range P a zero f = tt
every_range P a (suc n) f = (f a (omega arith) (omega arith), every_range P (a + 1) n (λ s l g. f s (before s l) (less s g)))
  where
    before : (s : ℕ) → a + 1 ≤ s → a ≤ s
    before s l = omega arith

    less : (s : ℕ) → s < a + 1 + n → s < a + suc n
    less s g = omega arith

sorted_range : (a n : ℕ) → IsStrictlySortedBy nat_cmp (range_with_len a n)
unfolding IsStrictlySortedBy
sorted_range a zero = tt
sorted_range a (suc n) = (every_range (λ v. nat_cmp a v ≡ Less) (a + 1) n (λ v l g. sym (nat_cmp_is a v Less (next v l))), sorted_range (a + 1) n)
  where
    next : (v : ℕ) → a + 1 ≤ v → a < v
    next v l = omega arith

pub sorted_variables : (t : ℕ → Bool) → IsStrictlySortedBy nat_cmp (filter t (range_with_len 0 8))
sorted_variables t = IsStrictlySortedBy-filter nat_cmp t (range_with_len 0 8) (sorted_range 0 8)

-- all variables from n to 8 are left out
pub low_variables : (t : ℕ → Bool) (n : ℕ) → ((v : ℕ) → n ≤ v → v < 8 → t v ≡ false) → Every (λ v. v < n) (filter t (range_with_len 0 8))
low_variables t n h = every_filter_of (λ v. v < n) t (range_with_len 0 8) (every_range (λ v. t v ≡ true → v < n) 0 8 (λ v a g e. by v g e (ltb v n) refl))
  where
    by : (v : ℕ) → v < 0 + 8 → t v ≡ true → (b : Bool) → ltb v n ≡ b → v < n
    by v g e true f = ltb-true v n f
    by v g e false f = absurd (true≢false (sym e ∙ h v (ltb-false v n f) (omega arith)))

pub high_variable : (t : ℕ → Bool) (n i : ℕ) → n ≤ i → i < 8 → t i ≡ true → ¬ (Every (λ v. v < n) (filter t (range_with_len 0 8)))
high_variable t n i le lt e h = absurd (omega (arith, there, below))
  where
    itself : (k : ℕ) → 0 + k ≡ k
    itself k = omega arith

    there : get_or (range_with_len 0 8) i 0 ≡ i
    there = get_or-range_with_len 0 8 i 0 lt ∙ itself i

    picked : t (get_or (range_with_len 0 8) i 0) ≡ true → get_or (range_with_len 0 8) i 0 < n
    picked = (every_picked (λ v. t v ≡ true → v < n) (range_with_len 0 8) i 0 (subst (λ k. i < k) (sym (length-range_with_len 0 8)) lt) (every_filtered (λ v. v < n) t (range_with_len 0 8) h)).0

    below : get_or (range_with_len 0 8) i 0 < n
    below = picked (ap t there ∙ e)

in_range : (a n v : ℕ) → a ≤ v → v < a + n → list_any (eqb v) (range_with_len a n) ≡ true
in_range a zero v l g = absurd (omega arith)
in_range a (suc n) v l g = go (eqb v a) refl (in_range (a + 1) n v)
  where
    go : (b : Bool) → eqb v a ≡ b → (a + 1 ≤ v → v < a + 1 + n → list_any (eqb v) (range_with_len (a + 1) n) ≡ true) → list_any (eqb v) (range_with_len a (suc n)) ≡ true
    go true e rest = ap (λ b. b || list_any (eqb v) (range_with_len (a + 1) n)) e
    go false e rest = ap (λ b. b || list_any (eqb v) (range_with_len (a + 1) n)) e ∙ rest (let ne = eqb-false v a e in omega arith) (omega arith)

-- a variable below 8 is among them exactly where its bit is set
pub has_is : (t : ℕ → Bool) (v : ℕ) → v < 8 → list_any (eqb v) (filter t (range_with_len 0 8)) ≡ t v
has_is t v lt = any-filter_same (eqb v) t (t v) (λ k e. ap t (sym (eqb-true v k e))) (range_with_len 0 8) ∙ ap (λ b. t v && b) (in_range 0 8 v (omega arith) (omega arith)) ∙ plain (t v)
  where
    plain : (b : Bool) → (b && true) ≡ b
    plain true = refl
    plain false = refl

-- a variable among them is below 8
pub has_below : (t : ℕ → Bool) (v : ℕ) → list_any (eqb v) (filter t (range_with_len 0 8)) ≡ true → v < 8
has_below t v h = go (filter t (range_with_len 0 8)) (every-filter (λ w. w < 8) t (range_with_len 0 8) (every_range (λ w. w < 8) 0 8 (λ w a g. omega arith))) h
  where
    go : (xs : List ℕ) → Every (λ w. w < 8) xs → list_any (eqb v) xs ≡ true → v < 8
    go [] k e = absurd (true≢false (sym e))
    go (x ∷ xs) k e = by (eqb v x) refl (go xs k.1)
      where
        by : (b : Bool) → eqb v x ≡ b → (list_any (eqb v) xs ≡ true → v < 8) → v < 8
        by true f rest = let s = eqb-true v x f in let lt = k.0 in omega arith
        by false f rest = rest (sym (ap (λ b. b || list_any (eqb v) xs) f) ∙ e)

-- ---- counts without zeros at the end
pub get-trimmed : (J : List ℕ) (v : ℕ) → get_or (trimmed J) v 0 ≡ get_or J v 0
get-trimmed [] v = refl
get-trimmed (c ∷ J) v = go (trimmed J) v (get-trimmed J)
  where
    one : (b : Bool) (v : ℕ) → eqb c 0 ≡ b → get_or (cond b [] (c ∷ [])) v 0 ≡ get_or (c ∷ []) v 0
    one true zero e = sym (eqb-true c 0 e)
    one true (suc v) e = refl
    one false v e = refl

    go : (K : List ℕ) (v : ℕ) → ((w : ℕ) → get_or K w 0 ≡ get_or J w 0) → get_or (before_counts c K) v 0 ≡ get_or (c ∷ J) v 0
    go [] zero h = one (eqb c 0) zero refl
    go [] (suc v) h = one (eqb c 0) (suc v) refl ∙ h v
    go (d ∷ K) zero h = refl
    go (d ∷ K) (suc v) h = h v

pub trimmed_twice : (J : List ℕ) → trimmed (trimmed J) ≡ trimmed J
trimmed_twice [] = refl
trimmed_twice (c ∷ J) = go (trimmed J) (trimmed_twice J)
  where
    one : (b : Bool) → eqb c 0 ≡ b → trimmed (cond b [] (c ∷ [])) ≡ cond b [] (c ∷ [])
    one true e = refl
    one false e = ap (λ b. cond b [] (c ∷ [])) e

    go : (K : List ℕ) → trimmed K ≡ K → trimmed (before_counts c K) ≡ before_counts c K
    go [] h = one (eqb c 0) refl
    go (d ∷ K) h = ap (before_counts c) h

-- ---- polynomials in the variables below a number
abbrev IsLow : ℕ → Monomial → Type 0
IsLow n m = (v : ℕ) → ltb v n ≡ false → exponent m v ≡ 0

pub low_pairs : (n : ℕ) (m : Monomial) → IsLow n m → AreLow n m.list
low_pairs n m h = entries_of powers m (λ (e : ℕ × ℕ). e.0 < n) (λ e is apart. by e is apart (ltb e.0 n) refl)
  where
    by : (e : ℕ × ℕ) → exponent m e.0 ≡ e.1 → ¬ (e.1 ≡ 0) → (b : Bool) → ltb e.0 n ≡ b → e.0 < n
    by e is apart true f = ltb-true e.0 n f
    by e is apart false f = absurd (apart (sym is ∙ h e.0 f))

pub pairs_low : (n : ℕ) (m : Monomial) → AreLow n m.list → IsLow n m
pairs_low n m h v out = elim (number_decided (exponent m v) 0) [
  | inl e ↦ e
  | inr apart ↦ absurd (let lt : v < n = value_has powers (λ (e : ℕ × ℕ). e.0 < n) v m.list m.canonical h apart in let le = ltb-false v n out in omega arith)
]

pub in_of_low : (n : ℕ) (p : WholePolynomial) → Every (λ (e : Monomial × ℤ). AreLow n (e.0).list) p.list → IsIn (λ v. ltb v n) p
in_of_low n p h v out m apart = pairs_low n m (value_has terms (λ (e : Monomial × ℤ). AreLow n (e.0).list) m p.list p.canonical h apart) v out

pub low_of_in : (n : ℕ) (p : WholePolynomial) → IsIn (λ v. ltb v n) p → Every (λ (e : Monomial × ℤ). AreLow n (e.0).list) p.list
low_of_in n p h = entries_of terms p (λ (e : Monomial × ℤ). AreLow n (e.0).list) (λ e is apart. low_pairs n e.0 (λ v out. h v out e.0 (λ z. apart (sym is ∙ z))))

-- ---- steps of the loops that decide
pub bits_more : (t : ℕ → Bool) (n i : ℕ) → t i ≡ false → ((v : ℕ) → n ≤ v → v < i → t v ≡ false) → (v : ℕ) → n ≤ v → v < i + 1 → t v ≡ false
bits_more t n i e h v le lt = go (eqb v i) refl
  where
    go : (b : Bool) → eqb v i ≡ b → t v ≡ false
    go true f = ap t (eqb-true v i f) ∙ e
    go false f = h v le (let ne = eqb-false v i f in omega arith)

pub not_every : {X : Type 0} (P : X → Type 0) (xs : List X) (i : ℕ) (d : X) → i < length xs → ¬ (P (get_or xs i d)) → ¬ (Every P xs)
not_every P xs i d lt n h = n (every_picked P xs i d lt h).0

pub every_next : {X : Type 0} (P : X → Type 0) (xs : List X) (i : ℕ) (d : X) → i < length xs → Every P (take i xs) → P (get_or xs i d) → Every P (take (i + 1) xs)
every_next P xs i d lt h p = every_more P xs i (get_or xs i d) lt (get_or_default xs i d (get_or xs i d) lt) h p

pub sorted_next : {X : Type 0} (R : X → X → Ordering) (total : IsTotalOrder R) (xs : List X) (i : ℕ) (d e : X) → 1 ≤ i → i < length xs → IsStrictlySortedBy R (take i xs) → R (get_or xs (i - 1) d) (get_or xs i e) ≡ Less → IsStrictlySortedBy R (take (i + 1) xs)
sorted_next R total xs i d e le lt s h =
    sorted_more R total xs i (get_or xs i e) lt (get_or_default xs i e (get_or xs i e) lt) s
    (λ j f. subst (λ z. R z (get_or xs i e) ≡ Less) (ap (λ k. get_or xs k d) (back j f) ∙ get_or_default xs j d (get_or xs i e) (omega arith)) h)
  where
    back : (j : ℕ) → i ≡ suc j → i - 1 ≡ j
    back j f = omega arith

pub not_sorted : {X : Type 0} (R : X → X → Ordering) (xs : List X) (i : ℕ) (d e : X) → 1 ≤ i → i < length xs → ¬ (R (get_or xs (i - 1) d) (get_or xs i e) ≡ Less) → ¬ (IsStrictlySortedBy R xs)
not_sorted R xs i d e le lt n s = n (ap (λ k. R (get_or xs (i - 1) d) (get_or xs k e)) next ∙ sorted_pair R xs (i - 1) d e (omega arith) s)
  where
    next : i ≡ suc (i - 1)
    next = omega arith

pub sorted_first : {X : Type 0} (R : X → X → Ordering) (xs : List X) → IsStrictlySortedBy R (take 1 xs)
unfolding IsStrictlySortedBy
sorted_first R [] = tt
sorted_first R (x ∷ xs) = (tt, tt)

pub below_more : (P : ℕ → Type 0) (i : ℕ) → ((v : ℕ) → v < i → P v) → P i → (v : ℕ) → v < i + 1 → P v
below_more P i h p v lt = go (eqb v i) refl
  where
    go : (b : Bool) → eqb v i ≡ b → P v
    go true f = subst P (sym (eqb-true v i f)) p
    go false f = h v (let ne = eqb-false v i f in omega arith)

pub less_of : (a b : ℕ) → nat_cmp a b ≡ Less → a < b
less_of a b e = subst (λ o. MatchOrdering o (a < b) (a ≡ b) (b < a)) e (ranks a b)

pub within_eight : (counts : List ℕ) (v : ℕ) → length counts ≡ 8 → ¬ (get_or counts v 0 ≡ 0) → v < 8
within_eight counts v eight n = go (ltb v 8) refl
  where
    go : (b : Bool) → ltb v 8 ≡ b → v < 8
    go true e = ltb-true v 8 e
    go false e = absurd (n (get_or_past counts v 0 (let le = ltb-false v 8 e in omega arith)))
