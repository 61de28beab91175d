-- The total derivative of a term, power by power, and of a polynomial, term by term: no part has a negative coefficient where the term has none, so each part is covered by the whole.
use Rattle.std.specs.Prelude.{◌≡◌, ℕ, zero, suc, ◌+◌, ◌<◌, ◌≤◌, Bool, true, false, List, [], ◌∷◌, ◌++◌, length, take, eqb, ltb, T, ◌&&◌, IfOk, Result, Ok, Err, Option, Some, None, ℤ, pos, ◌*ℤ◌, unsigned_abs}
use Rattle.std.specs.List.{AllByRecursion as Every}
use Rattle.std.proofs.Common.{refl, sym, ap, subst, ◌∙◌, arith, get_or, eqb-true, eq-eqb, true≢false, ltb-true, ltb-false, le-ltb}
use Rattle.std.proofs.lemmas.List.{take_more}
use Rattle.std.proofs.lemmas.List.Elements.{All-from_recursion}
use Rattle.lie_math.specs.Canonical.{sum_of_entries-append}
use Rattle.lie_math.specs.FiniteSumLaws.{of_list, list-of}
use Rattle.lie_math.specs.Limits.{absolute, absolutes}
use Rattle.lie_math.specs.Monomial.{Monomial, powers, exponent, single, unit}
use Rattle.lie_math.specs.PartialDerivative.{lower}
use Rattle.lie_math.specs.Polynomial.{WholePolynomial, polynomials, terms, term, polynomial_of, ◌+ᴾ◌, ◌*ᴾ◌, variable}
use Rattle.lie_math.specs.PolynomialRing.{polynomial_ring, 0ᴾ-*ᴾ, polynomial_of-none, term_times_term}
use Rattle.lie_math.specs.SortedSum.{sum_of_entries}
use Rattle.lie_math.specs.Derivation.{is_below}
use Rattle.lie_math.specs.Variables.{IsIn}
use Rattle.lie_ring.specs.Entries.{entries}
use Rattle.lie_math.proofs.Derivation.{derived-0ᴾ}
use Rattle.lie_math.proofs.FiniteSum.{entries_of}
use Rattle.lie_math.proofs.Kept.{pairs_in, terms_in, kept-terms}
use Rattle.lie_math.proofs.Variables.{kept_in}
use Rattle.lie_math.proofs.Limits.{IsCovered, IsNonNegative, nonneg_sum, nonneg_none, nonneg_absolutes, covered_first, covered_second, covered_trans, term_is}
use Rattle.lie_math.proofs.CanonicalLists.{of-cons}
use Rattle.lie_math.proofs.Ring.{plus_idr}
use Rattle.lie_geometry.specs.Coordinates.{Space, Coordinate, independent, jet, IsCoordinate, number, coordinate}
use Rattle.lie_geometry.specs.Prolongation.{total_derivative}
use Rattle.lie_geometry.proofs.Derivations.{total_is_derivation}
use Rattle.lie_geometry.proofs.Numbers.{coordinate_is}
use Rattle.lie_math.specs.Counts.{raise}
use Rattle.lie_jet.specs.Jets.{IsSmall}
use Rattle.lie_jet.specs.Listed.{sum_listed, bulk_listed, HasVariablesBelow}
use Rattle.lie_jet.specs.Slopes.{IsSlope}
use Rattle.lie_jet.proofs.ChainRules.{part, parts, derived_term}
use Rattle.lie_jet.proofs.Raised.{slope_of_jet, slope_at_itself, slope_elsewhere}
use Rattle.lie_jet.proofs.TotalSteps.{sum_one, bulk_one}

-- ---- sums over entries
module _ {K A : Type 0} (φ : K → A → WholePolynomial) where
  pub entries_more : (ps qs : List (K × A)) (k : ℕ) (d : K × A) → qs ≡ ps → k < length qs → sum_of_entries polynomials φ (take (k + 1) ps) ≡ sum_of_entries polynomials φ (take k ps) +ᴾ φ (get_or qs k d).0 (get_or qs k d).1
  entries_more ps qs k d e h =
      let l : k < length ps = subst (λ (xs : List (K × A)). k < length xs) e h in
      ap (sum_of_entries polynomials φ) (take_more ps k d l) ∙ sum_of_entries-append polynomials φ (take k ps) (get_or ps k d ∷ []) ∙ ap (λ p. sum_of_entries polynomials φ (take k ps) +ᴾ p) (plus_idr polynomial_ring (φ (get_or ps k d).0 (get_or ps k d).1) ∙ ap (λ (xs : List (K × A)). φ (get_or xs k d).0 (get_or xs k d).1) (sym e))

  module _ (plain : (k : K) (a : A) → IsNonNegative (φ k a)) where
    pub sum_nonneg : (ps : List (K × A)) → IsNonNegative (sum_of_entries polynomials φ ps)
    sum_nonneg [] = nonneg_none
    sum_nonneg (p ∷ ps) = nonneg_sum (φ p.0 p.1) (sum_of_entries polynomials φ ps) (plain p.0 p.1) (sum_nonneg ps)

    pub sum_covers : (ps : List (K × A)) (k : ℕ) (d : K × A) → k < length ps → IsCovered (φ (get_or ps k d).0 (get_or ps k d).1) (sum_of_entries polynomials φ ps)
    sum_covers [] k d h = absurd (omega arith)
    sum_covers (p ∷ ps) zero d h = covered_first (φ p.0 p.1) (sum_of_entries polynomials φ ps) (plain p.0 p.1) (sum_nonneg ps)
    sum_covers (p ∷ ps) (suc k) d h = covered_trans _ (sum_of_entries polynomials φ ps) _ (sum_covers ps k d (omega arith)) (covered_second (φ p.0 p.1) (sum_of_entries polynomials φ ps) (plain p.0 p.1) (sum_nonneg ps))

pub nonneg_term : (m : Monomial) (n : ℕ) → IsNonNegative (term m (pos n))
nonneg_term m n = subst IsNonNegative (sym (term_is m (pos n))) (nonneg_absolutes ((m, pos n) ∷ []))

-- ---- the powers of a monomial
-- the exponent at an entry, which is not 0
pub power_at : (m : Monomial) (ps : List (ℕ × ℕ)) (k : ℕ) → ps ≡ m.list → k < length ps → (exponent m (get_or ps k (0, 0)).0 ≡ (get_or ps k (0, 0)).1) × (¬ ((get_or ps k (0, 0)).1 ≡ 0))
power_at m ps k e h = All-from_recursion (λ (p : ℕ × ℕ). (exponent m p.0 ≡ p.1) × (¬ (p.1 ≡ 0))) ps (subst (Every (λ (p : ℕ × ℕ). (exponent m p.0 ≡ p.1) × (¬ (p.1 ≡ 0)))) (sym e) (entries_of powers m (λ (p : ℕ × ℕ). (exponent m p.0 ≡ p.1) × (¬ (p.1 ≡ 0))) (λ p a b. (a, b)))) k (0, 0) h

pub variable_below : (n : ℕ) (m : Monomial) (ps : List (ℕ × ℕ)) (k : ℕ) → HasVariablesBelow n m → ps ≡ m.list → k < length ps → (get_or ps k (0, 0)).0 < n
variable_below n m ps k low e h = go (λ a. low _ a)
  where
    go : (n ≤ (get_or ps k (0, 0)).0 → exponent m (get_or ps k (0, 0)).0 ≡ 0) → (get_or ps k (0, 0)).0 < n
    go f = by (power_at m ps k e h).0 (power_at m ps k e h).1 f
      where
        by : {v x y : ℕ} → x ≡ y → ¬ (y ≡ 0) → (n ≤ v → x ≡ 0) → v < n
        by {v} a b f = test (ltb v n) refl
          where
            test : (t : Bool) → ltb v n ≡ t → v < n
            test true e = ltb-true v n e
            test false e = absurd (b (sym a ∙ f (ltb-false v n e)))

number_of_independent : (S : Space) (j : ℕ) → number S (independent j) ≡ j
unfolding number
number_of_independent S j = refl

pub total_term : (S : Space) (i : ℕ) (m : Monomial) (c : ℤ) → total_derivative S i (term m c) ≡ parts (λ w. total_derivative S i (variable w)) m c m.list
total_term S i m c = derived_term (total_is_derivation S i) m c

pub total_none : (S : Space) (i : ℕ) → total_derivative S i (polynomial_of []) ≡ polynomial_of []
total_none S i = ap (total_derivative S i) polynomial_of-none ∙ derived-0ᴾ (total_is_derivation S i) ∙ sym polynomial_of-none

module _ (S : Space) (small : IsSmall S) (i : ℕ) (inside : i < S.p) where
  abbrev pub slope : ℕ → WholePolynomial
  slope w = total_derivative S i (variable w)

  -- what any variable becomes is 0 or a monomial
  pub some_slope : (w : ℕ) → (o : Option Monomial) × IsSlope o (slope w)
  some_slope w = go (coordinate S w) refl
    where
      at_number : (j : ℕ) → coordinate S w ≡ independent j → j ≡ w
      at_number j e = sym (number_of_independent S j) ∙ ap (number S) (sym e) ∙ (coordinate_is S small.some_p small.some_q w).1

      low : (j : ℕ) → coordinate S w ≡ independent j → w < S.p
      low j e = subst (λ v. v < S.p) (at_number j e) (subst (IsCoordinate S) e (coordinate_is S small.some_p small.some_q w).0)

      by : w < S.p → (b : Bool) → eqb i w ≡ b → (o : Option Monomial) × IsSlope o (slope w)
      by h true q = (Some unit, sym (slope_at_itself S small w i h (eqb-true i w q)))
      by h false q = (None, sym (slope_elsewhere S small w i h (λ r. true≢false (sym (eq-eqb i w r) ∙ q))))

      go : (c : Coordinate) → coordinate S w ≡ c → (o : Option Monomial) × IsSlope o (slope w)
      go (independent j) e = by (low j e) (eqb i w) refl
      go (jet a J) e = (Some (single (number S (jet a (raise i J)))), sym (slope_of_jet S small w i a J inside e))

  nonneg_part : (m : Monomial) (n w e : ℕ) → IsNonNegative (part slope m (pos n) w e)
  nonneg_part m n w e = go (some_slope w).0 (some_slope w).1
    where
      go : (o : Option Monomial) → IsSlope o (slope w) → IsNonNegative (part slope m (pos n) w e)
      go None q = subst (λ d. IsNonNegative (d *ᴾ term (lower w m) (pos n *ℤ pos e))) q (subst IsNonNegative (sym (0ᴾ-*ᴾ _)) nonneg_none)
      go (Some f) q = subst (λ d. IsNonNegative (d *ᴾ term (lower w m) (pos n *ℤ pos e))) q (subst IsNonNegative (sym (term_times_term f (lower w m) (pos 1) (pos n *ℤ pos e))) (nonneg_term _ _))

  pub part_covered : (m : Monomial) (n k : ℕ) (ps : List (ℕ × ℕ)) → ps ≡ m.list → k < length ps → IsCovered (part slope m (pos n) (get_or ps k (0, 0)).0 (get_or ps k (0, 0)).1) (total_derivative S i (term m (pos n)))
  part_covered m n k ps e h = subst (IsCovered (part slope m (pos n) (get_or ps k (0, 0)).0 (get_or ps k (0, 0)).1)) (ap (parts slope m (pos n)) e ∙ sym (total_term S i m (pos n))) (sum_covers (part slope m (pos n)) (nonneg_part m n) ps k (0, 0) h)

  nonneg_total : (m : Monomial) (c : ℤ) → IsNonNegative (total_derivative S i (term m (pos (unsigned_abs c))))
  nonneg_total m c = subst IsNonNegative (sym (total_term S i m (pos (unsigned_abs c)))) (sum_nonneg (part slope m (pos (unsigned_abs c))) (nonneg_part m (unsigned_abs c)) m.list)

  total_absolutes : (es : List (Monomial × ℤ)) → total_derivative S i (polynomial_of (absolutes es)) ≡ sum_of_entries polynomials (λ m c. total_derivative S i (term m (pos (unsigned_abs c)))) es
  total_absolutes [] = ap (total_derivative S i) polynomial_of-none ∙ derived-0ᴾ (total_is_derivation S i)
  total_absolutes (e ∷ es) =
      ap (total_derivative S i) (of-cons terms (e.0, pos (unsigned_abs e.1)) (absolutes es) ∙ ap (λ p. p +ᴾ polynomial_of (absolutes es)) (sym (term_is e.0 (pos (unsigned_abs e.1)))))
      ∙ (total_is_derivation S i).plus (term e.0 (pos (unsigned_abs e.1))) (polynomial_of (absolutes es)) ∙ ap (λ p. total_derivative S i (term e.0 (pos (unsigned_abs e.1))) +ᴾ p) (total_absolutes es)

  pub total_covered : (es : List (Monomial × ℤ)) (k : ℕ) (d : Monomial × ℤ) → k < length es → IsCovered (total_derivative S i (term (get_or es k d).0 (pos (unsigned_abs (get_or es k d).1)))) (total_derivative S i (polynomial_of (absolutes es)))
  total_covered es k d h = subst (IsCovered (total_derivative S i (term (get_or es k d).0 (pos (unsigned_abs (get_or es k d).1))))) (sym (total_absolutes es)) (sum_covers (λ m c. total_derivative S i (term m (pos (unsigned_abs c)))) nonneg_total es k d h)

  pub entry_covered : (P : WholePolynomial) (es : List (Monomial × ℤ)) (k : ℕ) (x : Monomial × ℤ) → es ≡ P.list → k < length es → x ≡ get_or es k x → IsCovered (total_derivative S i (term x.0 (pos (unsigned_abs x.1)))) (total_derivative S i (absolute P))
  unfolding absolute
  entry_covered P es k x e h q =
      subst (λ (y : Monomial × ℤ). IsCovered (total_derivative S i (term y.0 (pos (unsigned_abs y.1)))) (total_derivative S i (polynomial_of (absolutes P.list)))) (sym q)
      (subst (λ (xs : List (Monomial × ℤ)). IsCovered (total_derivative S i (term (get_or es k x).0 (pos (unsigned_abs (get_or es k x).1)))) (total_derivative S i (polynomial_of (absolutes xs)))) e (total_covered es k x h))

-- ---- the terms of a polynomial
pub entries_same : (xs : List (Monomial × ℤ)) → entries (λ z. z) xs ≡ xs
entries_same [] = refl
entries_same (x ∷ xs) = ap (λ ys. x ∷ ys) (entries_same xs)

pub listed_terms : (P : WholePolynomial) (xs ys : List (Monomial × ℤ)) → xs ≡ ys → entries (λ z. z) ys ≡ P.list → xs ≡ P.list
listed_terms P xs ys e h = e ∙ sym (entries_same ys) ∙ h

pub listed_sum : (P : WholePolynomial) (xs : List (Monomial × ℤ)) → xs ≡ P.list → sum_listed xs ≡ P
listed_sum P xs e = ap polynomial_of (entries_same xs ∙ e) ∙ of_list terms P

pub listed_bulk : (P : WholePolynomial) (xs : List (Monomial × ℤ)) → xs ≡ P.list → bulk_listed xs ≡ absolute P
unfolding absolute
listed_bulk P xs e = ap (λ es. polynomial_of (absolutes es)) (entries_same xs ∙ e)

abbrev Fine : ℕ → Monomial × ℤ → Type 0
Fine n x = HasVariablesBelow n x.0 × (¬ (x.1 ≡ pos 0))

pub term_fine : (n : ℕ) (P : WholePolynomial) (es : List (Monomial × ℤ)) (k : ℕ) (x : Monomial × ℤ) → IsIn (is_below n) P → es ≡ P.list → k < length es → x ≡ get_or es k x → HasVariablesBelow n x.0 × (¬ (x.1 ≡ pos 0))
term_fine n P es k x low e h q = subst (Fine n) (sym q) (All-from_recursion (Fine n) es (subst (Every (Fine n)) (sym e) (entries_of terms P (Fine n) (λ y a b. (λ v g. low v (le-ltb v n g) y.0 (λ z. b (sym a ∙ z)), b)))) k x h)

-- ---- one term more
pub total_more : (S : Space) (i : ℕ) (xs : List (Monomial × ℤ)) (k : ℕ) (x : Monomial × ℤ) → k < length xs → x ≡ get_or xs k x → total_derivative S i (sum_listed (take (k + 1) xs)) ≡ total_derivative S i (sum_listed (take k xs)) +ᴾ total_derivative S i (term x.0 x.1)
total_more S i xs k x h e = ap (total_derivative S i) (sum_one (take k xs) (take (k + 1) xs) x.0 x.1 (take_more xs k x h ∙ ap (λ (y : Monomial × ℤ). take k xs ++ y ∷ []) (sym e))) ∙ (total_is_derivation S i).plus (sum_listed (take k xs)) (term x.0 x.1)

pub total_more_bulk : (S : Space) (i : ℕ) (xs : List (Monomial × ℤ)) (k : ℕ) (x : Monomial × ℤ) → k < length xs → x ≡ get_or xs k x → total_derivative S i (bulk_listed (take (k + 1) xs)) ≡ total_derivative S i (bulk_listed (take k xs)) +ᴾ total_derivative S i (term x.0 (pos (unsigned_abs x.1)))
total_more_bulk S i xs k x h e = ap (total_derivative S i) (bulk_one (take k xs) (take (k + 1) xs) x.0 x.1 (take_more xs k x h ∙ ap (λ (y : Monomial × ℤ). take k xs ++ y ∷ []) (sym e))) ∙ (total_is_derivation S i).plus (bulk_listed (take k xs)) (term x.0 (pos (unsigned_abs x.1)))

pub if_ok : {V E : Type 0} {A B : V → Type 0} (r : Result V E) → ((v : V) → A v → B v) → IfOk r A → IfOk r B
if_ok (Ok v) f h = f v h
if_ok (Err e) f h = tt

-- a product of powers of variables of S is a polynomial in them
pub product_in : (S : ℕ → Bool) (m : Monomial) (ps : List (ℕ × ℕ)) (p : WholePolynomial) → pairs_in S ps ≡ true → m.list ≡ ps → p ≡ polynomial_of ((m, pos 1) ∷ []) → IsIn S p
product_in S m ps p h l e =
    let inside : T (pairs_in S m.list && true) = subst (λ b. T (b && true)) (sym (ap (pairs_in S) l ∙ h)) tt in
    subst (IsIn S) (sym e) (kept_in S _ (kept-terms S (polynomial_of ((m, pos 1) ∷ [])) (subst (λ (es : List (Monomial × ℤ)). T (terms_in S es)) (sym (list-of terms ((m, pos 1) ∷ []) tt)) inside)))
