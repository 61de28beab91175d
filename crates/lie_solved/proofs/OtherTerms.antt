-- The terms without a variable: what they sum to, that they stand within the limits, and the two sides that they make.
use Rattle.std.specs.Prelude.{◌≡◌, ℕ, zero, suc, ◌+◌, ◌<◌, ◌≤◌, ◌^◌, ◌⊎◌, Bool, true, false, cond, not, eqb, T, List, [], ◌∷◌, ◌++◌, length, take, get_or, ℤ, pos, negsuc, ◌+ℤ◌, ◌*ℤ◌, neg_ℤ, unsigned_abs}
use Rattle.std.proofs.Common.{refl, sym, ap, ap₂, subst, ◌∙◌, arith, add-one, inl, inr, is_lt, true≢false, eqb→eq}
use borrow.Author.Differences.{ints}
use Rattle.std.proofs.Math.Seq.{take-suc}
use Rattle.std.specs.List.{AllByRecursion as Every}
use Rattle.std.specs.Ordering.{eq_by_cmp}
use Rattle.lie_math.proofs.Integer.{zero_or_not}
use Rattle.lie_math.specs.SortedSum.{value_at, below_all}
use Rattle.lie_math.specs.Canonical.{both, first, second}
use Rattle.lie_math.specs.Integer.{coefficients, is_zero_int}
use Rattle.lie_math.specs.FiniteSumLaws as finite_laws
use Rattle.lie_math.specs.FiniteSumLaws.{value-of, value-plus, value-term}
use Rattle.lie_math.specs.Monomial.{Monomial, monomial_cmp, exponent, single}
use Rattle.lie_math.specs.Polynomial.{WholePolynomial, terms, coefficient, polynomial_of, constant, variable, ◌+ᴾ◌, ◌*ᴾ◌, negᴾ}
use Rattle.lie_math.specs.Variables.{FreeOf}
use Rattle.lie_math.specs.Limits.{FitsNumber, HasLowExponents, IsWithinLimits, absolutes}
use Rattle.lie_poly.specs.Bulk.{AreWithin}
use Rattle.lie_math.proofs.FiniteSum.{key, entries_of}
use Rattle.lie_math.proofs.Limits.{by_test, canonical_absolutes, length-absolutes}
use Rattle.lie_poly.proofs.BulkLists.{limits_of}
use Rattle.lie_math.specs.FiniteSum.{IsCanonical}
use Rattle.lie_math.proofs.CanonicalLists.{canonical_value, canonical_below, canonical_tail, canonical_cons}
use Rattle.lie_math.proofs.Monomial.{same_monomial}
use Rattle.lie_math.proofs.Weighing.{coefficient-constant_times}
use Rattle.lie_geometry.specs.SolvedEquations.{SolvedEquation, difference}
use Rattle.lie_solved.specs.Equations.{turned, rest_of, IsLinearWith}
use Rattle.lie_solved.proofs.LinearTerms.{exponent_single}

-- ---- one more term
rest_of-append : (w : ℕ) (b : Bool) (ts us : List (Monomial × ℤ)) → rest_of w b (ts ++ us) ≡ rest_of w b ts ++ rest_of w b us
rest_of-append w b [] us = refl
rest_of-append w b (t ∷ ts) us = go (eqb (exponent t.0 w) 0) (rest_of-append w b ts us)
  where
    go : (f : Bool) → rest_of w b (ts ++ us) ≡ rest_of w b ts ++ rest_of w b us → cond f ((t.0, turned b t.1) ∷ rest_of w b (ts ++ us)) (rest_of w b (ts ++ us)) ≡ cond f ((t.0, turned b t.1) ∷ rest_of w b ts) (rest_of w b ts) ++ rest_of w b us
    go true e = ap (λ es. (t.0, turned b t.1) ∷ es) e
    go false e = e

pub rest_of_more : (w : ℕ) (b : Bool) (ts : List (Monomial × ℤ)) (i : ℕ) (t : Monomial × ℤ) → i < length ts → t ≡ get_or ts i t → rest_of w b (take (i + 1) ts) ≡ rest_of w b (take i ts) ++ rest_of w b (t ∷ [])
rest_of_more w b ts i t lt is =
    ap (λ n. rest_of w b (take n ts)) (add-one i) ∙ ap (rest_of w b) (take-suc ts i t lt) ∙ ap (λ u. rest_of w b (take i ts ++ u ∷ [])) (sym is)
    ∙ rest_of-append w b (take i ts) (t ∷ [])

-- ---- values
turned_sum : (b : Bool) (x y : ℤ) → turned b (x +ℤ y) ≡ turned b x +ℤ turned b y
turned_sum true x y = omega (arith, ints)
turned_sum false x y = refl

turned_none : (b : Bool) → turned b (pos 0) ≡ pos 0
turned_none true = refl
turned_none false = refl

turned_size : (b : Bool) (z : ℤ) → unsigned_abs (turned b z) ≡ unsigned_abs z
turned_size true z = omega (arith, ints)
turned_size false z = refl

at : Monomial → List (Monomial × ℤ) → ℤ
at m es = value_at monomial_cmp coefficients m es

value-rest_of : (w : ℕ) (b : Bool) (m : Monomial) (es : List (Monomial × ℤ)) → value_at monomial_cmp coefficients m (rest_of w b es) ≡ cond (eqb (exponent m w) 0) (turned b (value_at monomial_cmp coefficients m es)) (pos 0)
value-rest_of w b m [] = elim (eqb (exponent m w) 0) as (λ f. pos 0 ≡ cond f (turned b (pos 0)) (pos 0)) [ true ↦ sym (turned_none b) | false ↦ refl ]
value-rest_of w b m (e ∷ es) = go (eq_by_cmp monomial_cmp m e.0) (eqb (exponent e.0 w) 0) (eqb (exponent m w) 0) refl refl refl (value-rest_of w b m es)
  where
    X : ℤ
    X = value_at monomial_cmp coefficients m es

    go : (t f g : Bool) → eq_by_cmp monomial_cmp m e.0 ≡ t → eqb (exponent e.0 w) 0 ≡ f → eqb (exponent m w) 0 ≡ g → value_at monomial_cmp coefficients m (rest_of w b es) ≡ cond (eqb (exponent m w) 0) (turned b X) (pos 0)
        → value_at monomial_cmp coefficients m (cond f ((e.0, turned b e.1) ∷ rest_of w b es) (rest_of w b es)) ≡ cond g (turned b (cond t e.1 (pos 0) +ℤ X)) (pos 0)
    go t true true p q r ih = ap₂ (λ s x. cond s (turned b e.1) (pos 0) +ℤ x) p (ih ∙ ap (λ s. cond s (turned b X) (pos 0)) r) ∙ one t
      where
        one : (t : Bool) → cond t (turned b e.1) (pos 0) +ℤ turned b X ≡ turned b (cond t e.1 (pos 0) +ℤ X)
        one true = sym (turned_sum b e.1 X)
        one false = lib.IntN.+ℤ_idl (turned b X) ∙ ap (turned b) (sym (lib.IntN.+ℤ_idl X))
    go true true false p q r ih = absurd (true≢false (sym q ∙ ap (λ n. eqb (exponent n w) 0) (sym (key terms m e.0 p)) ∙ r))
    go false true false p q r ih = ap₂ (λ s x. cond s (turned b e.1) (pos 0) +ℤ x) p (ih ∙ ap (λ s. cond s (turned b X) (pos 0)) r)
    go true false true p q r ih = absurd (true≢false (sym r ∙ ap (λ n. eqb (exponent n w) 0) (key terms m e.0 p) ∙ q))
    go false false true p q r ih = ih ∙ ap (λ s. cond s (turned b X) (pos 0)) r ∙ ap (turned b) (sym (lib.IntN.+ℤ_idl X))
    go t false false p q r ih = ih ∙ ap (λ s. cond s (turned b X) (pos 0)) r

coefficient-rest_of : (w : ℕ) (b : Bool) (P : WholePolynomial) (m : Monomial) → coefficient (polynomial_of (rest_of w b P.list)) m ≡ cond (eqb (exponent m w) 0) (turned b (coefficient P m)) (pos 0)
coefficient-rest_of w b P m = value-of terms (rest_of w b P.list) m ∙ value-rest_of w b m P.list

-- ---- limits
below_rest : (w : ℕ) (b : Bool) (m : Monomial) (es : List (Monomial × ℤ)) → T (below_all monomial_cmp coefficients m es) → T (below_all monomial_cmp coefficients m (rest_of w b es))
below_rest w b m [] h = tt
below_rest w b m (e ∷ es) h = go (eqb (exponent e.0 w) 0) (below_rest w b m es (second (is_lt (monomial_cmp m e.0)) (below_all monomial_cmp coefficients m es) h))
  where
    go : (f : Bool) → T (below_all monomial_cmp coefficients m (rest_of w b es)) → T (below_all monomial_cmp coefficients m (cond f ((e.0, turned b e.1) ∷ rest_of w b es) (rest_of w b es)))
    go true r = both (is_lt (monomial_cmp m e.0)) _ (first (is_lt (monomial_cmp m e.0)) (below_all monomial_cmp coefficients m es) h) r
    go false r = r

not_zero : (b : Bool) (z : ℤ) → T (not (is_zero_int z)) → T (not (is_zero_int (turned b z)))
not_zero true (pos zero) h = absurd h
not_zero true (pos (suc n)) h = tt
not_zero true (negsuc n) h = by_test (eqb (suc n) 0) (λ e. let k : suc n ≡ 0 = eqb→eq (suc n) 0 (subst T (sym e) tt) in omega arith)
not_zero false z h = h

canonical_rest : (w : ℕ) (b : Bool) (es : List (Monomial × ℤ)) → IsCanonical terms es → IsCanonical terms (rest_of w b es)
canonical_rest w b [] h = tt
canonical_rest w b (e ∷ es) h = go (eqb (exponent e.0 w) 0) (canonical_rest w b es (canonical_tail terms e es h))
  where
    go : (f : Bool) → IsCanonical terms (rest_of w b es) → IsCanonical terms (cond f ((e.0, turned b e.1) ∷ rest_of w b es) (rest_of w b es))
    go true r = canonical_cons terms (e.0, turned b e.1) (rest_of w b es) (not_zero b e.1 (canonical_value terms e es h)) (below_rest w b e.0 es (canonical_below terms e es h)) r
    go false r = r

within_rest : (w : ℕ) (b : Bool) (es : List (Monomial × ℤ)) → Every (λ (e : Monomial × ℤ). FitsNumber e.1 × HasLowExponents e.0) es → AreWithin (absolutes (rest_of w b es))
within_rest w b [] h = tt
within_rest w b (e ∷ es) h = go (eqb (exponent e.0 w) 0) (within_rest w b es h.1)
  where
    fits : FitsNumber (pos (unsigned_abs (turned b e.1)))
    fits = subst (λ n. n < 2 ^ 127) (sym (turned_size b e.1)) h.0.0

    go : (f : Bool) → AreWithin (absolutes (rest_of w b es)) → AreWithin (absolutes (cond f ((e.0, turned b e.1) ∷ rest_of w b es) (rest_of w b es)))
    go true r = (fits, h.0.1, r)
    go false r = r

length_rest : (w : ℕ) (b : Bool) (es : List (Monomial × ℤ)) → length (rest_of w b es) ≤ length es
length_rest w b [] = omega arith
length_rest w b (e ∷ es) = go (eqb (exponent e.0 w) 0) (length_rest w b es)
  where
    go : (f : Bool) → length (rest_of w b es) ≤ length es → length (cond f ((e.0, turned b e.1) ∷ rest_of w b es) (rest_of w b es)) ≤ suc (length es)
    go true le = omega arith
    go false le = omega arith

pub rest_within : (w : ℕ) (b : Bool) (P : WholePolynomial) → IsWithinLimits P → IsWithinLimits (polynomial_of (absolutes (rest_of w b P.list)))
rest_within w b P h =
    limits_of (absolutes (rest_of w b P.list)) (canonical_absolutes (rest_of w b P.list) (canonical_rest w b P.list P.canonical))
    (within_rest w b P.list (entries_of terms P (λ e. FitsNumber e.1 × HasLowExponents e.0) (λ e is apart. (subst FitsNumber is (h.coefficients e.0), h.exponents e.0 (λ z. apart (sym is ∙ z))))))
    (let l = length-absolutes (rest_of w b P.list) in let m = length_rest w b P.list in let n = h.terms in omega arith)

-- ---- the two sides
pub free_rest : (w : ℕ) (b : Bool) (P : WholePolynomial) → FreeOf w (polynomial_of (rest_of w b P.list))
free_rest w b P m n = go (eqb (exponent m w) 0) refl
  where
    go : (f : Bool) → eqb (exponent m w) 0 ≡ f → exponent m w ≡ 0
    go true e = eqb→eq (exponent m w) 0 (subst T (sym e) tt)
    go false e = absurd (n (coefficient-rest_of w b P m ∙ ap (λ f. cond f (turned b (coefficient P m)) (pos 0)) e))

-- the coefficient of c times the variable minus the rest
module _ (w : ℕ) (P : WholePolynomial) (c : ℤ) (h : IsLinearWith w P c) where
  -- what is left of the coefficient at m, by whether m is the variable and whether it has it
  elsewhere : (m : Monomial) → ¬ (exponent m w ≡ 0) → ¬ (m ≡ single w) → coefficient P m ≡ pos 0
  elsewhere m n s = go (zero_or_not (coefficient P m))
    where
      go : ((coefficient P m ≡ pos 0) ⊎ ¬ (coefficient P m ≡ pos 0)) → coefficient P m ≡ pos 0
      go (inl e) = e
      go (inr o) = absurd (s (h.linear.alone m o n))

  side : (d : ℤ) (b : Bool) → d ≡ turned (not b) c → (m : Monomial) → coefficient (constant d *ᴾ variable w +ᴾ negᴾ (polynomial_of (rest_of w b P.list))) m ≡ turned (not b) (coefficient P m)
  side d b e m =
      value-plus terms (constant d *ᴾ variable w) (negᴾ (polynomial_of (rest_of w b P.list))) m
      ∙ ap₂ ◌+ℤ◌ (coefficient-constant_times d (variable w) m ∙ ap (λ z. d *ℤ z) (value-term terms (single w) (pos 1) m)) (coefficient-constant_times (negsuc 0) (polynomial_of (rest_of w b P.list)) m ∙ ap (λ z. negsuc 0 *ℤ z) (coefficient-rest_of w b P m))
      ∙ go (eq_by_cmp monomial_cmp m (single w)) (eqb (exponent m w) 0) refl refl
    where
      here : (b : Bool) (d x : ℤ) → d ≡ turned (not b) x → d *ℤ pos 1 +ℤ negsuc 0 *ℤ pos 0 ≡ turned (not b) x
      here true d x e = omega (arith, ints)
      here false d x e = omega (arith, ints)

      other : (b : Bool) (d x : ℤ) → d *ℤ pos 0 +ℤ negsuc 0 *ℤ turned b x ≡ turned (not b) x
      other true d x = omega (arith, ints)
      other false d x = omega (arith, ints)

      nothing : (b : Bool) (d x : ℤ) → x ≡ pos 0 → d *ℤ pos 0 +ℤ negsuc 0 *ℤ pos 0 ≡ turned (not b) x
      nothing true d x e = omega (arith, ints)
      nothing false d x e = omega (arith, ints)

      go : (t f : Bool) → eq_by_cmp monomial_cmp m (single w) ≡ t → eqb (exponent m w) 0 ≡ f → d *ℤ cond t (pos 1) (pos 0) +ℤ negsuc 0 *ℤ cond f (turned b (coefficient P m)) (pos 0) ≡ turned (not b) (coefficient P m)
      go true true p q = let z : exponent m w ≡ 0 = eqb→eq (exponent m w) 0 (subst T (sym q) tt) in let o = ap (λ n. exponent n w) (key terms m (single w) p) ∙ exponent_single w in absurd (omega arith)
      go true false p q = here b d (coefficient P m) (e ∙ ap (turned (not b)) (sym (ap (coefficient P) (key terms m (single w) p) ∙ h.coefficient)))
      go false true p q = other b d (coefficient P m)
      go false false p q = nothing b d (coefficient P m) (elsewhere m (λ z. true≢false (sym (ap (λ n. eqb n 0) z) ∙ q)) (λ s. true≢false (sym (ap (λ n. eq_by_cmp monomial_cmp n (single w)) s ∙ same) ∙ p)))
        where
          same : eq_by_cmp monomial_cmp (single w) (single w) ≡ true
          same = same_monomial (single w)

  -- the difference of the sides, for the factor |c|
  pub sides : (b : Bool) (r : SolvedEquation) → r.lead ≡ w → r.factor ≡ turned (not b) c → r.right ≡ polynomial_of (rest_of w b P.list) → (difference r ≡ P) ⊎ (difference r ≡ negᴾ P)
  sides b r l f e = go b f e
    where
      shown : (b : Bool) → r.right ≡ polynomial_of (rest_of w b P.list) → difference r ≡ constant r.factor *ᴾ variable w +ᴾ negᴾ (polynomial_of (rest_of w b P.list))
      shown b e = ap₂ (λ v q. constant r.factor *ᴾ variable v +ᴾ negᴾ q) l e

      minus : (x : ℤ) → neg_ℤ x ≡ negsuc 0 *ℤ x
      minus x = omega (arith, ints)

      go : (b : Bool) → r.factor ≡ turned (not b) c → r.right ≡ polynomial_of (rest_of w b P.list) → (difference r ≡ P) ⊎ (difference r ≡ negᴾ P)
      go true f e = inl (shown true e ∙ finite_laws.ext terms _ P (side r.factor true f))
      go false f e = inr (shown false e ∙ finite_laws.ext terms _ (negᴾ P) (λ m. side r.factor false f m ∙ minus (coefficient P m) ∙ sym (coefficient-constant_times (negsuc 0) P m)))
