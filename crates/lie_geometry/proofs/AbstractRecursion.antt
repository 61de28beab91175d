-- The recursion of the prolonged coefficients, and that the order of the indices does not matter. A list of counts is read as its descending word: the last variable first.
use Rattle.std.specs.Prelude.{◌≡◌, ℕ, ◌<◌, ◌≤◌, Bool, true, false, cond, List, [], ◌∷◌, ltb}
use Rattle.std.proofs.Common.{refl, sym, ap, ap₂, ◌∙◌, arith, ltb-true, ltb-false, lt-ltb, le-ltb}
use mathlib.Core.Path.{fun_ext}
use Rattle.lie_math.specs.Derivation.{sum_of}
use Rattle.lie_math.specs.Polynomial.{WholePolynomial, ◌+ᴾ◌, ◌*ᴾ◌, negᴾ}
use Rattle.lie_math.specs.PolynomialRing.{polynomial_ring}
use Rattle.lie_math.proofs.RingSolver.{v, ◌⊕◌, ⊖, solve, listed}
use Rattle.lie_math.proofs.SumOf.{sum_of-plus, sum_of-derived}
use Rattle.lie_geometry.proofs.AbstractProlongation.{minus_derived, total, total_is, totals_commute_abstract}

abbrev pub inserted : ℕ → List ℕ → List ℕ
inserted k [] = k ∷ []
inserted k (l ∷ J) = cond (ltb k l) (l ∷ inserted k J) (k ∷ l ∷ J)

abbrev pub Descends : List ℕ → Type 0
Descends [] = Unit {0}
Descends (k ∷ []) = Unit {0}
Descends (k ∷ l ∷ J) = (l ≤ k) × Descends (l ∷ J)

inserted-lt : (k l : ℕ) (J : List ℕ) → k < l → inserted k (l ∷ J) ≡ l ∷ inserted k J
inserted-lt k l J h = ap (λ t. cond t (l ∷ inserted k J) (k ∷ l ∷ J)) (lt-ltb k l h)

inserted-ge : (k l : ℕ) (J : List ℕ) → l ≤ k → inserted k (l ∷ J) ≡ k ∷ l ∷ J
inserted-ge k l J h = ap (λ t. cond t (l ∷ inserted k J) (k ∷ l ∷ J)) (le-ltb k l h)

two : (i k : ℕ) (J : List ℕ) (t : Bool) → ltb i k ≡ t → (L : List ℕ) → inserted i L ≡ i ∷ L → inserted k L ≡ k ∷ L → inserted i (k ∷ L) ≡ inserted k (i ∷ L)
two i k J true e L p q = inserted-lt i k L (ltb-true i k e) ∙ ap (λ z. k ∷ z) p ∙ sym (inserted-ge k i L (weaken (ltb-true i k e)))
  where
    weaken : {a b : ℕ} → a < b → a ≤ b
    weaken h = omega arith
two i k J false e L p q = inserted-ge i k L (ltb-false i k e) ∙ other (ltb k i) refl
  where
    other : (t : Bool) → ltb k i ≡ t → i ∷ k ∷ L ≡ inserted k (i ∷ L)
    other true f = ap (λ z. i ∷ z) (sym q) ∙ sym (inserted-lt k i L (ltb-true k i f))
    other false f = same ∙ sym (inserted-ge k i L (ltb-false k i f))
      where
        equal : (a b : ℕ) → a ≤ b → b ≤ a → a ≡ b
        equal a b h g = omega arith

        same : i ∷ k ∷ L ≡ k ∷ i ∷ L
        same = ap₂ (λ a b. a ∷ b ∷ L) (equal i k (ltb-false k i f) (ltb-false i k e)) (equal k i (ltb-false i k e) (ltb-false k i f))

pub inserted_comm : (i k : ℕ) (J : List ℕ) → inserted i (inserted k J) ≡ inserted k (inserted i J)
inserted_comm i k [] = two i k [] (ltb i k) refl [] refl refl
inserted_comm i k (l ∷ J) = go (ltb i l) (ltb k l) refl refl (inserted_comm i k J)
  where
    is_below : (a b c : ℕ) → a < b → b ≤ c → a < c
    is_below a b c h g = omega arith

    go : (s t : Bool) → ltb i l ≡ s → ltb k l ≡ t → inserted i (inserted k J) ≡ inserted k (inserted i J) → inserted i (inserted k (l ∷ J)) ≡ inserted k (inserted i (l ∷ J))
    go true true p q h =
        ap (inserted i) (inserted-lt k l J (ltb-true k l q)) ∙ inserted-lt i l (inserted k J) (ltb-true i l p) ∙ ap (λ z. l ∷ z) h ∙ sym (ap (inserted k) (inserted-lt i l J (ltb-true i l p)) ∙ inserted-lt k l (inserted i J) (ltb-true k l q))
    go true false p q h =
        ap (inserted i) (inserted-ge k l J (ltb-false k l q)) ∙ inserted-lt i k (l ∷ J) (is_below i l k (ltb-true i l p) (ltb-false k l q)) ∙ ap (λ z. k ∷ z) (inserted-lt i l J (ltb-true i l p))
        ∙ sym (ap (inserted k) (inserted-lt i l J (ltb-true i l p)) ∙ inserted-ge k l (inserted i J) (ltb-false k l q))
    go false true p q h =
        ap (inserted i) (inserted-lt k l J (ltb-true k l q)) ∙ inserted-ge i l (inserted k J) (ltb-false i l p)
        ∙ sym (ap (inserted k) (inserted-ge i l J (ltb-false i l p)) ∙ inserted-lt k i (l ∷ J) (is_below k l i (ltb-true k l q) (ltb-false i l p)) ∙ ap (λ z. i ∷ z) (inserted-lt k l J (ltb-true k l q)))
    go false false p q h =
        ap (inserted i) (inserted-ge k l J (ltb-false k l q)) ∙ two i k [] (ltb i k) refl (l ∷ J) (inserted-ge i l J (ltb-false i l p)) (inserted-ge k l J (ltb-false k l q)) ∙ sym (ap (inserted k) (inserted-ge i l J (ltb-false i l p)))

module _ (next : ℕ → ℕ → WholePolynomial) (swap : (i j w : ℕ) → total next i (next j w) ≡ total next j (next i w)) (is : List ℕ) (x : ℕ → WholePolynomial) (u : List ℕ → WholePolynomial) (raise : (k : ℕ) (J : List ℕ) → total next k (u J) ≡ u (inserted k J)) (start : WholePolynomial) where
  -- the prolonged coefficients of one dependent variable
  abbrev pub abstract_coefficient : List ℕ → WholePolynomial
  abstract_coefficient [] = start
  abstract_coefficient (k ∷ J) = total next k (abstract_coefficient J) +ᴾ negᴾ (sum_of is (λ i. total next k (x i) *ᴾ u (inserted i J)))

  -- a derivative of a step
  stepped : (l k : ℕ) (J : List ℕ) → total next l (total next k (abstract_coefficient J) +ᴾ negᴾ (sum_of is (λ i. total next k (x i) *ᴾ u (inserted i J))))
      ≡ total next l (total next k (abstract_coefficient J)) +ᴾ negᴾ (sum_of is (λ i. total next k (x i) *ᴾ u (inserted l (inserted i J))) +ᴾ sum_of is (λ i. total next l (total next k (x i)) *ᴾ u (inserted i J)))
  stepped l k J =
      minus_derived (total_is next l) (total next k (abstract_coefficient J)) (sum_of is (λ i. total next k (x i) *ᴾ u (inserted i J)))
      ∙ ap (λ z. total next l (total next k (abstract_coefficient J)) +ᴾ negᴾ z) (
      sum_of-derived (total_is next l) is (λ i. total next k (x i) *ᴾ u (inserted i J))
      ∙ ap (sum_of is) (fun_ext (λ i. (total_is next l).times (total next k (x i)) (u (inserted i J)) ∙ ap (λ z. total next k (x i) *ᴾ z +ᴾ total next l (total next k (x i)) *ᴾ u (inserted i J)) (raise l (inserted i J))))
      ∙ sum_of-plus is (λ i. total next k (x i) *ᴾ u (inserted l (inserted i J))) (λ i. total next l (total next k (x i)) *ᴾ u (inserted i J)))

  shuffled : (a b c d : WholePolynomial) → (a +ᴾ negᴾ (b +ᴾ c)) +ᴾ negᴾ d ≡ (a +ᴾ negᴾ (d +ᴾ c)) +ᴾ negᴾ b
  shuffled a b c d = solve polynomial_ring (listed a (a ∷ b ∷ c ∷ d ∷ [])) ((v 0 ⊕ ⊖ (v 1 ⊕ v 2)) ⊕ ⊖ (v 3)) ((v 0 ⊕ ⊖ (v 3 ⊕ v 2)) ⊕ ⊖ (v 1)) refl

  head_in : (l : ℕ) (J : List ℕ) → Descends (l ∷ J) → l ∷ J ≡ inserted l J
  head_in l [] h = refl
  head_in l (m ∷ J) h = sym (inserted-ge l m J h.0)

  rest_of : (l : ℕ) (J : List ℕ) → Descends (l ∷ J) → Descends J
  rest_of l [] h = tt
  rest_of l (m ∷ J) h = h.1

  -- the recursion holds for each index, not the last variable alone
  pub coefficient_step : (k : ℕ) (J : List ℕ) → Descends J → abstract_coefficient (inserted k J) ≡ total next k (abstract_coefficient J) +ᴾ negᴾ (sum_of is (λ i. total next k (x i) *ᴾ u (inserted i J)))
  coefficient_step k [] h = refl
  coefficient_step k (l ∷ J) h = go (ltb k l) refl (coefficient_step k J (rest_of l J h))
    where
      go : (t : Bool) → ltb k l ≡ t → abstract_coefficient (inserted k J) ≡ total next k (abstract_coefficient J) +ᴾ negᴾ (sum_of is (λ i. total next k (x i) *ᴾ u (inserted i J))) → abstract_coefficient (inserted k (l ∷ J)) ≡ total next k (abstract_coefficient (l ∷ J)) +ᴾ negᴾ (sum_of is (λ i. total next k (x i) *ᴾ u (inserted i (l ∷ J))))
      go false e ih = ap abstract_coefficient (inserted-ge k l J (ltb-false k l e))
      go true e ih =
          ap abstract_coefficient (inserted-lt k l J (ltb-true k l e))
          ∙ ap (λ z. total next l z +ᴾ negᴾ (sum_of is (λ i. total next l (x i) *ᴾ u (inserted i (inserted k J))))) ih
          ∙ ap (λ z. z +ᴾ negᴾ (sum_of is (λ i. total next l (x i) *ᴾ u (inserted i (inserted k J))))) (stepped l k J)
          ∙ shuffled _ _ _ _
          ∙ ap₂ (λ a b. a +ᴾ negᴾ b)
          (ap₂ (λ a b. a +ᴾ negᴾ b) (totals_commute_abstract next swap l k (abstract_coefficient J))
          (ap₂ ◌+ᴾ◌ (ap (sum_of is) (fun_ext (λ i. ap (λ w. total next l (x i) *ᴾ u w) (inserted_comm i k J)))) (ap (sum_of is) (fun_ext (λ i. ap (λ z. z *ᴾ u (inserted i J)) (totals_commute_abstract next swap l k (x i))))))
          ∙ sym (stepped k l J))
          (ap (sum_of is) (fun_ext (λ i. ap (λ w. total next k (x i) *ᴾ u w) (inserted_comm l i J ∙ ap (inserted i) (sym (head_in l J h))))))
