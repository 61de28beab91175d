-- Total derivatives and prolonged fields, over any coordinates: `next i w` is the total derivative of the coordinate w by the i-th independent variable.
use Rattle.std.specs.Prelude.{◌≡◌, ℕ, List, [], ◌∷◌}
use Rattle.std.proofs.Common.{refl, sym, ap, ap₂, ◌∙◌}
use mathlib.Core.Path.{fun_ext}
use Rattle.lie_math.proofs.Differences.{negative_twice, less_difference}
use Rattle.lie_math.specs.Derivation.{sum_of, derivation, IsDerivation, bracket}
use Rattle.lie_math.specs.FiniteSumLaws.{plus_idl, plus_comm}
use Rattle.lie_math.specs.Polynomial.{terms, WholePolynomial, 0ᴾ, ◌+ᴾ◌, ◌*ᴾ◌, variable, negᴾ}
use Rattle.lie_math.specs.PolynomialRing.{+ᴾ-*ᴾ, *ᴾ-dist, *ᴾ_assoc, polynomial_ring}
use Rattle.lie_math.proofs.ChainRule.{derivation_is_derivation, derivation-variable}
use Rattle.lie_math.proofs.Derivation.{derivations_agree, bracket_is_derivation, derivations_commute}
use Rattle.lie_math.proofs.Ring.{plus_idr, nil_times}
use Rattle.lie_math.proofs.RingSolver.{v, ◌⊕◌, ◌⊗◌, ⊖, solve, listed}
use Rattle.lie_math.proofs.SumOf.{sum_of-plus, sum_of-times, times-sum_of, sum_of-swap, sum_of-derived, multiples_is_derivation}

-- a derivation of a difference
pub minus_derived : {D : WholePolynomial → WholePolynomial} → IsDerivation D → (a b : WholePolynomial) → D (a +ᴾ negᴾ b) ≡ D a +ᴾ negᴾ (D b)
minus_derived {D} d a b = d.plus a (negᴾ b) ∙ ap (λ z. D a +ᴾ z) (d.times _ b ∙ ap (λ z. negᴾ (D b) +ᴾ z *ᴾ b) (d.whole _) ∙ ap (λ z. negᴾ (D b) +ᴾ z) (nil_times polynomial_ring b) ∙ plus_idr polynomial_ring (negᴾ (D b)))

module _ (next : ℕ → ℕ → WholePolynomial) where
  abbrev pub total : ℕ → WholePolynomial → WholePolynomial
  total i = derivation (next i)

  pub total_is : (i : ℕ) → IsDerivation (total i)
  total_is i = derivation_is_derivation (next i)

  -- total derivatives commute, where they do on the coordinates
  pub totals_commute_abstract : ((i j w : ℕ) → total i (next j w) ≡ total j (next i w)) → (i j : ℕ) (p : WholePolynomial) → total i (total j p) ≡ total j (total i p)
  totals_commute_abstract swap i j = derivations_commute (total_is i) (total_is j) (λ w. ap (total i) (derivation-variable (next j) w) ∙ swap i j w ∙ ap (total j) (sym (derivation-variable (next i) w)))

  -- `c w` is the prolonged coefficient at the coordinate w, and `x i` the component at the i-th independent variable: the recursion of the prolongation
  pub record IsProlonged (is : List ℕ) (x : ℕ → WholePolynomial) (c : ℕ → WholePolynomial) : Type 0 where
    pub step : (k w : ℕ) → derivation c (next k w) +ᴾ sum_of is (λ i. total k (x i) *ᴾ next i w) ≡ total k (c w)

  module _ (is : List ℕ) (x c : ℕ → WholePolynomial) (h : IsProlonged is x c) where
    -- the prolonged field and a total derivative
    pub crossed : (k : ℕ) (p : WholePolynomial) → derivation c (total k p) +ᴾ sum_of is (λ i. total k (x i) *ᴾ total i p) ≡ total k (derivation c p)
    crossed k p =
        ap (λ z. derivation c (total k p) +ᴾ z) (sym (negative_twice _)) ∙ ap (λ z. derivation c (total k p) +ᴾ negᴾ z) (sym same) ∙ less_difference (derivation c (total k p)) (total k (derivation c p))
      where
        from : (a b s : WholePolynomial) → a +ᴾ s ≡ b → a +ᴾ negᴾ b ≡ negᴾ s
        from a b s e = ap (λ z. a +ᴾ negᴾ z) (sym e) ∙ solve polynomial_ring (listed a (a ∷ s ∷ [])) (v 0 ⊕ ⊖ (v 0 ⊕ v 1)) (⊖ (v 1)) refl

        negs : (b s : WholePolynomial) → negᴾ b *ᴾ s ≡ negᴾ (b *ᴾ s)
        negs b s = solve polynomial_ring (listed b (b ∷ s ∷ [])) (⊖ (v 0) ⊗ v 1) (⊖ (v 0 ⊗ v 1)) refl

        neg_over : (is : List ℕ) (f : ℕ → WholePolynomial) → sum_of is (λ i. negᴾ (f i)) ≡ negᴾ (sum_of is f)
        neg_over [] f = sym (sym (plus_idl terms _) ∙ plus_comm terms 0ᴾ (negᴾ 0ᴾ) ∙ polynomial_ring.neg_l 0ᴾ)
        neg_over (i ∷ is) f = ap (λ z. negᴾ (f i) +ᴾ z) (neg_over is f) ∙ solve polynomial_ring (listed (f i) (f i ∷ sum_of is f ∷ [])) (⊖ (v 0) ⊕ ⊖ (v 1)) (⊖ (v 0 ⊕ v 1)) refl

        at_var : (w : ℕ) → bracket (derivation c) (total k) (variable w) ≡ sum_of is (λ i. negᴾ (total k (x i)) *ᴾ total i (variable w))
        at_var w =
            ap₂ (λ a b. derivation c a +ᴾ negᴾ (total k b)) (derivation-variable (next k) w) (derivation-variable c w)
            ∙ from (derivation c (next k w)) (total k (c w)) (sum_of is (λ i. total k (x i) *ᴾ next i w)) (h.step k w)
            ∙ sym (neg_over is (λ i. total k (x i) *ᴾ next i w))
            ∙ ap (sum_of is) (fun_ext (λ i. sym (negs (total k (x i)) (next i w)) ∙ ap (λ z. negᴾ (total k (x i)) *ᴾ z) (sym (derivation-variable (next i) w))))

        same : bracket (derivation c) (total k) p ≡ negᴾ (sum_of is (λ i. total k (x i) *ᴾ total i p))
        same =
            derivations_agree (bracket_is_derivation (derivation_is_derivation c) (total_is k)) (multiples_is_derivation is (λ i. negᴾ (total k (x i))) total total_is) at_var p
            ∙ ap (sum_of is) (fun_ext (λ i. negs (total k (x i)) (total i p))) ∙ neg_over is (λ i. total k (x i) *ᴾ total i p)

  -- ---- the bracket of two prolonged fields is prolonged
  module _ (is : List ℕ) where
    -- what the one field makes of the other's step
    half : (x c y d : ℕ → WholePolynomial) → IsProlonged is x c → IsProlonged is y d → (k w : ℕ) →
        derivation c (derivation d (next k w)) +ᴾ (sum_of is (λ i. total k (derivation c (y i)) *ᴾ next i w) +ᴾ (sum_of is (λ i. total k (y i) *ᴾ total i (c w)) +ᴾ sum_of is (λ i. total k (x i) *ᴾ total i (d w))))
        ≡ total k (derivation c (d w)) +ᴾ (sum_of is (λ i. total k (y i) *ᴾ sum_of is (λ j. total i (x j) *ᴾ next j w)) +ᴾ sum_of is (λ j. total k (x j) *ᴾ sum_of is (λ i. total j (y i) *ᴾ next i w)))
    half x c y d h g k w =
        ap₂ (λ a b. P +ᴾ (a +ᴾ (b +ᴾ S))) (sym u_is) (sym s_is)
        ∙ solve polynomial_ring (listed P (P ∷ A ∷ B ∷ S ∷ Q ∷ R ∷ [])) (v 0 ⊕ ((v 2 ⊕ v 5) ⊕ ((v 1 ⊕ v 4) ⊕ v 3))) (((v 0 ⊕ (v 1 ⊕ v 2)) ⊕ v 3) ⊕ (v 4 ⊕ v 5)) refl
        ∙ ap (λ a. (a +ᴾ S) +ᴾ (Q +ᴾ R)) (ap (λ a. P +ᴾ a) (sym (sum_of-plus is (λ i. total k (y i) *ᴾ derivation c (next i w)) (λ i. derivation c (total k (y i)) *ᴾ next i w))) ∙ first)
        ∙ ap (λ a. a +ᴾ (Q +ᴾ R)) (crossed is x c h k (d w))
      where
        P : WholePolynomial
        P = derivation c (derivation d (next k w))

        A : WholePolynomial
        A = sum_of is (λ i. total k (y i) *ᴾ derivation c (next i w))

        B : WholePolynomial
        B = sum_of is (λ i. derivation c (total k (y i)) *ᴾ next i w)

        S : WholePolynomial
        S = sum_of is (λ i. total k (x i) *ᴾ total i (d w))

        Q : WholePolynomial
        Q = sum_of is (λ i. total k (y i) *ᴾ sum_of is (λ j. total i (x j) *ᴾ next j w))

        R : WholePolynomial
        R = sum_of is (λ j. total k (x j) *ᴾ sum_of is (λ i. total j (y i) *ᴾ next i w))

        first : P +ᴾ sum_of is (λ i. total k (y i) *ᴾ derivation c (next i w) +ᴾ derivation c (total k (y i)) *ᴾ next i w) ≡ derivation c (total k (d w))
        first =
            ap (λ a. P +ᴾ a) (sym (sum_of-derived (derivation_is_derivation c) is (λ i. total k (y i) *ᴾ next i w) ∙ ap (sum_of is) (fun_ext (λ i. (derivation_is_derivation c).times (total k (y i)) (next i w)))))
            ∙ sym ((derivation_is_derivation c).plus (derivation d (next k w)) (sum_of is (λ i. total k (y i) *ᴾ next i w))) ∙ ap (derivation c) (g.step k w)

        s_is : A +ᴾ Q ≡ sum_of is (λ i. total k (y i) *ᴾ total i (c w))
        s_is = sym (sum_of-plus is (λ i. total k (y i) *ᴾ derivation c (next i w)) (λ i. total k (y i) *ᴾ sum_of is (λ j. total i (x j) *ᴾ next j w)))
            ∙ ap (sum_of is) (fun_ext (λ i. sym (*ᴾ-dist (total k (y i)) (derivation c (next i w)) (sum_of is (λ j. total i (x j) *ᴾ next j w))) ∙ ap (λ a. total k (y i) *ᴾ a) (h.step i w)))

        turned : R ≡ sum_of is (λ i. sum_of is (λ j. total k (x j) *ᴾ total j (y i)) *ᴾ next i w)
        turned =
            ap (sum_of is) (fun_ext (λ j. times-sum_of is (λ i. total j (y i) *ᴾ next i w) (total k (x j)) ∙ ap (sum_of is) (fun_ext (λ i. sym (*ᴾ_assoc (total k (x j)) (total j (y i)) (next i w))))))
            ∙ sum_of-swap is is (λ j i. (total k (x j) *ᴾ total j (y i)) *ᴾ next i w)
            ∙ ap (sum_of is) (fun_ext (λ i. sym (sum_of-times is (λ j. total k (x j) *ᴾ total j (y i)) (next i w))))

        u_is : B +ᴾ R ≡ sum_of is (λ i. total k (derivation c (y i)) *ᴾ next i w)
        u_is = ap (λ a. B +ᴾ a) turned ∙ sym (sum_of-plus is (λ i. derivation c (total k (y i)) *ᴾ next i w) (λ i. sum_of is (λ j. total k (x j) *ᴾ total j (y i)) *ᴾ next i w))
            ∙ ap (sum_of is) (fun_ext (λ i. sym (+ᴾ-*ᴾ (derivation c (total k (y i))) (sum_of is (λ j. total k (x j) *ᴾ total j (y i))) (next i w)) ∙ ap (λ a. a *ᴾ next i w) (crossed is x c h k (y i))))

    subtract : (P P' U U' S S' V V' Q Q' : WholePolynomial) → P +ᴾ (U +ᴾ S) ≡ V +ᴾ Q → P' +ᴾ (U' +ᴾ S') ≡ V' +ᴾ Q' → S ≡ S' → Q ≡ Q' → (P +ᴾ negᴾ P') +ᴾ (U +ᴾ negᴾ U') ≡ V +ᴾ negᴾ V'
    subtract P P' U U' S S' V V' Q Q' e f s q =
        solve polynomial_ring (listed P (P ∷ P' ∷ U ∷ U' ∷ S ∷ [])) ((v 0 ⊕ ⊖ (v 1)) ⊕ (v 2 ⊕ ⊖ (v 3))) ((v 0 ⊕ (v 2 ⊕ v 4)) ⊕ ⊖ (v 1 ⊕ (v 3 ⊕ v 4))) refl
        ∙ ap₂ (λ a b. a +ᴾ negᴾ b) e (ap (λ z. P' +ᴾ (U' +ᴾ z)) s ∙ f ∙ ap (λ z. V' +ᴾ z) (sym q))
        ∙ solve polynomial_ring (listed V (V ∷ V' ∷ Q ∷ [])) ((v 0 ⊕ v 2) ⊕ ⊖ (v 1 ⊕ v 2)) (v 0 ⊕ ⊖ (v 1)) refl

    module _ (x c y d : ℕ → WholePolynomial) (h : IsProlonged is x c) (g : IsProlonged is y d) where
      -- the components of the bracket
      abbrev pub bracket_component : ℕ → WholePolynomial
      bracket_component i = derivation c (y i) +ᴾ negᴾ (derivation d (x i))

      abbrev pub bracket_coefficient : ℕ → WholePolynomial
      bracket_coefficient w = derivation c (d w) +ᴾ negᴾ (derivation d (c w))

      pub bracket_field : (p : WholePolynomial) → derivation bracket_coefficient p ≡ bracket (derivation c) (derivation d) p
      bracket_field = derivations_agree (derivation_is_derivation bracket_coefficient) (bracket_is_derivation (derivation_is_derivation c) (derivation_is_derivation d)) (λ w. derivation-variable bracket_coefficient w ∙ sym (ap₂ (λ a b. derivation c a +ᴾ negᴾ (derivation d b)) (derivation-variable d w) (derivation-variable c w)))

      differences : (k w : ℕ) → sum_of is (λ i. total k (bracket_component i) *ᴾ next i w) ≡ sum_of is (λ i. total k (derivation c (y i)) *ᴾ next i w) +ᴾ negᴾ (sum_of is (λ i. total k (derivation d (x i)) *ᴾ next i w))
      differences k w =
          ap (sum_of is) (fun_ext (λ i. ap (λ a. a *ᴾ next i w) (minus_derived (total_is k) (derivation c (y i)) (derivation d (x i))) ∙ +ᴾ-*ᴾ _ _ (next i w) ∙ ap (λ a. total k (derivation c (y i)) *ᴾ next i w +ᴾ a) (*ᴾ_assoc _ _ _)))
          ∙ sum_of-plus is (λ i. total k (derivation c (y i)) *ᴾ next i w) (λ i. negᴾ (total k (derivation d (x i)) *ᴾ next i w))
          ∙ ap (λ a. sum_of is (λ i. total k (derivation c (y i)) *ᴾ next i w) +ᴾ a) (sym (times-sum_of is (λ i. total k (derivation d (x i)) *ᴾ next i w) _))

      pub bracket_prolonged : IsProlonged is bracket_component bracket_coefficient
      bracket_prolonged = record {
        step = λ k w.
            ap₂ ◌+ᴾ◌ (bracket_field (next k w)) (differences k w)
            ∙ subtract _ _ _ _ _ _ _ _ _ _ (half x c y d h g k w) (half y d x c g h k w) (plus_comm terms _ _) (plus_comm terms _ _)
            ∙ sym (minus_derived (total_is k) (derivation c (d w)) (derivation d (c w)));
      }
