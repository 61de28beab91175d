-- The weighted norms of the symbolic prolonged coefficients, and of their bulks, stay below the bound.
use Rattle.std.specs.Prelude.{◌≡◌, ℕ, suc, ◌+◌, ◌*◌, ◌≤◌, ◌<◌, Bool, true, false, cond, eqb, ltb, List, [], ◌∷◌, length, replicate, pos}
use Rattle.std.proofs.Common.{refl, sym, ap, subst, ◌∙◌, arith, inl, inr, eqb-true, ltb-true}
use Rattle.lie_math.specs.Counts.{Derivative, order, raise, raised}
use Rattle.lie_math.specs.Derivation.{numbers_below}
use Rattle.lie_math.specs.FiniteSumLaws.{plus_idl}
use Rattle.lie_math.specs.Limits.{absolute}
use Rattle.lie_math.specs.LinearForm.{LinearForm, form_term, each_coefficient, times_form}
use Rattle.lie_math.specs.Monomial.{unit}
use Rattle.lie_math.specs.Polynomial.{terms, WholePolynomial, 0ᴾ, ◌+ᴾ◌, ◌*ᴾ◌, constant, variable}
use Rattle.lie_math.specs.PolynomialRing.{polynomial_ring, *ᴾ_comm}
use Rattle.lie_math.proofs.ChainRule.{derivation-variable}
use Rattle.lie_math.proofs.Counts.{order_raise}
use Rattle.lie_math.proofs.PartialDerivation.{partial-variable}
use Rattle.lie_math.proofs.Ring.{plus_idr}
use Rattle.lie_geometry.specs.Coordinates.{Space, Coordinate, independent, jet, coordinate}
use Rattle.lie_geometry.specs.Prolongation.{jet_variable, coordinate_derivative, total_derivative, counts_of_indices}
use Rattle.lie_geometry.specs.SymbolicNorms.{total_weight, weight_bound, bulk_of_step}
use Rattle.lie_geometry.specs.SymbolicProlongation.{forms_over, unknown, symbolic_total, symbolic_coefficient}
use Rattle.lie_geometry.proofs.Booleans.{and_left, and_right}
use Rattle.lie_geometry.proofs.Derivations.{variable_derivative, total_as_derivation, total_is_derivation}
use Rattle.lie_geometry.proofs.WeightedForms.{weighted_entry, weighted_form, form-plus, form-term, form-map, form-absolute, form-negative, form-variable_times, forms-over}
use Rattle.lie_geometry.proofs.Indices.{all_below}
use Rattle.lie_geometry.proofs.WeightedNorms.{le_trans, le_same, le_sum, le_times, times_le, weighted, weighted-term, weighted-variable_times, weighted-sum, weighted-multiple, weighted_derived, Rises, IsSimple, degree-unit}
use Rattle.lie_geometry.proofs.SymbolicProlongation.{total_term, coordinate_base}

-- a weight of orders and degrees that does not fall with the degree
abbrev pub AllRise : (ℕ → ℕ → ℕ) → Type 0
AllRise w = (o : ℕ) → Rises (w o)

module _ (S : Space) where
  pub total_rises : (w : ℕ → ℕ → ℕ) → AllRise w → AllRise (total_weight S w)
  total_rises w rises o n =
      le_sum _ _ _ _ (le_trans _ _ _ (le_times n _ _ (rises o n)) (times_le (w o (suc n)) n (suc n) (next n)))
      (le_sum _ _ _ _ (rises (suc o) n) (le_times S.q _ _ (rises (suc o) (suc n))))
    where
      next : (n : ℕ) → n ≤ suc n
      next n = omega arith

  coordinate_simple : (i : ℕ) (c : Coordinate) → IsSimple (coordinate_derivative S i c)
  coordinate_simple i (independent j) = inl refl
  coordinate_simple i (jet a J) = inr (inr (_, refl))

  module _ (some_p : 0 < S.p) (some_q : 0 < S.q) where
    pub total_simple : (i : ℕ) → i < S.p → (v : ℕ) → IsSimple (total_derivative S i (variable v))
    total_simple i h v = subst IsSimple (sym (total_as_derivation S i (variable v) ∙ derivation-variable (variable_derivative S i) v ∙ ap (λ z. z +ᴾ coordinate_derivative S i (coordinate S v)) (partial-variable i v))) (by (eqb i v) refl)
      where
        by : (t : Bool) → eqb i v ≡ t → IsSimple (cond t (constant (pos 1)) 0ᴾ +ᴾ coordinate_derivative S i (coordinate S v))
        by true e = inr (inl (ap (λ c. constant (pos 1) +ᴾ coordinate_derivative S i c) (ap (coordinate S) (sym (eqb-true i v e)) ∙ coordinate_base S some_p some_q i h) ∙ plus_idr polynomial_ring (constant (pos 1))))
        by false e = subst IsSimple (sym (plus_idl terms (coordinate_derivative S i (coordinate S v)))) (coordinate_simple i (coordinate S v))

    module _ (w : ℕ → ℕ → ℕ) (rises : AllRise w) where
      term_weight : (k : ℕ) → k < S.p → (d : Derivative) (a : WholePolynomial) → weighted_form w (total_term S k d a) ≤ weighted_entry (total_weight S w) d a
      term_weight k h d a =
          let o = order d.counts in
          le_trans _ _ _ (form-plus w _ _)
          (le_trans _ _ _ (le_sum _ _ _ _ (le_trans _ _ _ (form-plus w _ _) (le_sum _ _ _ _ derived (once k))) (forms-over w (weighted (λ n. w (suc o) (suc n)) a) _ S.q jets))
          (le_same _ _ (sym (weighted-sum (λ n. n * w o n) (λ n. w (suc o) n + S.q * w (suc o) (suc n)) a
          ∙ ap (λ x. weighted (λ n. n * w o n) a + x) (weighted-sum (w (suc o)) (λ n. S.q * w (suc o) (suc n)) a ∙ ap (λ x. weighted (w (suc o)) a + x) (weighted-multiple S.q (λ n. w (suc o) (suc n)) a)) ∙ grouped _ _ _))))
        where
          grouped : (a b c : ℕ) → a + (b + c) ≡ (a + b) + c
          grouped a b c = omega arith

          derived : weighted_form w (form_term d (total_derivative S k a)) ≤ weighted (λ n. n * w (order d.counts) n) a
          derived = le_trans _ _ _ (form-term w d (total_derivative S k a)) (weighted_derived (total_is_derivation S k) (total_simple k h) (w (order d.counts)) (rises (order d.counts)) a)

          raised_is : (i : ℕ) (b : WholePolynomial) → weighted_form w (form_term (raised i d) b) ≤ weighted (w (suc (order d.counts))) b
          raised_is i b = le_trans _ _ _ (form-term w (raised i d) b) (le_same _ _ (ap (λ o. weighted (w o) b) (order_raise i d.counts)))

          once : (i : ℕ) → weighted_form w (form_term (raised i d) a) ≤ weighted (w (suc (order d.counts))) a
          once i = raised_is i a

          jets : (b : ℕ) → weighted_form w (form_term (raised (S.p + b) d) (a *ᴾ jet_variable S b (raise k (replicate S.p 0)))) ≤ weighted (λ n. w (suc (order d.counts)) (suc n)) a
          jets b = le_trans _ _ _ (raised_is (S.p + b) _) (le_trans _ _ _ (le_same _ _ (ap (weighted (w (suc (order d.counts)))) (*ᴾ_comm a (jet_variable S b (raise k (replicate S.p 0)))))) (weighted-variable_times (w (suc (order d.counts))) _ a))

      pub total_at_most : (k : ℕ) → k < S.p → (E : LinearForm) → weighted_form w (symbolic_total S k E) ≤ weighted_form (total_weight S w) E
      unfolding symbolic_total
      total_at_most k h E = form-map w (total_weight S w) (total_term S k) (term_weight k h) E

    pub unknown_at_most : (w : ℕ → ℕ → ℕ) (s : ℕ) → weighted_form w (unknown s) ≤ w 0 0
    unknown_at_most w s = le_trans _ _ _ (form-term w _ (constant (pos 1))) (le_trans _ _ _ (weighted-term (w 0) unit (pos 1)) (le_same _ _ (ap (λ n. 1 * w 0 n) degree-unit ∙ one (w 0 0))))
      where
        one : (n : ℕ) → 1 * n ≡ n
        one n = omega arith

    module _ (w : ℕ → ℕ → ℕ) (rises : AllRise w) where
      -- the total derivatives of the components, times jets
      pub multiples_at_most : (k : ℕ) → k < S.p → (a : ℕ) (J : List ℕ) → weighted_form w (forms_over (numbers_below S.p) (λ i. times_form (jet_variable S a (raise i J)) (symbolic_total S k (unknown i)))) ≤ S.p * (w 1 1 + S.q * w 1 2)
      multiples_at_most k h a J = forms-over w (w 1 1 + S.q * w 1 2) _ S.p one
        where
          plain : (a b : ℕ) → 0 * a + b ≡ b
          plain a b = omega arith

          one : (i : ℕ) → weighted_form w (times_form (jet_variable S a (raise i J)) (symbolic_total S k (unknown i))) ≤ w 1 1 + S.q * w 1 2
          one i =
              le_trans _ _ _ (form-variable_times w _ (symbolic_total S k (unknown i)))
              (le_trans _ _ _ (total_at_most (λ o n. w o (suc n)) (λ o n. rises o (suc n)) k h (unknown i))
              (le_trans _ _ _ (unknown_at_most (total_weight S (λ o n. w o (suc n))) i) (le_same _ _ (plain (w 0 1) (w 1 1 + S.q * w 1 2)))))

    pub coefficient_at_most : (a : ℕ) (W : List ℕ) → all_below S.p W ≡ true → (w : ℕ → ℕ → ℕ) → AllRise w → weighted_form w (symbolic_coefficient S a W) ≤ weight_bound S w (length W)
    unfolding symbolic_coefficient
    coefficient_at_most a [] h w rises = unknown_at_most w (S.p + a)
    coefficient_at_most a (k ∷ W) h w rises =
        let f : k < S.p = ltb-true k S.p (and_left (ltb k S.p) (all_below S.p W) h) in
        let g : all_below S.p W ≡ true = and_right (ltb k S.p) (all_below S.p W) h in
        le_trans _ _ _ (form-plus w _ _)
        (le_sum _ _ _ _ (le_trans _ _ _ (total_at_most w rises k f (symbolic_coefficient S a W)) (coefficient_at_most a W g (total_weight S w) (total_rises w rises)))
        (le_trans _ _ _ (form-negative w (forms_over (numbers_below S.p) (λ i. times_form (jet_variable S a (raise i (counts_of_indices S W))) (symbolic_total S k (unknown i))))) (multiples_at_most w rises k f a (counts_of_indices S W))))

    -- the bulk, made from the true coefficient before it
    pub bulk_at_most : (a k : ℕ) (W : List ℕ) → all_below S.p (k ∷ W) ≡ true → (w : ℕ → ℕ → ℕ) → AllRise w → weighted_form w (bulk_of_step S a k W) ≤ weight_bound S w (suc (length W))
    bulk_at_most a k W h w rises =
        let f : k < S.p = ltb-true k S.p (and_left (ltb k S.p) (all_below S.p W) h) in
        let g : all_below S.p W ≡ true = and_right (ltb k S.p) (all_below S.p W) h in
        le_trans _ _ _ (form-plus w _ _)
        (le_sum _ _ _ _ (le_trans _ _ _ (total_at_most w rises k f (each_coefficient absolute (symbolic_coefficient S a W))) (le_trans _ _ _ (form-absolute (total_weight S w) (symbolic_coefficient S a W)) (coefficient_at_most a W g (total_weight S w) (total_rises w rises))))
        (multiples_at_most w rises k f a (counts_of_indices S W)))
