-- One equation u_x = h of order 1 in one independent and one dependent variable: the printed equation is the invariance condition.
use Rattle.std.specs.Prelude.{◌≡◌, ℕ, zero, suc, ◌-◌, ◌<◌, cond, List, [], ◌∷◌, ◌↔◌, pos, negsuc, ◌*ℤ◌}
use Rattle.std.proofs.Common.{refl, sym, ap, ap₂, ◌∙◌, arith, ltb-true}
use mathlib.Core.Path.{fun_ext}
use lib.IntN.{*ℤ_comm}
use Rattle.std.proofs.lemmas.Bool.{ne_eqb}
use Rattle.lie_math.specs.Derivation.{is_below, derivation}
use Rattle.lie_math.specs.Evaluation.{monomial_value, value_in}
use Rattle.lie_math.specs.FiniteSumLaws.{plus_idl}
use Rattle.lie_math.specs.Integer.{*ℤ-idl}
use Rattle.lie_math.specs.Monomial.{exponent}
use Rattle.lie_math.specs.PartialDerivative.{partial}
use Rattle.lie_math.specs.Polynomial.{terms, WholePolynomial, 0ᴾ, ◌+ᴾ◌, polynomials, ◌*ᴾ◌, constant, variable, negᴾ}
use Rattle.lie_math.specs.PolynomialRing.{one-*ᴾ, polynomial_ring, polynomial_algebra}
use Rattle.lie_math.specs.SortedSum.{sum_of_entries}
use Rattle.lie_math.specs.Variables.{IsIn}
use Rattle.lie_math.proofs.Limits.{at}
use Rattle.lie_math.proofs.ChainRule.{chain_rule_below, derivation_is_derivation, derivation-variable}
use Rattle.lie_math.proofs.Evaluation.{value_in-plus, value_in-0ᴾ, value_in-constant, value_in-variable, value_in-times}
use Rattle.lie_math.proofs.PartialDerivation.{partial-itself, partial-other}
use Rattle.lie_math.proofs.Ring.{plus_idr}
use Rattle.lie_math.proofs.RingSolver.{Expr, v, c0, c1, ◌⊕◌, ◌⊗◌, ⊖, means, solve, listed}
use Rattle.lie_math.proofs.Substitution.{value_in_itself}
use Rattle.lie_math.proofs.Variables.{value_in_agrees, in-partial}
use Rattle.lie_geometry.specs.Coordinates.{number, coordinate}
use Rattle.lie_geometry.specs.FirstOrder.{one_of_each, first_order_equation, first_order_condition}
use Rattle.lie_geometry.specs.Invariance.{applied_prolongation, AreInvariant}
use Rattle.lie_geometry.specs.Prolongation.{total_derivative, prolonged_coefficient}
use Rattle.lie_geometry.specs.SolvedEquations.{SolvedEquation, replacement, reduced_by, reduced}
use Rattle.lie_geometry.proofs.AbstractProlongation.{minus_derived}
use Rattle.lie_geometry.proofs.Derivations.{variable_derivative, total_as_derivation, field_coefficient, applied_as_derivation}
use Rattle.lie_geometry.proofs.Ideals.{one_power}
use Rattle.lie_geometry.proofs.Reduction.{degrees_of}

-- ---- what is put into an expression
value_in-negᴾ : (at : ℕ → WholePolynomial) (p : WholePolynomial) → value_in polynomial_algebra at (negᴾ p) ≡ negᴾ (value_in polynomial_algebra at p)
value_in-negᴾ at p = value_in-times polynomial_algebra at (constant (negsuc 0)) p ∙ ap (λ z. z *ᴾ value_in polynomial_algebra at p) (value_in-constant polynomial_algebra at (negsuc 0))

value_in-means : (at ρ : ℕ → WholePolynomial) (e : Expr) → value_in polynomial_algebra at (means polynomial_ring ρ e) ≡ means polynomial_ring (λ i. value_in polynomial_algebra at (ρ i)) e
value_in-means at ρ (v i) = refl
value_in-means at ρ c0 = value_in-0ᴾ polynomial_algebra at
value_in-means at ρ c1 = value_in-constant polynomial_algebra at (pos 1)
value_in-means at ρ (a ⊕ b) = value_in-plus polynomial_algebra at _ _ ∙ ap₂ ◌+ᴾ◌ (value_in-means at ρ a) (value_in-means at ρ b)
value_in-means at ρ (a ⊗ b) = value_in-times polynomial_algebra at _ _ ∙ ap₂ ◌*ᴾ◌ (value_in-means at ρ a) (value_in-means at ρ b)
value_in-means at ρ (⊖ a) = value_in-negᴾ at _ ∙ ap negᴾ (value_in-means at ρ a)

abbrev each : (WholePolynomial → WholePolynomial) → List WholePolynomial → List WholePolynomial
each f [] = []
each f (p ∷ ps) = f p ∷ each f ps

listed-each : (f : WholePolynomial → WholePolynomial) (d : WholePolynomial) (ps : List WholePolynomial) (i : ℕ) → f (listed d ps i) ≡ listed (f d) (each f ps) i
listed-each f d [] i = refl
listed-each f d (p ∷ ps) zero = refl
listed-each f d (p ∷ ps) (suc i) = listed-each f d ps i

-- ---- the total derivative of a polynomial in x and u
module _ (P : WholePolynomial) (h : IsIn (is_below 2) P) where
  pub total_first : total_derivative one_of_each 0 P ≡ variable 2 *ᴾ partial 1 P +ᴾ partial 0 P
  unfolding coordinate number
  total_first =
      total_as_derivation one_of_each 0 P ∙ sym (chain_rule_below 2 (variable_derivative one_of_each 0) (derivation_is_derivation (variable_derivative one_of_each 0)) (derivation-variable (variable_derivative one_of_each 0)) P h)
      ∙ ap₂ (λ a b. a *ᴾ partial 1 P +ᴾ (b *ᴾ partial 0 P +ᴾ 0ᴾ))
      (ap (λ z. z +ᴾ variable 2) (partial-other 0 1 (λ e. absurd (omega arith))) ∙ plus_idl terms (variable 2))
      (ap (λ z. z +ᴾ 0ᴾ) (partial-itself 0) ∙ plus_idr polynomial_ring (constant (pos 1)))
      ∙ ap (λ z. variable 2 *ᴾ partial 1 P +ᴾ z) (plus_idr polynomial_ring _ ∙ one-*ᴾ (partial 0 P))

-- ---- a leading field_coefficient of 1
pub reduced_by_one : (h : WholePolynomial) (e : ℕ → ℕ) (P : WholePolynomial) → reduced_by (first_order_equation h ∷ []) e P ≡ value_in polynomial_algebra (replacement (first_order_equation h ∷ [])) P
unfolding reduced_by value_in
reduced_by_one h e P = ap (λ φ. sum_of_entries polynomials φ P.list) (fun_ext (λ m. fun_ext (λ a. ap (λ z. constant z *ᴾ monomial_value polynomial_algebra (replacement (first_order_equation h ∷ [])) m) (
    ap (λ z. a *ℤ (z *ℤ pos 1)) (one_power (e 2 - exponent m 2)) ∙ *ℤ_comm a (pos 1) ∙ *ℤ-idl a))))

module _ (h : WholePolynomial) (V : ℕ → WholePolynomial) (in_h : IsIn (is_below 2) h) (in_1 : IsIn (is_below 2) (V 0)) (in_2 : IsIn (is_below 2) (V 1)) where
  abbrev c : ℕ → WholePolynomial
  c = field_coefficient one_of_each V

  first_coefficient : c 2 ≡ (variable 2 *ᴾ partial 1 (V 1) +ᴾ partial 0 (V 1)) +ᴾ negᴾ ((variable 2 *ᴾ partial 1 (V 0) +ᴾ partial 0 (V 0)) *ᴾ variable 2)
  unfolding coordinate number prolonged_coefficient
  first_coefficient = ap₂ (λ a b. a +ᴾ negᴾ (b *ᴾ variable 2 +ᴾ 0ᴾ)) (total_first (V 1) in_2) (total_first (V 0) in_1) ∙ ap (λ z. (variable 2 *ᴾ partial 1 (V 1) +ᴾ partial 0 (V 1)) +ᴾ negᴾ z) (plus_idr polynomial_ring _)

  abbrev rs : List SolvedEquation
  rs = first_order_equation h ∷ []

  right_side : derivation c h ≡ V 1 *ᴾ partial 1 h +ᴾ V 0 *ᴾ partial 0 h
  unfolding coordinate prolonged_coefficient
  right_side = sym (chain_rule_below 2 c (derivation_is_derivation c) (derivation-variable c) h in_h) ∙ ap (λ z. V 1 *ᴾ partial 1 h +ᴾ z) (plus_idr polynomial_ring _)

  abbrev atoms : WholePolynomial → List WholePolynomial
  atoms x = x ∷ partial 0 (V 1) ∷ partial 1 (V 1) ∷ partial 0 (V 0) ∷ partial 1 (V 0) ∷ V 1 ∷ V 0 ∷ partial 1 h ∷ partial 0 h ∷ []

  abbrev condition : Expr
  condition = ((v 0 ⊗ v 2 ⊕ v 1) ⊕ ⊖ ((v 0 ⊗ v 4 ⊕ v 3) ⊗ v 0)) ⊕ ⊖ (v 5 ⊗ v 7 ⊕ v 6 ⊗ v 8)

  prolonged : applied_prolongation one_of_each rs V (first_order_equation h) ≡ means polynomial_ring (listed 0ᴾ (atoms (variable 2))) condition
  prolonged =
      applied_as_derivation one_of_each (omega arith) (omega arith) rs V 0 (first_order_equation h) (omega arith)
      ∙ ap (λ z. derivation c (z +ᴾ negᴾ h)) (one-*ᴾ (variable 2)) ∙ minus_derived (derivation_is_derivation c) (variable 2) h
      ∙ ap₂ (λ a b. a +ᴾ negᴾ b) (derivation-variable c 2 ∙ first_coefficient) right_side

  abbrev put : WholePolynomial → WholePolynomial
  put = value_in polynomial_algebra (replacement rs)

  stays : (P : WholePolynomial) → IsIn (is_below 2) P → put P ≡ P
  stays P k = value_in_agrees (is_below 2) polynomial_algebra (replacement rs) variable (λ w e. other w (ltb-true w 2 e)) P k ∙ value_in_itself P
    where
      other : (w : ℕ) → w < 2 → replacement rs w ≡ variable w
      other w e = ap (λ t. cond t h (variable w)) (ne_eqb w 2 (λ q. absurd (omega arith)))

  put_atoms : each put (atoms (variable 2)) ≡ atoms h
  put_atoms =
      let e0 = value_in-variable polynomial_algebra (replacement rs) 2 in
      let e1 = stays _ (in-partial (is_below 2) 0 (V 1) in_2) in
      let e2 = stays _ (in-partial (is_below 2) 1 (V 1) in_2) in
      let e3 = stays _ (in-partial (is_below 2) 0 (V 0) in_1) in
      let e4 = stays _ (in-partial (is_below 2) 1 (V 0) in_1) in
      let e5 = stays _ in_2 in
      let e6 = stays _ in_1 in
      let e7 = stays _ (in-partial (is_below 2) 1 h in_h) in
      let e8 = stays _ (in-partial (is_below 2) 0 h in_h) in
      λ i. e0 i ∷ e1 i ∷ e2 i ∷ e3 i ∷ e4 i ∷ e5 i ∷ e6 i ∷ e7 i ∷ e8 i ∷ []

  pub reduced_is_condition : reduced rs (applied_prolongation one_of_each rs V (first_order_equation h)) ≡ first_order_condition h (V 0) (V 1)
  reduced_is_condition =
      reduced_by_one h (degrees_of (applied_prolongation one_of_each rs V (first_order_equation h))) (applied_prolongation one_of_each rs V (first_order_equation h))
      ∙ ap put prolonged ∙ value_in-means (replacement rs) (listed 0ᴾ (atoms (variable 2))) condition
      ∙ ap (λ ρ. means polynomial_ring ρ condition) (fun_ext (λ i. listed-each put 0ᴾ (atoms (variable 2)) i ∙ ap₂ (λ d ps. listed d ps i) (value_in-0ᴾ polynomial_algebra (replacement rs)) put_atoms))
      ∙ solve polynomial_ring (listed 0ᴾ (atoms h)) condition (v 1 ⊕ v 0 ⊗ v 2 ⊕ ⊖ (v 0 ⊗ v 3) ⊕ ⊖ (v 0 ⊗ v 0 ⊗ v 4) ⊕ ⊖ (v 7 ⊗ v 5) ⊕ ⊖ (v 8 ⊗ v 6)) refl

  -- the printed equation holds of V exactly if V meets the invariance condition
  pub condition_is_invariance : AreInvariant one_of_each rs V ↔ first_order_condition h (V 0) (V 1) ≡ 0ᴾ
  condition_is_invariance = (λ f. sym reduced_is_condition ∙ f 0 (first_order_equation h) (omega arith), back)
    where
      back : first_order_condition h (V 0) (V 1) ≡ 0ᴾ → AreInvariant one_of_each rs V
      back e zero d k = reduced_is_condition ∙ e
      back e (suc n) d k = absurd (omega arith)
