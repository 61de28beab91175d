-- The worked values, by computing.
use Rattle.std.specs.Prelude.{◌≡◌, ℕ, zero, suc, false, cond, eqb, [], ◌∷◌, ℤ, pos, negsuc, ◌+ℤ◌, ◌*ℤ◌}
use Rattle.std.proofs.Common.{refl, sym, ap, ap₂, ◌∙◌, arith, true≢false}
use borrow.Author.Differences.{ints}
use Rattle.lie_math.specs.FiniteSum as finite
use Rattle.lie_math.specs.FiniteSumLaws as finite_laws
use Rattle.lie_math.specs.Derivation.{derivation}
use Rattle.lie_math.specs.Evaluation.{value_in}
use Rattle.lie_math.specs.Integer.{integer_algebra}
use Rattle.lie_math.proofs.Evaluation.{value_in-plus, value_in-0ᴾ, value_in-times}
use Rattle.lie_math.specs.PartialDerivative.{partial}
use Rattle.lie_math.specs.Polynomial.{terms, WholePolynomial, 0ᴾ, ◌+ᴾ◌, ◌*ᴾ◌, constant, variable, negᴾ}
use Rattle.lie_math.specs.VectorField.{VectorField, component}
use Rattle.lie_geometry.specs.Coordinates.{number, coordinate}
use Rattle.lie_geometry.specs.DeterminingEquations.{restrict, part}
use Rattle.lie_geometry.specs.FirstOrder.{one_of_each, first_order_equation}
use Rattle.lie_geometry.specs.Invariance.{applied_prolongation, IsInvariant}
use Rattle.lie_geometry.specs.InvarianceLaws.{LiesInIdeal}
use Rattle.lie_geometry.specs.Prolongation.{total_derivative, prolonged_coefficient}
use Rattle.lie_geometry.specs.SolvedEquations.{difference, reduced_by, reduced}
use Rattle.lie_geometry.specs.SymbolicProlongation.{symbolic_total, symbolic_coefficient, symbolic_application}
use Rattle.lie_geometry.specs.WorkedValues.{written, JetNumbers, TotalOfProduct, plane_field, FieldProlonged, growth, GrowthInvariant, twice_is_u, halves, halves_difference, HalvesReduced, SymbolicProlonged, GrowthDetermined, PlaneUnknowns, NormBounds}

pub jet_numbers : JetNumbers
unfolding number
jet_numbers = (refl, refl)

-- two polynomials with the same terms
same : (p q : WholePolynomial) → p.list ≡ q.list → p ≡ q
same p q e = finite_laws.same_list terms p q e

pub total_of_product : TotalOfProduct
unfolding total_derivative derivation coordinate number partial ◌*ᴾ◌ finite.of finite.plus finite.none finite.term finite.put
total_of_product = same _ _ refl

at_first : (prolonged_coefficient one_of_each (component (plane_field (variable 1) 0ᴾ)) 0 (0 ∷ [])).list ≡ (written (((2, 2) ∷ [], negsuc 0) ∷ [])).list
unfolding prolonged_coefficient total_derivative derivation coordinate number partial ◌*ᴾ◌ finite.of finite.plus finite.none finite.term finite.put
at_first = refl

at_second : (prolonged_coefficient one_of_each (component (plane_field (variable 1) 0ᴾ)) 0 (0 ∷ 0 ∷ [])).list ≡ (written (((2, 1) ∷ (3, 1) ∷ [], negsuc 2) ∷ [])).list
unfolding prolonged_coefficient total_derivative derivation coordinate number partial ◌*ᴾ◌ finite.of finite.plus finite.none finite.term finite.put
at_second = refl

pub field_prolonged : FieldProlonged
unfolding prolonged_coefficient
field_prolonged =
    let first = same _ _ at_first in
    let second = same _ _ at_second in
    λ i. 0ᴾ ∷ first i ∷ second i ∷ []

-- ---- invariance of u_x = u
abbrev left : VectorField → WholePolynomial
left V = reduced growth (applied_prolongation one_of_each growth (component V) (first_order_equation (variable 1)))

alone : (V : VectorField) → (left V).list ≡ [] → IsInvariant one_of_each growth V
unfolding finite.none finite.of
alone V e zero d h = same _ _ e
alone V e (suc k) d h = absurd (omega arith)

along_x : (left (plane_field (constant (pos 1)) 0ᴾ)).list ≡ []
unfolding applied_prolongation prolonged_coefficient total_derivative derivation coordinate number partial reduced_by ◌*ᴾ◌ finite.of finite.plus finite.none finite.term finite.put
along_x = refl

scaling : (left (plane_field 0ᴾ (variable 1))).list ≡ []
unfolding applied_prolongation prolonged_coefficient total_derivative derivation coordinate number partial reduced_by ◌*ᴾ◌ finite.of finite.plus finite.none finite.term finite.put
scaling = refl

shift : finite.is_none terms (left (plane_field 0ᴾ (constant (pos 1)))) ≡ false
unfolding applied_prolongation prolonged_coefficient total_derivative derivation coordinate number partial reduced_by ◌*ᴾ◌ finite.of finite.plus finite.none finite.term finite.put
shift = refl

pub growth_invariant : GrowthInvariant
growth_invariant = (
  alone (plane_field (constant (pos 1)) 0ᴾ) along_x,
  alone (plane_field 0ᴾ (variable 1)) scaling,
  λ h. absurd (true≢false (sym (finite_laws.is_none_none terms) ∙ sym (ap (finite.is_none terms) (h 0 (first_order_equation (variable 1)) (omega arith))) ∙ shift)),
)

-- ---- the ideal of 2*u_x = u and 2*u_xx = u
halves_reduced_list : (reduced halves halves_difference).list ≡ []
unfolding reduced_by ◌*ᴾ◌ finite.of finite.plus finite.none finite.term finite.put
halves_reduced_list = refl

-- the value where u_x is 1 and all else is 0
abbrev at_one : ℕ → ℤ
at_one w = cond (eqb w 2) (pos 1) (pos 0)

abbrev at_point : WholePolynomial → ℤ
at_point = value_in integer_algebra at_one

halves_at_point : (at_point halves_difference ≡ pos 1) × (at_point (difference (twice_is_u 2)) ≡ pos 2) × (at_point (difference (twice_is_u 3)) ≡ pos 0)
unfolding value_in ◌*ᴾ◌ finite.of finite.plus finite.none finite.term finite.put
halves_at_point = (refl, refl, refl)

multiple_at_point : (p d Q : WholePolynomial) (n z : ℤ) → at_point d ≡ n → at_point Q ≡ z → at_point (p *ᴾ d +ᴾ Q) ≡ at_point p *ℤ n +ℤ z
multiple_at_point p d Q n z e f = value_in-plus integer_algebra at_one (p *ᴾ d) Q ∙ ap₂ ◌+ℤ◌ (value_in-times integer_algebra at_one p d ∙ ap (λ y. at_point p *ℤ y) e) f

one_is_odd : (x y : ℤ) → ¬ (pos 1 ≡ x *ℤ pos 2 +ℤ (y *ℤ pos 0 +ℤ pos 0))
one_is_odd x y e = absurd (omega (arith, ints))

halves_apart : ¬ (LiesInIdeal halves halves_difference)
halves_apart h =
    let second : at_point h.1 ≡ at_point (h.2).0 *ℤ pos 0 +ℤ pos 0 = ap at_point (h.2).3 ∙ multiple_at_point (h.2).0 _ (h.2).1 (pos 0) (pos 0) halves_at_point.2 (ap at_point (h.2).2 ∙ value_in-0ᴾ integer_algebra at_one) in
    one_is_odd (at_point h.0) (at_point (h.2).0) (sym halves_at_point.0 ∙ ap at_point h.3 ∙ multiple_at_point h.0 _ h.1 (pos 2) _ halves_at_point.1 second)

halves_first : (constant (pos 2) *ᴾ halves_difference).list ≡ (constant (pos 1) *ᴾ difference (twice_is_u 2) +ᴾ negᴾ (difference (twice_is_u 3))).list
unfolding ◌*ᴾ◌ finite.of finite.plus finite.none finite.term finite.put
halves_first = refl

halves_second : (negᴾ (difference (twice_is_u 3))).list ≡ (constant (negsuc 0) *ᴾ difference (twice_is_u 3) +ᴾ 0ᴾ).list
unfolding ◌*ᴾ◌ finite.of finite.plus finite.none finite.term finite.put
halves_second = refl

pub halves_reduced : HalvesReduced
unfolding finite.none finite.of
halves_reduced = (
  same _ _ halves_reduced_list,
  halves_apart,
  (constant (pos 1), negᴾ (difference (twice_is_u 3)), (constant (negsuc 0), 0ᴾ, refl, same _ _ halves_second), same _ _ halves_first),
)

-- ---- forms
pub symbolic_prolonged : SymbolicProlonged
unfolding symbolic_coefficient symbolic_total total_derivative derivation coordinate number partial ◌*ᴾ◌ finite.of finite.plus finite.none finite.term finite.put
symbolic_prolonged = refl

pub growth_determined : GrowthDetermined
unfolding symbolic_application symbolic_coefficient symbolic_total total_derivative derivation coordinate number partial reduced_by part restrict ◌*ᴾ◌ finite.of finite.plus finite.none finite.term finite.put
growth_determined = refl

pub plane_unknowns : PlaneUnknowns
plane_unknowns = (refl, refl)

-- ---- norms
pub norm_bounds : NormBounds
unfolding symbolic_coefficient symbolic_total total_derivative derivation coordinate number partial ◌*ᴾ◌ finite.of finite.plus finite.none finite.term finite.put
norm_bounds = (refl, refl, refl, refl, refl, refl)
