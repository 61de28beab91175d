-- The worked values, by computing, and what the system f_x = 0 gives.
use Rattle.std.specs.Prelude.{◌≡◌, ℕ, zero, suc, ◌≤◌, Bool, true, false, cond, [], ◌∷◌, get_or, pos}
use Rattle.std.proofs.Common.{refl, sym, ap, subst, ◌∙◌, arith}
use Rattle.lie_math.specs.FiniteSum as finite
use Rattle.lie_math.specs.Monomial.{exponent, power_of}
use Rattle.lie_math.specs.FiniteSumLaws.{same_list}
use Rattle.lie_math.specs.Polynomial.{WholePolynomial, terms, constant, variable, 0ᴾ, ◌*ᴾ◌}
use Rattle.lie_math.specs.PolynomialRing.{one-*ᴾ}
use Rattle.lie_math.specs.PartialDerivative.{partial}
use Rattle.lie_math.specs.Powers.{power_coefficient}
use Rattle.lie_math.proofs.PartialDerivation.{partial_is_derivation, partial-constant_times, partial-itself}
use Rattle.lie_math.proofs.Weighing.{torsion}
use Rattle.lie_math.proofs.Integer.{not_zero}
use Rattle.lie_math.proofs.Variables.{in-constant}
use Rattle.lie_math.proofs.LinearForm.{apply_none, apply_term, apply_unknown}
use Rattle.lie_math.proofs.RationalPolynomial.{same_rational-multiple, same_rational-swapped}
use Rattle.lie_math.specs.LinearSystem.{Gives, has}
use Rattle.lie_math.specs.LinearForm.{apply, no_form}
use Rattle.lie_math.specs.WorkedValues.{SquareOfSum, OrderOfTerms, DerivativeOfSum, CoefficientOfX, HalfOfX, constant_system, ConstantFieldsGiven, DegreeInEach, ExponentsUpTo65535AreLow}
use Rattle.lie_math.proofs.Limits.{one_apart}
use Rattle.lie_math.proofs.Monomial.{exponent-power_of}
use Rattle.std.specs.Ordering.{eq_by_cmp, nat_cmp}

pub square_of_sum : SquareOfSum
unfolding ◌*ᴾ◌ finite.of finite.plus finite.none finite.term
square_of_sum = same_list terms _ _ refl

pub order_of_terms : OrderOfTerms
unfolding finite.of
order_of_terms = refl

pub derivative_of_sum : DerivativeOfSum
unfolding partial finite.of finite.plus finite.none finite.term finite.put
derivative_of_sum = same_list terms _ _ refl

pub coefficient_of_x : CoefficientOfX
unfolding power_coefficient finite.of finite.plus finite.none finite.term finite.put
coefficient_of_x = same_list terms _ _ refl

pub half_of_x : HalfOfX
half_of_x = same_rational-swapped (record { over = 4; whole = constant (pos 2) *ᴾ variable 0 }) (record { over = 2; whole = variable 0 }) (same_rational-multiple 2 (record { over = 2; whole = variable 0 }))

given : Gives constant_system (record { denominator = 2; parts = constant (pos 3) ∷ [] })
given = record {
  solution = three;
  solves = record {
    own = (in-constant (has (record { number = 1; variables = 0 ∷ [] })) (pos 3), tt);
    solves = (apply_term three (record { unknown = 1; counts = 1 ∷ [] }) (constant (pos 1)) ∙ one-*ᴾ (partial 0 (constant (pos 3))) ∙ (partial_is_derivation 0).whole (pos 3), tt);
  };
  multiple = 2;
  positive = omega arith;
  same = at;
}
  where
    three : ℕ → WholePolynomial
    three n = constant (pos 3)

    at : (s : ℕ) → constant (pos 2) *ᴾ get_or (constant (pos 3) ∷ []) s 0ᴾ ≡ constant (pos 2) *ᴾ apply three (get_or constant_system.general s no_form)
    at zero = ap (λ p. constant (pos 2) *ᴾ p) (sym (apply_unknown three 1))
    at (suc s) = ap (λ p. constant (pos 2) *ᴾ p) (sym (apply_none three))

not_given : ¬ (Gives constant_system (record { denominator = 1; parts = variable 0 ∷ [] }))
not_given g =
    let F : ℕ → WholePolynomial = g.solution in
    let M : WholePolynomial = constant (pos g.multiple) in
    let value : F 1 ≡ M *ᴾ variable 0 = sym (one-*ᴾ (F 1)) ∙ ap (λ p. constant (pos 1) *ᴾ p) (sym (apply_unknown F 1)) ∙ sym (g.same 0) in
    let solved : partial 0 (F 1) ≡ 0ᴾ = sym (one-*ᴾ (partial 0 (F 1))) ∙ sym (apply_term F (record { unknown = 1; counts = 1 ∷ [] }) (constant (pos 1))) ∙ (g.solves.solves).0 in
    one_apart (torsion (pos g.multiple) (not_zero g.multiple g.positive) (constant (pos 1)) (
    ap (λ p. M *ᴾ p) (sym (partial-itself 0)) ∙ sym (partial-constant_times 0 (pos g.multiple) (variable 0)) ∙ ap (partial 0) (sym value) ∙ solved))

pub constant_fields_given : ConstantFieldsGiven
constant_fields_given = (given, not_given)

pub degree_in_each : DegreeInEach
unfolding finite.of
degree_in_each = refl

pub exponents_up_to_65535_are_low : ExponentsUpTo65535AreLow
exponents_up_to_65535_are_low = (λ v. subst (λ e. e ≤ 65535) (sym (exponent-power_of 0 65535 v)) (low (eq_by_cmp nat_cmp v 0)), high)
  where
    low : (t : Bool) → cond t 65535 0 ≤ 65535
    low true = omega arith
    low false = omega arith

    high : ¬ ((v : ℕ) → exponent (power_of 0 65536) v ≤ 65535)
    high h = let k : 65536 ≤ 65535 = subst (λ e. e ≤ 65535) (exponent-power_of 0 65536 0) (h 0) in omega arith
