-- The worked values, by computing.
use Rattle.std.specs.Prelude.{◌≡◌, ℕ, zero, suc, ◌⊎◌, ltb, true, List, [], ◌∷◌, ℤ, pos, negsuc, ◌<◌}
use Rattle.std.proofs.Common.{refl, sym, subst, arith, inl, inr}
use Rattle.std.specs.List.{AllByRecursion as Every, Contains}
use Rattle.std.specs.List.Sorted.{IsStrictlySortedBy}
use Rattle.lie_math.specs.FiniteSum as finite
use Rattle.lie_math.specs.FiniteSumLaws.{same_list}
use Rattle.lie_math.specs.Polynomial.{WholePolynomial, terms, constant}
use Rattle.lie_math.specs.Monomial.{powers}
use Rattle.lie_math.specs.Variables.{IsIn}
use Rattle.lie_math.specs.Counts.{Derivative, trimmed}
use Rattle.lie_math.specs.LinearForm.{forms}
use Rattle.lie_math.specs.LinearSystem.{Unknown, has}
use Rattle.lie_math.proofs.Variables.{in-constant}
use Rattle.lie_systems.specs.EquationOrder.{equation_cmp}
use Rattle.lie_math.specs.CommonDivisors.{common_divisor}
use Rattle.lie_systems.specs.Normalised.{primitive, each_exponent, IsNormalised}
use Rattle.lie_systems.specs.ValidSystems.{IsOwned, IsFormOf, HasVariablesBelow, count}
use Rattle.lie_systems.specs.WorkedValues.{TriplesOfSum, DividedEquation, DerivativeAlone, LineSystemIsValid, NextNumberIsFree, VariablesAreOfTheSpace, OrdersUpTo64AreWithin, TriplesOfLineSystem, LimitsAreThese, line_equations, line_system, derivative_of_order, triple}
use Rattle.lie_math.specs.Counts.{order}
use Rattle.std.specs.List.{Any}
use Rattle.lie_systems.specs.Triples.{Triple, triples}

pub triples_of_sum : TriplesOfSum
unfolding finite.of finite.plus finite.none finite.term
triples_of_sum = refl

pub divided_equation : DividedEquation
unfolding primitive common_divisor each_exponent finite.of finite.plus finite.none finite.term
divided_equation = refl

pub derivative_alone : DerivativeAlone
unfolding primitive common_divisor each_exponent finite.of finite.plus finite.none finite.term
derivative_alone = same_list forms _ _ refl

in_order : IsStrictlySortedBy equation_cmp line_equations
unfolding IsStrictlySortedBy finite.of finite.plus finite.none finite.term
in_order = ((refl, (refl, (refl, tt))), ((refl, (refl, tt)), ((refl, tt), (tt, tt))))

-- ---- the system of the equation of straight lines is valid
abbrev us : List Unknown
us = line_system.unknowns

-- a derivative by x and y alone of the unknowns 1 and 2
record IsPlain (d : Derivative) : Type 0 where
  first : (d.unknown ≡ 1) ⊎ (d.unknown ≡ 2)
  none_after : (v : ℕ) → count d (suc (suc v)) ≡ 0
  short : trimmed d.counts ≡ d.counts

owned : (d : Derivative) → IsPlain d → IsOwned us d
owned d p = record { unknown = record { number = d.unknown; variables = 0 ∷ 1 ∷ [] }; listed = listed p.first; number = refl; own = own; short = p.short }
  where
    listed : ((d.unknown ≡ 1) ⊎ (d.unknown ≡ 2)) → Contains us (record { number = d.unknown; variables = 0 ∷ 1 ∷ [] })
    listed (inl e) = (0, omega arith, λ i. record { number = sym e i; variables = 0 ∷ 1 ∷ [] })
    listed (inr e) = (1, omega arith, λ i. record { number = sym e i; variables = 0 ∷ 1 ∷ [] })

    own : (v : ℕ) → ¬ (count d v ≡ 0) → has (record { number = d.unknown; variables = 0 ∷ 1 ∷ [] }) v ≡ true
    own zero n = refl
    own (suc zero) n = refl
    own (suc (suc v)) n = absurd (n (p.none_after v))

constant_in : (a : WholePolynomial) (c : ℤ) → a ≡ constant c → IsIn (λ v. ltb v 2) a
constant_in a c e = subst (IsIn (λ v. ltb v 2)) (sym e) (in-constant (λ v. ltb v 2) c)

in_equations : Every (IsFormOf 2 us) line_equations
unfolding finite.of finite.plus finite.none finite.term
in_equations =
    let one : (d : Derivative) → IsPlain d → (a : WholePolynomial) (c : ℤ) → a ≡ constant c → IsOwned us d × IsIn (λ v. ltb v 2) a = λ d p a c e. (owned d p, constant_in a c e) in (
      (one (record { unknown = 1; counts = 0 ∷ 2 ∷ [] }) (record { first = inl refl; none_after = λ v. refl; short = refl }) _ (pos 1) (same_list terms _ _ refl), tt),
      (
        (one (record { unknown = 2; counts = 2 ∷ [] }) (record { first = inr refl; none_after = λ v. refl; short = refl }) _ (pos 1) (same_list terms _ _ refl), tt),
        (
          (
            one (record { unknown = 2; counts = 0 ∷ 2 ∷ [] }) (record { first = inr refl; none_after = λ v. refl; short = refl }) _ (pos 1) (same_list terms _ _ refl),
            (one (record { unknown = 1; counts = 1 ∷ 1 ∷ [] }) (record { first = inl refl; none_after = λ v. refl; short = refl }) _ (negsuc 1) (same_list terms _ _ refl), tt),
          ),
          (
            (
              one (record { unknown = 2; counts = 1 ∷ 1 ∷ [] }) (record { first = inr refl; none_after = λ v. refl; short = refl }) _ (pos 2) (same_list terms _ _ refl),
              (one (record { unknown = 1; counts = 2 ∷ [] }) (record { first = inl refl; none_after = λ v. refl; short = refl }) _ (negsuc 0) (same_list terms _ _ refl), tt),
            ),
            tt,
          ),
        ),
      ),
    )

all_normalised : Every IsNormalised line_equations
unfolding common_divisor each_exponent finite.of finite.plus finite.none finite.term
all_normalised = (
  inl (record { unknown = 1; counts = 0 ∷ 2 ∷ [] }, same_list forms _ _ refl),
  (
    inl (record { unknown = 2; counts = 2 ∷ [] }, same_list forms _ _ refl),
    (
      inr (omega arith, record { number = refl; monomial = same_list powers _ _ refl; positive = (0, refl) }),
      (inr (omega arith, record { number = refl; monomial = same_list powers _ _ refl; positive = (1, refl) }), tt),
    ),
  ),
)

in_general : Every (IsFormOf 2 us) line_system.general
unfolding finite.of finite.plus finite.none finite.term
in_general = (
  ((owned (record { unknown = 1; counts = [] }) (record { first = inl refl; none_after = λ v. refl; short = refl }), constant_in _ (pos 1) refl), tt),
  (((owned (record { unknown = 2; counts = [] }) (record { first = inr refl; none_after = λ v. refl; short = refl }), constant_in _ (pos 1) refl), tt), tt),
)

rising_variables : HasVariablesBelow 2 (record { number = 1; variables = 0 ∷ 1 ∷ [] })
unfolding IsStrictlySortedBy
rising_variables = (((refl, tt), (tt, tt)), (omega arith, (omega arith, tt)))

pub line_system_is_valid : LineSystemIsValid
unfolding IsStrictlySortedBy
line_system_is_valid = record {
  rising = ((refl, tt), (tt, tt));
  below = (omega arith, (omega arith, tt));
  variables = (rising_variables, (rising_variables, tt));
  equations = in_equations;
  normalised = all_normalised;
  ordered = in_order;
  general = in_general;
  components = refl;
}

pub next_number_is_free : NextNumberIsFree
next_number_is_free h = let k : 2 < 2 = h.below.1.0 in omega arith

pub variables_are_of_the_space : VariablesAreOfTheSpace
variables_are_of_the_space h = let k : 2 < 2 = h.variables.1.0.1.1.0 in omega arith

listed_order : (n : ℕ) → triples (derivative_of_order n) ≡ triple (pos 1) [] 1 (n ∷ []) ∷ []
unfolding finite.of finite.plus finite.none finite.term
listed_order n = refl

pub orders_up_to_64_are_within : OrdersUpTo64AreWithin
orders_up_to_64_are_within = (λ h. none (subst (Any (λ (t : Triple). 64 < order t.0.counts)) (listed_order 64) h), subst (Any (λ (t : Triple). 64 < order t.0.counts)) (sym (listed_order 65)) (0, triple (pos 1) [] 1 (65 ∷ []), omega arith, refl, omega arith))
  where
    none : Any (λ (t : Triple). 64 < order t.0.counts) (triple (pos 1) [] 1 (64 ∷ []) ∷ []) → ⊥
    none (zero, t, lt, is, past) = let k : 64 < order (64 ∷ []) = subst (λ (t : Triple). 64 < order t.0.counts) (sym is) past in omega arith
    none (suc i, t, lt, is, past) = absurd (omega arith)

pub triples_of_line_system : TriplesOfLineSystem
unfolding finite.of finite.none finite.plus finite.term finite.put
triples_of_line_system = refl

pub limits_are_these : LimitsAreThese
limits_are_these = record {
  number = (omega arith, omega arith);
  triples = (omega arith, omega arith);
  unknown = (omega arith, omega arith);
  basis = ((omega arith, omega arith), inl (omega arith), inr (omega arith));
}
