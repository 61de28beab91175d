-- The worked values.
use Rattle.std.specs.Prelude.{◌≡◌, ℕ, ◌<◌, List, [], ◌∷◌, length, get_or}
use Rattle.std.proofs.Common.{refl, sym, ap, subst, ◌∙◌, arith, inl, inr}
use Rattle.std.specs.List.Sorted.{IsStrictlySortedBy}
use Rattle.lie_math.specs.FiniteSum.{of, none, plus, put, term}
use Rattle.lie_math.specs.FiniteSumLaws.{same_list}
use Rattle.lie_math.specs.Limits.{absolute}
use Rattle.lie_math.specs.LinearForm.{forms, unknown_form}
use Rattle.lie_math.specs.LinearSystem.{LinearSystem}
use Rattle.lie_math.specs.PartialDerivative.{partial}
use Rattle.lie_math.specs.Polynomial.{◌*ᴾ◌}
use Rattle.lie_math.specs.CommonDivisors.{common_divisor}
use Rattle.lie_systems.specs.Normalised.{each_exponent, derivative_alone}
use Rattle.lie_systems.specs.Triples.{triples}
use Rattle.lie_steps.specs.Derivatives.{derivative}
use Rattle.lie_steps.specs.Equations.{equation}
use Rattle.lie_steps.specs.NormalForm.{quotient}
use Rattle.lie_steps.specs.Replacement.{put_in}
use Rattle.lie_steps.specs.Absent.{IsAbsentAt, absented}
use Rattle.lie_steps.specs.Rules.{Rule, Zero, Lowest, Absent, Split, Substitute, Integrate, Isolate, Reduce, Foreign, Cross, rank, Place, Applies, IsBefore, Next}
use Rattle.lie_steps.specs.Runs.{start, onward}
use Rattle.lie_steps.specs.Tidying.{IsTidySystem}
use Rattle.lie_steps.specs.WorkedValues.{LowPowersOfCounts, DerivativeOfOwn, IntegralOfForm, CombinedForms, BulkOfCombination, constant_equation, constant_fields, RunOfConstants}
use Rattle.lie_steps.proofs.ZeroRule.{same_alone}
use Rattle.lie_steps.proofs.Stepping.{solved_is_stuck}
use Rattle.lie_math.proofs.ContainedElements.{contains_nothing, contains_first}
use Rattle.lie_math.specs.Counts.{Derivative}

pub low_powers_of_counts : LowPowersOfCounts
low_powers_of_counts = refl

pub derivative_of_own : DerivativeOfOwn
unfolding of none plus term put partial derivative
derivative_of_own = same_list forms _ _ refl

pub integral_of_form : IntegralOfForm
unfolding of none plus term
integral_of_form = same_list forms _ _ refl

pub combined_forms : CombinedForms
unfolding of none plus term ◌*ᴾ◌ quotient common_divisor each_exponent
combined_forms = same_list forms _ _ refl

pub bulk_of_combination : BulkOfCombination
unfolding of none plus term ◌*ᴾ◌ quotient common_divisor each_exponent absolute
bulk_of_combination = same_list forms _ _ refl

-- ---- the run
abbrev step_made : LinearSystem
step_made = absented constant_equation 0 (record { number = 1; variables = 0 ∷ [] }) (record { unknown = 1; counts = 1 ∷ [] })

pub general_is : constant_fields.general ≡ step_made.general
unfolding of none plus put term partial derivative put_in ◌*ᴾ◌
general_is = ap (λ E. E ∷ []) (same_list forms _ _ refl)

is_alone : (constant_equation.equations ≡ derivative_alone (record { unknown = 1; counts = 1 ∷ [] }) ∷ [])
unfolding of none plus term
is_alone = ap (λ E. E ∷ []) (same_list forms _ _ refl)

pub tidied : IsTidySystem step_made constant_fields
unfolding IsStrictlySortedBy
tidied = record {
  unknowns = refl;
  equations = record { ordered = tt; made = λ N. (λ c. absurd (contains_nothing N c), λ c. c.0) };
  general = general_is;
  next = refl;
}

one_triple : length (triples (equation constant_equation 0)) ≡ 1
unfolding of none plus term
one_triple = refl

at_first : (i : ℕ) → i < 1 → i ≡ 0
at_first i h = omega arith

not_zero_rule : (f : ℕ) → ¬ (equation constant_equation 0 ≡ unknown_form f)
not_zero_rule f e = absurd (let z : 1 ≡ 0 = ap (λ (J : List ℕ). length J) (ap (λ (d : Derivative). d.counts) (same_alone (record { unknown = 1; counts = 1 ∷ [] }) (record { unknown = f; counts = [] }) (sym (ap (λ Es. get_or Es 0 (none forms)) is_alone) ∙ e))) in omega arith)

later : (r : Rule) (p : Place) → 3 < rank r → IsBefore r p Absent (record { first = 0; second = 0 }) → ⊥
later r p h (inl b) = absurd (omega arith)
later r p h (inr k) = let e : rank r ≡ 3 = ap rank k.0 in absurd (omega arith)

pub none_before : (r : Rule) (p : Place) → IsBefore r p Absent (record { first = 0; second = 0 }) → ¬ (Applies r constant_equation p)
none_before Zero p b (s, (f, z)) = not_zero_rule f (ap (equation constant_equation) (sym (at_first p.first z.place)) ∙ z.is)
none_before Lowest p b (s, (d, z)) = absurd (let n : 1 < length (triples (equation constant_equation 0)) = subst (λ i. 1 < length (triples (equation constant_equation i))) (at_first p.first z.place) z.several in let e = one_triple in omega arith)
none_before Absent p (inl b) a = absurd (omega arith)
none_before Absent p (inr (e, inl b)) a = absurd (omega arith)
none_before Absent p (inr (e, inr b)) a = absurd (let lt = b.1 in omega arith)
none_before Split p b a = later Split p (omega arith) b
none_before Substitute p b a = later Substitute p (omega arith) b
none_before Integrate p b a = later Integrate p (omega arith) b
none_before Isolate p b a = later Isolate p (omega arith) b
none_before Reduce p b a = later Reduce p (omega arith) b
none_before Foreign p b a = later Foreign p (omega arith) b
none_before Cross p b a = later Cross p (omega arith) b

pub constants_absent : IsAbsentAt constant_equation 0 (record { number = 1; variables = 0 ∷ [] }) (record { unknown = 1; counts = 1 ∷ [] })
constants_absent = record { place = omega arith; listed = contains_first _ []; number = refl; derived = omega arith; is = ap (λ Es. get_or Es 0 (none forms)) is_alone }

unfoldable pub constants_next : Next constant_equation constant_fields
constants_next = record {
  rule = Absent;
  place = record { first = 0; second = 0 };
  applies = (refl, (record { number = 1; variables = 0 ∷ [] }, record { unknown = 1; counts = 1 ∷ [] }, constants_absent));
  first = none_before;
  after = (record { number = 1; variables = 0 ∷ [] }, record { unknown = 1; counts = 1 ∷ [] }, constants_absent, tidied);
}

pub run_of_constants : RunOfConstants
run_of_constants = record { run = onward constants_next start; stuck = solved_is_stuck constant_fields refl }
