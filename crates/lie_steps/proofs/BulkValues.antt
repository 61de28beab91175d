-- The worked values of what the actions of the rules make.
use Rattle.std.specs.Prelude.{◌≡◌, List, [], ◌∷◌}
use Rattle.std.proofs.Common.{refl, sym, ap, subst, arith, inl, inr}
use Rattle.std.specs.List.{Contains}
use Rattle.lie_math.specs.CommonDivisors.{common_divisor}
use Rattle.lie_math.specs.FiniteSum.{of, none, plus, put, term}
use Rattle.lie_math.specs.FiniteSumLaws.{same_list}
use Rattle.lie_math.specs.Limits.{absolute}
use Rattle.lie_math.specs.LinearForm.{LinearForm, forms, unknown_form}
use Rattle.lie_math.specs.PartialDerivative.{partial}
use Rattle.lie_math.specs.Polynomial.{◌*ᴾ◌}
use Rattle.lie_math.specs.Powers.{power_coefficient}
use Rattle.lie_systems.specs.Normalised.{each_exponent}
use Rattle.lie_systems.specs.Works.{Made, AForm, Triples, AnUnknown}
use Rattle.lie_steps.specs.Derivatives.{derivative}
use Rattle.lie_steps.specs.NormalForm.{quotient}
use Rattle.lie_steps.specs.Replacement.{put_in}
use Rattle.lie_steps.specs.WorkedBulks.{SplitMakesParts, BulksOfDerivatives, BulksOfReplacement, GeneralWithoutUnknown, BulksOfParts, BulksOfIntegral, BulksOfIsolation, BulksOfCross, BulksOfReduction}
use Rattle.lie_steps.specs.WorkedBulks.{CrossTriesCombination, ForeignTriesDerivative, StepOfConstants, combination_bulk}
use Rattle.lie_steps.specs.WorkedRules.{by_x, by_y, split_system, foreign_system}
use Rattle.lie_steps.specs.WorkedValues.{constant_equation, constant_fields}
use Rattle.lie_steps.specs.Absent.{AbsentMakes, absent_sum, absent_unknowns}
use Rattle.lie_steps.specs.Equations.{equation}
use Rattle.lie_steps.specs.Replacement.{fresh_made, replacement_made}
use Rattle.lie_steps.specs.Rules.{Absent, SearchMakes, Isolate, Foreign, Cross, Zero, Lowest, Split, Substitute, Integrate, Reduce}
use Rattle.lie_steps.specs.Runs.{start}
use Rattle.lie_steps.specs.Split.{all_powers}
use Rattle.lie_steps.specs.Bulks.{absolute_form, derivative_bulk}
use Rattle.lie_steps.proofs.RuleValues.{f, split_value, foreign_lead, not_by_own, below_one, first_lead, second_lead}
use Rattle.lie_steps.proofs.WorkedValues.{constants_absent, constants_next}
use Rattle.lie_systems.specs.Triples.{sum_of_triples}
use Rattle.lie_systems.specs.WorkedValues.{triple}
use Rattle.std.specs.Prelude.{pos, map, ◌++◌}
use Rattle.lie_steps.specs.Foreign.{IsForeignBy}

-- a form is told by its list
same_made : (E G : LinearForm) → E.list ≡ G.list → AForm E ≡ AForm G
same_made E G e = ap AForm (same_list forms E G e)

cons : {X : Type 0} (x y : X) (xs ys : List X) → x ≡ y → xs ≡ ys → x ∷ xs ≡ y ∷ ys
cons x y xs ys e h = λ i. e i ∷ h i

pub bulks_of_derivatives : BulksOfDerivatives
unfolding of none plus put term partial derivative absolute
bulks_of_derivatives = cons _ _ _ _ (same_made _ _ refl) (cons _ _ _ _ (same_made _ _ refl) refl)

pub bulks_of_replacement : BulksOfReplacement
unfolding of none plus put term partial derivative put_in ◌*ᴾ◌
bulks_of_replacement = cons _ _ _ _ (same_made _ _ refl) (cons _ _ _ _ (same_made _ _ refl) (cons _ _ _ _ (same_made _ _ refl) refl))

pub general_without_unknown : GeneralWithoutUnknown
unfolding of none plus put term
general_without_unknown = (refl, refl)

pub bulks_of_parts : BulksOfParts
unfolding of none plus put term power_coefficient each_exponent
bulks_of_parts = cons _ _ _ _ (same_list forms _ _ refl) (cons _ _ _ _ (same_list forms _ _ refl) refl)

pub bulks_of_integral : BulksOfIntegral
unfolding of none plus put term partial derivative put_in ◌*ᴾ◌
bulks_of_integral = cons _ _ _ _ refl (cons _ _ _ _ (same_made _ _ refl) (cons _ _ _ _ refl (cons _ _ _ _ (same_made _ _ refl) refl)))

pub bulks_of_isolation : BulksOfIsolation
unfolding of none plus put term partial derivative
bulks_of_isolation = cons _ _ _ _ (same_made _ _ refl) (cons _ _ _ _ (same_made _ _ refl) refl)

pub bulks_of_cross : BulksOfCross
unfolding of none plus put term partial derivative ◌*ᴾ◌ quotient common_divisor each_exponent absolute
bulks_of_cross = cons _ _ _ _ (same_made _ _ refl) (cons _ _ _ _ (same_made _ _ refl) (cons _ _ _ _ (same_made _ _ refl) refl))

pub bulks_of_reduction : BulksOfReduction
unfolding of none plus put term partial derivative ◌*ᴾ◌ quotient common_divisor each_exponent absolute
bulks_of_reduction = cons _ _ _ _ (same_made _ _ refl) (cons _ _ _ _ (same_made _ _ refl) refl)

-- ---- tests and steps
split_parts : all_powers 1 (absolute_form (equation split_system 0)) ≡ sum_of_triples (triple (pos 1) ((2, 1) ∷ []) 1 [] ∷ []) ∷ sum_of_triples (triple (pos 1) [] 1 by_x ∷ []) ∷ []
unfolding of none plus put term power_coefficient each_exponent
split_parts = cons _ _ _ _ (same_list forms _ _ refl) (cons _ _ _ _ (same_list forms _ _ refl) refl)

pub split_makes_parts : SplitMakesParts
split_makes_parts = (
  (1, split_value.0, subst (λ Es. Contains (map (λ P. AForm P) Es) (AForm (sum_of_triples (triple (pos 1) ((2, 1) ∷ []) 1 [] ∷ [])))) (sym split_parts) (0, omega arith, refl)),
  (1, split_value.0, subst (λ Es. Contains (map (λ P. AForm P) Es) (AForm (sum_of_triples (triple (pos 1) [] 1 by_x ∷ [])))) (sym split_parts) (1, omega arith, refl)),
)

pub cross_tries_combination : CrossTriesCombination
cross_tries_combination = (
  f 1 by_x,
  f 1 by_y,
  first_lead,
  second_lead,
  refl,
  inl (subst (λ bs. Contains bs (AForm combination_bulk)) (sym bulks_of_cross) (2, omega arith, refl)),
)

foreign_bulk : AForm (sum_of_triples (triple (pos 1) [] 2 by_y ∷ [])) ≡ AForm (derivative_bulk foreign_system.unknowns 1 (equation foreign_system 0))
unfolding of none plus put term partial derivative
foreign_bulk = same_made _ _ refl

pub foreign_tries_derivative : ForeignTriesDerivative
foreign_tries_derivative = (
  1,
  record { lead = f 1 by_x; leads = foreign_lead; free = refl; before = λ w M lt h. not_by_own M (subst (λ w. IsForeignBy foreign_system 0 w M) (below_one w lt) h) },
  inl foreign_bulk,
)

-- ---- the step from f1_x = 0
constants_made : fresh_made (absent_unknowns constant_equation (record { number = 1; variables = 0 ∷ [] }) (f 1 by_x)) ++ replacement_made constant_equation 0 1 (absent_sum constant_equation (f 1 by_x)) 1 (absent_unknowns constant_equation (record { number = 1; variables = 0 ∷ [] }) (f 1 by_x)) ≡ AnUnknown 2 ∷ AForm (unknown_form 2) ∷ Triples 1 ∷ []
unfolding of none plus put term partial derivative put_in ◌*ᴾ◌
constants_made = cons _ _ _ _ refl (cons _ _ _ _ (same_made _ _ refl) refl)

absent_makes_this : (b : Made) → Contains (AnUnknown 2 ∷ AForm (unknown_form 2) ∷ Triples 1 ∷ []) b → AbsentMakes constant_equation 0 b
absent_makes_this b c = (record { number = 1; variables = 0 ∷ [] }, f 1 by_x, constants_absent, subst (λ bs. Contains bs b) (sym constants_made) c)

no_search : (b : Made) → ¬ (SearchMakes constant_equation b)
no_search b (Isolate, p, t, h) = h Absent (record { first = 0; second = 0 }) (inl (omega arith)) (refl, (record { number = 1; variables = 0 ∷ [] }, f 1 by_x, constants_absent))
no_search b (Foreign, p, t, h) = h Absent (record { first = 0; second = 0 }) (inl (omega arith)) (refl, (record { number = 1; variables = 0 ∷ [] }, f 1 by_x, constants_absent))
no_search b (Cross, p, t, h) = h Absent (record { first = 0; second = 0 }) (inl (omega arith)) (refl, (record { number = 1; variables = 0 ∷ [] }, f 1 by_x, constants_absent))
no_search b (Zero, p, t, h) = t
no_search b (Lowest, p, t, h) = t
no_search b (Absent, p, t, h) = t
no_search b (Split, p, t, h) = t
no_search b (Substitute, p, t, h) = t
no_search b (Integrate, p, t, h) = t
no_search b (Reduce, p, t, h) = t

pub step_of_constants : StepOfConstants
unfolding of none plus put term constants_next
step_of_constants = record {
  search = no_search;
  unknown = inr (constant_fields, constants_next, inl (absent_makes_this (AnUnknown 2) (0, omega arith, refl)));
  general = inr (constant_fields, constants_next, inl (absent_makes_this (AForm (unknown_form 2)) (1, omega arith, refl)));
  triples = inr (constant_fields, constants_next, inr refl);
  run = (constant_equation, start, inr (constant_fields, constants_next, inl (absent_makes_this (AnUnknown 2) (0, omega arith, refl))));
}
