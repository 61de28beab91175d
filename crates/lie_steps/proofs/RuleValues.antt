-- The worked values of the rules.
use Rattle.std.specs.Prelude.{◌≡◌, ℕ, zero, suc, ◌<◌, ◌≤◌, ◌+◌, ◌⊎◌, Bool, true, false, cond, ◌||◌, List, [], ◌∷◌, ◌++◌, length, get_or, replicate, ℤ, pos, negsuc, unsigned_abs}
use Rattle.std.proofs.Common.{refl, sym, ap, subst, ◌∙◌, arith, inl, inr, true≢false}
use Rattle.std.specs.List.{Contains, AllByRecursion as Every}
use Rattle.std.specs.List.Sorted.{IsStrictlySortedBy}
use Rattle.lie_math.specs.CommonDivisors.{common_divisor}
use Rattle.lie_math.specs.Counts.{Derivative, order}
use Rattle.lie_math.specs.FiniteSum as finite
use Rattle.lie_math.specs.FiniteSum.{of, none, plus, put, term}
use Rattle.lie_math.specs.FiniteSumLaws.{same_list}
use Rattle.lie_math.specs.LinearForm.{LinearForm, forms, no_form, unknown_form}
use Rattle.lie_math.specs.LinearSystem.{LinearSystem}
use Rattle.lie_math.specs.Monomial.{exponent, powers}
use Rattle.lie_math.specs.PartialDerivative.{partial}
use Rattle.lie_math.specs.Polynomial.{WholePolynomial, terms, constant, ◌*ᴾ◌}
use Rattle.lie_math.specs.Variables.{FreeOf}
use Rattle.std.specs.Ordering.{eq_by_cmp, nat_cmp}
use Rattle.lie_math.proofs.FiniteSum.{key}
use Rattle.lie_math.proofs.CanonicalLists.{value_has}
use Rattle.lie_math.proofs.ContainedElements.{contained_cons, contains_first, contains_nothing}
use Rattle.lie_math.proofs.Decisions.{any_with}
use Rattle.lie_math.proofs.Limits.{one_apart}
use Rattle.lie_math.proofs.Tests.{other_number}
use Rattle.lie_math.proofs.Variables.{in-constant}
use Rattle.lie_systems.specs.Leads.{Occurs, IsLead}
use Rattle.lie_systems.specs.Normalised.{derivative_alone, each_exponent, primitive}
use Rattle.lie_systems.specs.Triples.{Triple, triples, sum_of_triples}
use Rattle.lie_systems.specs.WorkedValues.{triple, x}
use Rattle.lie_systems.proofs.Leads.{first_is_lead}
use Rattle.lie_steps.specs.Derivatives.{derivative}
use Rattle.lie_steps.specs.Equations.{equation, rest_of, depends, Lacks}
use Rattle.lie_steps.specs.Replacement.{put_in, divided_by}
use Rattle.lie_steps.specs.Split.{IsSplitBy}
use Rattle.lie_steps.specs.Substitute.{IsSolvedFor, IsSubstitutedAt, substituted}
use Rattle.lie_steps.specs.Integrate.{IsIntegrableFor, IsIntegrable, IsLeastDenominator, integrated}
use Rattle.lie_steps.specs.Tidying.{IsTidied}
use Rattle.lie_steps.specs.WorkedRules.{of_x, of_y, of_both, itself, by_x, by_y, by_x_twice, system, ZeroValue, NoZeroOfDerivative, LowestValue, NoLowestOfTwoUnknowns, NoLowestOfCoefficient, AbsentValue, NoAbsentOfUnknown, split_system, SplitValue, NoSplitByOwnVariable, substitute_system, SubstituteValue, NoSubstituteOfOthersVariable, IntegrateValue, NoIntegralOfOwnVariable, NoCrossOfTwoUnknowns}
use Rattle.lie_steps.specs.WorkedRules.{constant_unknown, FreedValue, high_equation, NoIsolationOfHighPower, reduced_system, ReduceValue, NoReductionByOtherVariable, foreign_system, ForeignValue, NoForeignByOwnVariable, IsolationOfHighestPower, crossed_system, CrossValue}
use Rattle.lie_steps.specs.Cross.{crossed}
use Rattle.lie_steps.specs.Isolate.{SomeDepends, free_degree}
use Rattle.lie_steps.specs.Foreign.{IsForeignBy}
use Rattle.lie_steps.specs.NormalForm.{quotient, IsNormalForm, IsLedBy, IsReducible, done}
use Rattle.lie_systems.specs.ValidSystems.{count}
use Rattle.lie_steps.proofs.NoneApplies.{solved_occurs}
use Rattle.lie_steps.proofs.NormalForms.{lead_unique}
use Rattle.lie_steps.proofs.ZeroRule.{list-derivative_alone, same_alone}
use Rattle.lie_systems.proofs.Unique.{primitive-normalised}
use Rattle.lie_steps.specs.Absent.{absented}
use Rattle.std.proofs.lemmas.Nat.Gcd.{dvd_refl}

-- ---- what occurs, and tidied lists
pub occurs_in : (P : Derivative → Type 0) (E : LinearForm) → Every (λ (e : Derivative × WholePolynomial). P e.0) E.list → (d : Derivative) → Occurs d E → P d
occurs_in P E h d o = value_has forms (λ e. P e.0) d E.list E.canonical h o

pub tidied_nothing : IsTidied [] []
unfolding IsStrictlySortedBy
tidied_nothing = record { ordered = tt; made = λ N. (λ c. absurd (contains_nothing N c), λ c. c.0) }

-- an equation that is its own normalised equation
pub tidied_alone : (E N : LinearForm) → primitive E ≡ N → ¬ (N ≡ no_form) → IsTidied (E ∷ []) (N ∷ [])
unfolding IsStrictlySortedBy
tidied_alone E N is some = record { ordered = (tt, tt); made = λ M. (λ c. forth M (contained_cons N [] M c), λ c. back M (contained_cons (primitive E) [] M c.0)) }
  where
    forth : (M : LinearForm) → (N ≡ M) ⊎ Contains [] M → Contains (primitive E ∷ []) M × ¬ (M ≡ no_form)
    forth M (inl e) = (subst (λ X. Contains (X ∷ []) M) (sym is) (subst (Contains (N ∷ [])) e (contains_first N [])), λ z. some (e ∙ z))
    forth M (inr k) = absurd (contains_nothing M k)

    back : (M : LinearForm) → (primitive E ≡ M) ⊎ Contains [] M → Contains (N ∷ []) M
    back M (inl e) = subst (Contains (N ∷ [])) (sym is ∙ e) (contains_first N [])
    back M (inr k) = absurd (contains_nothing M k)

abbrev pub f : ℕ → List ℕ → Derivative
f n J = record { unknown = n; counts = J }

pub not_same : (v w : ℕ) → ¬ (v ≡ w) → eq_by_cmp nat_cmp v w ≡ false
not_same v w n = go (eq_by_cmp nat_cmp v w) refl
  where
    go : (t : Bool) → eq_by_cmp nat_cmp v w ≡ t → t ≡ false
    go true e = absurd (n (key powers v w e))
    go false e = refl

pub below_one : (w : ℕ) → w < 1 → w ≡ 0
below_one w lt = omega arith

pub one_not_two : ◌≡◌ {A = ℕ} 1 2 → ⊥
one_not_two e = absurd (omega arith)

-- ---- zero
zero_general : sum_of_triples (triple (pos 2) [] 2 itself ∷ []) ≡ put_in (of_x 2 ∷ []) 1 no_form 1 (sum_of_triples (triple (pos 2) [] 2 itself ∷ triple (pos 1) [] 1 itself ∷ []))
unfolding of none plus put term partial derivative put_in ◌*ᴾ◌
zero_general = same_list forms _ _ refl

pub zero_value : ZeroValue
unfolding of none plus put term
zero_value = (1, record { place = omega arith; is = refl }, record { unknowns = refl; equations = tidied_nothing; general = ap (λ E. E ∷ []) zero_general; next = refl })

derivative_is_alone : sum_of_triples (triple (pos 1) [] 1 by_x ∷ []) ≡ derivative_alone (f 1 by_x)
unfolding of none plus put term
derivative_is_alone = same_list forms _ _ refl

pub no_zero_of_derivative : NoZeroOfDerivative
no_zero_of_derivative (g, z) = absurd (let e : 1 ≡ 0 = ap length (ap (λ (d : Derivative). d.counts) (same_alone (f 1 by_x) (f g itself) (sym derivative_is_alone ∙ z.is))) in omega arith)

-- ---- lowest
abbrev lowest_equation : LinearForm
lowest_equation = sum_of_triples (triple (pos 1) [] 1 by_x_twice ∷ triple (pos 1) [] 1 by_x ∷ [])

lowest_several : length (triples lowest_equation) ≡ 2
unfolding of none plus put term
lowest_several = refl

lowest_coefficient : finite.value forms lowest_equation (f 1 by_x) ≡ constant (pos 1)
unfolding of none plus put term
lowest_coefficient = same_list terms _ _ refl

none_listed : ◌≡◌ {A = List (Derivative × WholePolynomial)} no_form.list []
unfolding of none
none_listed = refl

lowest_tidied : IsTidied (derivative_alone (f 1 by_x) ∷ []) (sum_of_triples (triple (pos 1) [] 1 by_x ∷ []) ∷ [])
lowest_tidied =
    tidied_alone (derivative_alone (f 1 by_x)) (sum_of_triples (triple (pos 1) [] 1 by_x ∷ [])) (primitive-normalised (derivative_alone (f 1 by_x)) (inl (f 1 by_x, refl)) ∙ sym derivative_is_alone)
    (λ z. absurd (let e : 1 ≡ 0 = ap length (sym (list-derivative_alone (f 1 by_x)) ∙ ap (λ (E : LinearForm). E.list) (sym derivative_is_alone ∙ z) ∙ none_listed) in omega arith))

pub lowest_value : LowestValue
unfolding of none plus put term
lowest_value = (
  f 1 by_x,
  record {
    place = omega arith;
    several = let e = lowest_several in omega arith;
    constant = (same_list powers _ _ refl, (same_list powers _ _ refl, tt));
    occurs = λ z. one_apart (sym lowest_coefficient ∙ z);
    lowest = (record { unknown = refl; counts = twice }, (record { unknown = refl; counts = λ v. omega arith }, tt));
  },
  record { unknowns = refl; equations = lowest_tidied; general = refl; next = refl },
)
  where
    twice : (v : ℕ) → get_or by_x v 0 ≤ get_or by_x_twice v 0
    twice zero = omega arith
    twice (suc v) = omega arith

pub no_lowest_of_two_unknowns : NoLowestOfTwoUnknowns
unfolding of none plus put term
no_lowest_of_two_unknowns (d, h) = one_not_two (sym (h.lowest.0).unknown ∙ (h.lowest.1.0).unknown)

pub no_lowest_of_coefficient : NoLowestOfCoefficient
unfolding of none plus put term
no_lowest_of_coefficient (d, h) = absurd (let e : 1 ≡ 0 = ap (λ m. length m.list) h.constant.0 in omega arith)

-- ---- absent
abbrev absent_system : LinearSystem
absent_system = system (of_both 1 ∷ []) (sum_of_triples (triple (pos 1) [] 1 (1 ∷ 1 ∷ []) ∷ []) ∷ []) (sum_of_triples (triple (pos 2) [] 1 itself ∷ [])) 2

absent_general : sum_of_triples (triple (pos 2) [] 3 itself ∷ triple (pos 2) [] 2 itself ∷ []) ∷ [] ≡ (absented absent_system 0 (of_both 1) (f 1 (1 ∷ 1 ∷ []))).general
unfolding of none plus put term partial derivative put_in ◌*ᴾ◌
absent_general = ap (λ E. E ∷ []) (same_list forms _ _ refl)

pub absent_value : AbsentValue
unfolding of none plus put term
absent_value = (
  of_both 1,
  f 1 (1 ∷ 1 ∷ []),
  record { place = omega arith; listed = contains_first _ []; number = refl; derived = omega arith; is = same_list forms _ _ refl },
  record { unknowns = refl; equations = tidied_nothing; general = absent_general; next = refl },
)

pub no_absent_of_unknown : NoAbsentOfUnknown
no_absent_of_unknown (g, d, a) = absurd (let e : itself ≡ d.counts = ap (λ (e : Derivative). e.counts) (same_alone (f 1 itself) d a.is) in let z : 0 < order itself = subst (λ J. 0 < order J) (sym e) a.derived in omega arith)

-- ---- split
abbrev second_triple : Triple
second_triple = get_or (triples (equation split_system 0)) 1 (triple (pos 1) [] 1 itself)

pub by_second : IsSplitBy (of_x 1 ∷ []) (equation split_system 0) 1
unfolding of none plus put term
by_second = record { occurs = (1, second_triple, omega arith, refl, omega arith); independent = (refl, (refl, tt)) }

pub not_by_first : ¬ (IsSplitBy (of_x 1 ∷ []) (equation split_system 0) 0)
unfolding of none plus put term
not_by_first s = true≢false s.independent.0

pub split_value : SplitValue
split_value = (
  record { place = omega arith; splits = by_second; first = λ w lt s. not_by_first (subst (IsSplitBy (of_x 1 ∷ []) (equation split_system 0)) (below_one w lt) s) },
  λ s. s.first 1 (omega arith) by_second,
)

abbrev own_equation : LinearForm
own_equation = sum_of_triples (triple (pos 1) x 1 by_x ∷ triple (pos 1) [] 1 itself ∷ [])

own_cases : (v : ℕ) → IsSplitBy (of_x 1 ∷ []) own_equation v → ⊥
unfolding of none plus put term
own_cases zero s = true≢false s.independent.0
own_cases (suc v) s =
    let r = any_with (λ (t : Triple). 0 < exponent t.1 (suc v)) (λ t. exponent t.1 (suc v) ≡ 0) (triples own_equation) (ap (λ t. cond t 1 0 + 0) (not_same (suc v) 0 (λ e. absurd (omega arith))), (refl, tt)) s.occurs in
    absurd (let z = r.1 in let h = r.2 in omega arith)

pub no_split_by_own_variable : NoSplitByOwnVariable
no_split_by_own_variable (v, s) = own_cases v s.splits

-- ---- substitute
substitute_general : unknown_form 1 ∷ [] ≡ (substituted substitute_system 0 (f 2 itself) (pos 2)).general
unfolding of none plus put term partial derivative put_in divided_by ◌*ᴾ◌ common_divisor each_exponent
substitute_general = ap (λ E. E ∷ []) (same_list forms _ _ refl)

pub free_number : (a : ℤ) (v : ℕ) → FreeOf v (constant a)
free_number a v = in-constant (λ w. false) a v refl

substitute_solved : IsSolvedFor substitute_system.unknowns (equation substitute_system 0) (f 2 itself) (pos 2)
unfolding of none plus put term
substitute_solved = record {
  apart = λ e. absurd (let z : 2 ≡ 0 = ap unsigned_abs e in omega arith);
  leads = same_list terms _ _ refl;
  alone = refl;
  within = within;
}
  where
    within : (v : ℕ) → depends substitute_system.unknowns 2 v ≡ false → Lacks substitute_system.unknowns v (rest_of (f 2 itself) (equation substitute_system 0))
    within zero e = absurd (true≢false e)
    within (suc zero) e = absurd (true≢false e)
    within (suc (suc v)) e = ((subst (FreeOf (suc (suc v))) (same_list terms (constant (negsuc 0)) _ refl) (free_number (negsuc 0) (suc (suc v))), ap (λ t. (t || false) || false) (other_number (suc (suc v)) 0 (λ z. absurd (omega arith)))), tt)

substitute_lead : IsLead (f 2 itself) (equation substitute_system 0)
unfolding of none plus put term
substitute_lead = first_is_lead (equation substitute_system 0) _ _ refl

pub substitute_at : IsSubstitutedAt substitute_system 0 (f 2 itself) (pos 2)
substitute_at = record {
  place = omega arith;
  solved = substitute_solved;
  greatest = record {
    holds = record { itself = refl; number = pos 2; solved = substitute_solved };
    greatest = λ e h. substitute_lead.greatest e (solved_occurs substitute_system.unknowns (equation substitute_system 0) e h.number h.solved);
  };
}

pub substitute_value : SubstituteValue
substitute_value = (f 2 itself, pos 2, substitute_at, record { unknowns = refl; equations = tidied_nothing; general = substitute_general; next = refl })

abbrev others_equation : LinearForm
others_equation = sum_of_triples (triple (pos 1) [] 2 itself ∷ triple (pos 1) [] 1 itself ∷ [])

not_for_second : (c : ℤ) → ¬ (IsSolvedFor (of_y 1 ∷ of_x 2 ∷ []) others_equation (f 2 itself) c)
unfolding of none plus put term
not_for_second c h = true≢false (h.within 1 refl).0.1

not_for_first : (c : ℤ) → ¬ (IsSolvedFor (of_y 1 ∷ of_x 2 ∷ []) others_equation (f 1 itself) c)
unfolding of none plus put term
not_for_first c h = true≢false (h.within 0 refl).0.1

others_cases : (d : Derivative) → Occurs d others_equation → (d ≡ f 2 itself) ⊎ (d ≡ f 1 itself)
unfolding of none plus put term
others_cases d o = occurs_in (λ d. (d ≡ f 2 itself) ⊎ (d ≡ f 1 itself)) others_equation (inl refl, (inr refl, tt)) d o

pub no_substitute_of_others_variable : NoSubstituteOfOthersVariable
no_substitute_of_others_variable (d, c, s) = go (others_cases d (solved_occurs (of_y 1 ∷ of_x 2 ∷ []) others_equation d c s.solved))
  where
    go : (d ≡ f 2 itself) ⊎ (d ≡ f 1 itself) → ⊥
    go (inl e) = not_for_second c (subst (λ d. IsSolvedFor (of_y 1 ∷ of_x 2 ∷ []) others_equation d c) e s.solved)
    go (inr e) = not_for_first c (subst (λ d. IsSolvedFor (of_y 1 ∷ of_x 2 ∷ []) others_equation d c) e s.solved)

-- ---- integrate
abbrev integrate_system : LinearSystem
integrate_system = system (of_both 1 ∷ of_y 2 ∷ []) (sum_of_triples (triple (pos 1) [] 1 by_x ∷ triple (negsuc 0) [] 2 itself ∷ []) ∷ []) (unknown_form 1) 3

integrate_general : sum_of_triples (triple (pos 1) [] 3 itself ∷ triple (pos 1) x 2 itself ∷ []) ∷ [] ≡ (integrated integrate_system 0 (of_both 1) (f 1 by_x) (pos 1) 0 1 1).general
unfolding of none plus put term partial derivative put_in divided_by ◌*ᴾ◌ common_divisor each_exponent
integrate_general = ap (λ E. E ∷ []) (same_list forms _ _ refl)

integrate_solved : IsSolvedFor integrate_system.unknowns (equation integrate_system 0) (f 1 by_x) (pos 1)
unfolding of none plus put term
integrate_solved = record {
  apart = λ e. absurd (let z : 1 ≡ 0 = ap unsigned_abs e in omega arith);
  leads = same_list terms _ _ refl;
  alone = refl;
  within = within;
}
  where
    within : (v : ℕ) → depends integrate_system.unknowns 1 v ≡ false → Lacks integrate_system.unknowns v (rest_of (f 1 by_x) (equation integrate_system 0))
    within zero e = absurd (true≢false e)
    within (suc zero) e = absurd (true≢false e)
    within (suc (suc v)) e = ((subst (FreeOf (suc (suc v))) (same_list terms (constant (negsuc 0)) _ refl) (free_number (negsuc 0) (suc (suc v))), ap (λ t. (t || false) || false) (other_number (suc (suc v)) 1 (λ z. absurd (omega arith)))), tt)

integrate_integrable : IsIntegrableFor integrate_system.unknowns (equation integrate_system 0) (f 1 by_x) (pos 1) 0 1
unfolding of none plus put term
integrate_integrable = record {
  several = omega arith;
  derived = refl;
  solved = integrate_solved;
  some = λ z. absurd (let e : 1 ≡ 0 = ap (λ (E : LinearForm). length E.list) z in omega arith);
  independent = (refl, tt);
}

integrate_lead : IsLead (f 1 by_x) (equation integrate_system 0)
unfolding of none plus put term
integrate_lead = first_is_lead (equation integrate_system 0) _ _ refl

integrate_denominator : IsLeastDenominator (pos 1) 0 1 (triples (rest_of (f 1 by_x) (equation integrate_system 0))) 1
unfolding of none plus put term
integrate_denominator = record { positive = omega arith; clears = (dvd_refl 1, tt); least = λ M some h. some }

pub integrate_value : IntegrateValue
integrate_value = (
  of_both 1,
  f 1 by_x,
  pos 1,
  0,
  1,
  1,
  record {
    place = omega arith;
    listed = contains_first _ (of_y 2 ∷ []);
    number = refl;
    integrable = integrate_integrable;
    greatest = record {
      holds = (pos 1, 0, 1, integrate_integrable);
      greatest = λ e h. integrate_lead.greatest e (solved_occurs integrate_system.unknowns (equation integrate_system 0) e h.0 h.3.solved);
    };
    denominator = integrate_denominator;
  },
  record { unknowns = refl; equations = tidied_nothing; general = integrate_general; next = refl },
)

abbrev kept_equation : LinearForm
kept_equation = sum_of_triples (triple (pos 1) [] 1 by_x ∷ triple (pos 1) [] 2 itself ∷ [])

kept_cases : (d : Derivative) → Occurs d kept_equation → (d ≡ f 1 by_x) ⊎ (d ≡ f 2 itself)
unfolding of none plus put term
kept_cases d o = occurs_in (λ d. (d ≡ f 1 by_x) ⊎ (d ≡ f 2 itself)) kept_equation (inl refl, (inr refl, tt)) d o

not_by_x : (c : ℤ) (v k : ℕ) → ¬ (IsIntegrableFor (of_both 1 ∷ of_x 2 ∷ []) kept_equation (f 1 by_x) c v k)
unfolding of none plus put term
not_by_x c zero k h = true≢false h.independent.0
not_by_x c (suc v) k h = absurd (let e : 1 ≡ 0 = ap (λ J. get_or J 0 0) h.derived in omega arith)

not_itself : (c : ℤ) (v k : ℕ) → ¬ (IsIntegrableFor (of_both 1 ∷ of_x 2 ∷ []) kept_equation (f 2 itself) c v k)
not_itself c zero k h = absurd (let e : 0 ≡ 1 = ap length h.derived in omega arith)
not_itself c (suc v) k h = absurd (let e : 0 ≡ suc (length (replicate v 0 ++ k ∷ [])) = ap length h.derived in omega arith)

pub no_integral_of_own_variable : NoIntegralOfOwnVariable
no_integral_of_own_variable (place, d, g) = by g.holds
  where
    by : IsIntegrable (of_both 1 ∷ of_x 2 ∷ []) kept_equation d → ⊥
    by (c, v, k, h) = go (kept_cases d (solved_occurs (of_both 1 ∷ of_x 2 ∷ []) kept_equation d c h.solved))
      where
        go : (d ≡ f 1 by_x) ⊎ (d ≡ f 2 itself) → ⊥
        go (inl e) = not_by_x c v k (subst (λ d. IsIntegrableFor (of_both 1 ∷ of_x 2 ∷ []) kept_equation d c v k) e h)
        go (inr e) = not_itself c v k (subst (λ d. IsIntegrableFor (of_both 1 ∷ of_x 2 ∷ []) kept_equation d c v k) e h)

-- ---- isolate
pub freed_value : FreedValue
unfolding of none plus put term partial derivative
freed_value = same_list forms _ _ refl

high_degree : free_degree (of_x 1 ∷ constant_unknown 2 ∷ []) high_equation 0 ≡ 32
unfolding of none plus put term
high_degree = refl

none_later : (v : ℕ) → SomeDepends (of_x 1 ∷ constant_unknown 2 ∷ []) high_equation (suc v) → ⊥
unfolding of none plus put term
none_later v a =
    let r = any_with (λ (e : Derivative × WholePolynomial). depends (of_x 1 ∷ constant_unknown 2 ∷ []) (e.0).unknown (suc v) ≡ true) (λ e. depends (of_x 1 ∷ constant_unknown 2 ∷ []) (e.0).unknown (suc v) ≡ false) high_equation.list
    (ap (λ t. (t || false) || false) (other_number (suc v) 0 (λ z. absurd (omega arith))), (refl, tt)) a in
    true≢false (sym r.2 ∙ r.1)

pub no_isolation_of_high_power : NoIsolationOfHighPower
no_isolation_of_high_power (zero, P, h) = absurd (let e = high_degree in let k = (h.isolated).low in omega arith)
no_isolation_of_high_power (suc v, P, h) = none_later v (h.isolated).depends

highest_degree : free_degree (of_x 1 ∷ constant_unknown 2 ∷ []) (sum_of_triples (triple (pos 1) [] 1 by_x ∷ triple (pos 1) ((0, 31) ∷ []) 2 itself ∷ [])) 0 ≡ 31
unfolding of none plus put term
highest_degree = refl

pub isolation_of_highest_power : IsolationOfHighestPower
unfolding of none plus put term
isolation_of_highest_power = record {
  depends = (0, get_or (sum_of_triples (triple (pos 1) [] 1 by_x ∷ triple (pos 1) ((0, 31) ∷ []) 2 itself ∷ [])).list 0 (f 1 itself, constant (pos 1)), omega arith, refl, refl);
  free = (1, get_or (sum_of_triples (triple (pos 1) [] 1 by_x ∷ triple (pos 1) ((0, 31) ∷ []) 2 itself ∷ [])).list 1 (f 1 itself, constant (pos 1)), omega arith, refl, refl);
  low = let e = highest_degree in omega arith;
  before = λ w Q lt h. absurd (omega arith);
}

-- ---- reduce
reduced_occurs : finite.value forms (equation (reduced_system by_x) 0) (f 1 by_x_twice) ≡ constant (pos 1)
unfolding of none plus put term
reduced_occurs = same_list terms _ _ refl

pub reduced_lead : IsLead (f 1 by_x) (sum_of_triples (triple (pos 1) [] 1 by_x ∷ []))
unfolding of none plus put term
reduced_lead = first_is_lead (sum_of_triples (triple (pos 1) [] 1 by_x ∷ [])) _ _ refl

pub reduce_value : ReduceValue
reduce_value = (
  omega arith,
  f 1 by_x_twice,
  ((λ z. one_apart (sym reduced_occurs ∙ z)), 0, omega arith, (f 1 by_x, reduced_lead, record { unknown = refl; counts = twice })),
)
  where
    twice : (v : ℕ) → get_or by_x v 0 ≤ get_or by_x_twice v 0
    twice zero = omega arith
    twice (suc v) = omega arith

not_by_y : (d : Derivative) → Occurs d (equation (reduced_system by_y) 0) → count d 1 ≡ 0
unfolding of none plus put term
not_by_y d o = occurs_in (λ d. count d 1 ≡ 0) (equation (reduced_system by_y) 0) (refl, (refl, tt)) d o

once_by_y : (l : Derivative) → Occurs l (sum_of_triples (triple (pos 1) [] 1 by_y ∷ [])) → count l 1 ≡ 1
unfolding of none plus put term
once_by_y l o = occurs_in (λ d. count d 1 ≡ 1) (sum_of_triples (triple (pos 1) [] 1 by_y ∷ [])) (refl, tt) l o

pub no_reduction_by_other_variable : NoReductionByOtherVariable
no_reduction_by_other_variable (place, d, r) = finish (subst (λ j. IsLedBy d (get_or (sum_of_triples (triple (pos 1) [] 1 by_y ∷ []) ∷ []) j no_form)) (below_one r.1 r.2) r.3)
  where
    finish : IsLedBy d (sum_of_triples (triple (pos 1) [] 1 by_y ∷ [])) → ⊥
    finish (l, lead, div) = let a = once_by_y l lead.occurs in let b = not_by_y d r.0 in let c = div.counts 1 in absurd (omega arith)

-- ---- foreign
foreign_derivative : derivative foreign_system.unknowns 1 (equation foreign_system 0) ≡ sum_of_triples (triple (pos 1) [] 2 by_y ∷ [])
unfolding of none plus put term partial derivative
foreign_derivative = same_list forms _ _ refl

pub foreign_some : ¬ (sum_of_triples (triple (pos 1) [] 2 by_y ∷ []) ≡ no_form)
unfolding of none plus put term
foreign_some z = absurd (let e : 1 ≡ 0 = ap (λ (E : LinearForm). length E.list) z in omega arith)

pub foreign_lead : IsLead (f 1 by_x) (equation foreign_system 0)
unfolding of none plus put term
foreign_lead = first_is_lead (equation foreign_system 0) _ _ refl

own_lead : (l : Derivative) → IsLead l (equation foreign_system 0) → l ≡ f 1 by_x
own_lead l h = lead_unique (equation foreign_system 0) l (f 1 by_x) h foreign_lead

second_alone : (d : Derivative) → Occurs d (sum_of_triples (triple (pos 1) [] 2 by_y ∷ [])) → d ≡ f 2 by_y
unfolding of none plus put term
second_alone d o = occurs_in (λ d. d ≡ f 2 by_y) (sum_of_triples (triple (pos 1) [] 2 by_y ∷ [])) (refl, tt) d o

pub not_by_own : (M : LinearForm) → ¬ (IsForeignBy foreign_system 0 0 M)
not_by_own M h = true≢false (subst (λ (l : Derivative). depends foreign_system.unknowns l.unknown 0 ≡ false) (own_lead h.lead h.leads) h.free)

foreign_done : (d : Derivative) → ¬ (IsReducible foreign_system.equations (sum_of_triples (triple (pos 1) [] 2 by_y ∷ [])) d)
foreign_done d r = finish (subst (λ j. IsLedBy d (get_or foreign_system.equations j no_form)) (below_one r.1 r.2) r.3)
  where
    finish : IsLedBy d (equation foreign_system 0) → ⊥
    finish (l, lead, div) = one_not_two (ap (λ (d : Derivative). d.unknown) (sym (own_lead l lead)) ∙ div.unknown ∙ ap (λ (d : Derivative). d.unknown) (second_alone d r.0))

pub foreign_value : ForeignValue
foreign_value = record {
  place = omega arith;
  foreign = record {
    lead = f 1 by_x;
    leads = foreign_lead;
    free = refl;
    normal = subst (λ E. IsNormalForm foreign_system.unknowns foreign_system.equations E (sum_of_triples (triple (pos 1) [] 2 by_y ∷ []))) (sym foreign_derivative) (done foreign_done);
    some = foreign_some;
  };
  first = λ w M lt h. not_by_own M (subst (λ w. IsForeignBy foreign_system 0 w M) (below_one w lt) h);
}

pub no_foreign_by_own_variable : NoForeignByOwnVariable
no_foreign_by_own_variable N h = not_by_own N h.foreign

-- ---- cross
crossed_is : crossed crossed_system 0 1 (f 1 by_x) (f 1 by_y) ≡ sum_of_triples (triple (pos 1) [] 2 by_y ∷ [])
unfolding of none plus put term partial derivative ◌*ᴾ◌ quotient common_divisor each_exponent
crossed_is = same_list forms _ _ refl

pub first_lead : IsLead (f 1 by_x) (equation crossed_system 0)
unfolding of none plus put term
first_lead = first_is_lead (equation crossed_system 0) _ _ refl

pub second_lead : IsLead (f 1 by_y) (equation crossed_system 1)
unfolding of none plus put term
second_lead = first_is_lead (equation crossed_system 1) _ _ refl

crossed_done : (d : Derivative) → ¬ (IsReducible crossed_system.equations (sum_of_triples (triple (pos 1) [] 2 by_y ∷ [])) d)
crossed_done d (o, j, lt, led) = at j lt led
  where
    finish : (l k : Derivative) → l ≡ k → k.unknown ≡ 1 → l.unknown ≡ d.unknown → ⊥
    finish l k e one u = one_not_two (sym one ∙ ap (λ (d : Derivative). d.unknown) (sym e) ∙ u ∙ ap (λ (d : Derivative). d.unknown) (second_alone d o))

    at : (j : ℕ) → j < 2 → IsLedBy d (get_or crossed_system.equations j no_form) → ⊥
    at zero lt (l, lead, div) = finish l (f 1 by_x) (lead_unique (equation crossed_system 0) l (f 1 by_x) lead first_lead) refl div.unknown
    at (suc zero) lt (l, lead, div) = finish l (f 1 by_y) (lead_unique (equation crossed_system 1) l (f 1 by_y) lead second_lead) refl div.unknown
    at (suc (suc j)) lt led = absurd (omega arith)

pub cross_value : CrossValue
cross_value = record {
  order = omega arith;
  place = omega arith;
  lead = f 1 by_x;
  leads = first_lead;
  other = f 1 by_y;
  other_leads = second_lead;
  unknown = refl;
  normal = subst (λ E. IsNormalForm crossed_system.unknowns crossed_system.equations E (sum_of_triples (triple (pos 1) [] 2 by_y ∷ []))) (sym crossed_is) (done crossed_done);
  some = foreign_some;
}

pub no_cross_of_two_unknowns : NoCrossOfTwoUnknowns
unfolding of none plus put term
no_cross_of_two_unknowns (N, z) =
    one_not_two (sym (occurs_in (λ d. d.unknown ≡ 1) (sum_of_triples (triple (pos 1) [] 1 by_x ∷ [])) (refl, tt) z.lead z.leads.occurs) ∙ z.unknown ∙ occurs_in (λ d. d.unknown ≡ 2) (sum_of_triples (triple (pos 1) [] 2 by_y ∷ [])) (refl, tt) z.other z.other_leads.occurs)
