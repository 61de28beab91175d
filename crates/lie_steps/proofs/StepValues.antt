-- The worked steps.
use Rattle.std.specs.Prelude.{◌≡◌, ℕ, zero, suc, ◌<◌, ◌≤◌, ◌+◌, ◌⊎◌, Bool, true, false, cond, ◌||◌, not, List, [], ◌∷◌, ◌++◌, length, get_or, map, remove, ℤ, pos, negsuc, unsigned_abs}
use Rattle.std.proofs.Common.{refl, sym, ap, subst, ◌∙◌, arith, inl, inr, true≢false, Less, is_eq}
use Rattle.std.specs.List.{Contains, AllByRecursion as Every}
use Rattle.std.specs.List.Sorted.{IsStrictlySortedBy}
use Rattle.lie_math.specs.CommonDivisors.{common_divisor}
use Rattle.lie_math.specs.Counts.{Derivative, order}
use Rattle.lie_math.specs.FiniteSum as finite
use Rattle.lie_math.specs.FiniteSum.{of, none, plus, put, term}
use Rattle.lie_math.specs.FiniteSumLaws.{same_list}
use Rattle.lie_math.specs.LinearForm.{LinearForm, forms, no_form, unknown_form, form_term}
use Rattle.lie_math.specs.LinearSystem.{LinearSystem}
use Rattle.lie_math.specs.Monomial.{Monomial, exponent, powers, unit, monomial_cmp}
use Rattle.lie_math.specs.PartialDerivative.{partial}
use Rattle.lie_math.specs.Polynomial.{WholePolynomial, terms, constant, 0ᴾ, ◌*ᴾ◌}
use Rattle.lie_math.specs.Powers.{power_coefficient}
use Rattle.lie_math.proofs.EveryElement.{every_contained}
use Rattle.lie_math.proofs.Limits.{one_apart}
use Rattle.lie_systems.specs.EquationOrder.{equation_cmp}
use Rattle.lie_systems.specs.Leads.{Occurs, IsLead}
use Rattle.lie_systems.specs.Normalised.{primitive, each_exponent}
use Rattle.lie_systems.specs.Triples.{Triple, triples, sum_of_triples}
use Rattle.lie_systems.specs.ValidSystems.{count}
use Rattle.lie_systems.specs.WorkedValues.{triple, x}
use Rattle.lie_systems.proofs.Leads.{first_is_lead}
use Rattle.lie_steps.specs.Cross.{crossed}
use Rattle.lie_steps.specs.Derivatives.{derivative}
use Rattle.lie_steps.specs.Equations.{equation, Divides, rest_of, depends, Lacks}
use Rattle.lie_steps.specs.Foreign.{IsForeignBy}
use Rattle.lie_steps.specs.Isolate.{freed, free_degree, outer, IsSinglePart}
use Rattle.lie_steps.specs.NormalForm.{quotient, IsNormalForm, IsLedBy, IsReducible, done, onward, reduced_once}
use Rattle.lie_steps.specs.Parts.{part, polynomial_part}
use Rattle.lie_steps.specs.Replacement.{put_in, divided_by}
use Rattle.lie_steps.specs.Split.{IsSplitBy, split}
use Rattle.lie_steps.specs.Substitute.{IsSolvedFor, substituted}
use Rattle.lie_steps.specs.Tidying.{IsTidied, IsTidySystem}
use Rattle.lie_steps.specs.WorkedRules.{of_x, of_y, of_both, constant_unknown, itself, by_x, by_y, by_x_twice}
use Rattle.lie_steps.specs.WorkedSteps.{SplitStep, split_step_system, split_equation, split_rest, IsolateStep, isolate_system, isolate_equation, isolated_equation, ReduceStep, pair_system, derived_by, derived_and_itself, ForeignStep, foreign_step_system, foreign_equation, CrossStep, ZeroStep, unknown_system, without_unknown, SubstituteStep, LowestStep, lowest_step_system, mixed_equation, AbsentStep, absent_step_system, absent_general, IntegrateStep, integrate_before}
use Rattle.lie_steps.specs.Absent.{absented}
use Rattle.lie_steps.specs.Zero.{zeroed}
use Rattle.lie_systems.specs.Normalised.{derivative_alone}
use Rattle.lie_math.proofs.ContainedElements.{contains_later, contains_first}
use Rattle.lie_steps.proofs.NormalForms.{lead_unique}
use Rattle.lie_steps.proofs.NoneApplies.{solved_occurs}
use Rattle.lie_steps.proofs.LowestTerms.{clears_by_lowest_terms}
use Rattle.lie_steps.proofs.RuleValues.{free_number}
use Rattle.lie_steps.specs.Integrate.{IsIntegrableFor, IsLeastDenominator, IsIntegratedAt, integrated}
use Rattle.lie_steps.specs.Parts.{factors_in}
use Rattle.lie_math.specs.LinearForm.{each_coefficient}
use Rattle.lie_math.specs.Polynomial.{over_terms}
use Rattle.lie_math.specs.Variables.{FreeOf}
use Rattle.std.proofs.lemmas.Nat.Gcd.{dvd_refl, le_of_dvd}
use Rattle.std.proofs.Common.{is_lt}
use Rattle.lie_math.specs.Polynomial as polynomial
use Rattle.lie_steps.proofs.RuleValues.{f, occurs_in, tidied_nothing}

-- ---- tidied lists
cons : {X : Type 0} (x y : X) (xs ys : List X) → x ≡ y → xs ≡ ys → x ∷ xs ≡ y ∷ ys
cons x y xs ys e h = λ i. e i ∷ h i

-- a form with derivatives is not empty
some_form : (E : LinearForm) (n : ℕ) → length E.list ≡ suc n → ¬ (E ≡ no_form)
unfolding none of
some_form E n h z = absurd (let e : suc n ≡ 0 = sym h ∙ ap (λ (E : LinearForm). length E.list) z in omega arith)

tidied_as : (Es Ps Ns : List LinearForm) → map primitive Es ≡ Ps → IsStrictlySortedBy equation_cmp Ns → Every (Contains Ns) Ps → Every (λ N. Contains Ps N × ¬ (N ≡ no_form)) Ns → IsTidied Es Ns
tidied_as Es Ps Ns e s there back = record {
  ordered = s;
  made = λ N. (λ c. let h = every_contained (λ N. Contains Ps N × ¬ (N ≡ no_form)) Ns N back c in (subst (λ Xs. Contains Xs N) (sym e) h.0, h.1), λ c. every_contained (Contains Ns) Ps N there (subst (λ Xs. Contains Xs N) e c.0));
}

-- ---- split
split_triple : Triple
split_triple = get_or (triples split_equation) 1 (triple (pos 1) [] 1 itself)

split_primitive : map primitive (split (split_step_system (split_equation ∷ [])) 0 0).equations ≡ unknown_form 1 ∷ split_rest ∷ []
unfolding of none plus put term primitive common_divisor each_exponent power_coefficient
split_primitive = cons _ _ _ _ (same_list forms _ _ refl) (cons _ _ _ _ (same_list forms _ _ refl) refl)

split_tidied : IsTidied (split (split_step_system (split_equation ∷ [])) 0 0).equations (unknown_form 1 ∷ split_rest ∷ [])
unfolding of none plus put term IsStrictlySortedBy
split_tidied = tidied_as _ (unknown_form 1 ∷ split_rest ∷ []) _ split_primitive ((refl, tt), (tt, tt)) ((0, omega arith, refl), ((1, omega arith, refl), tt)) (((0, omega arith, refl), some_form _ 0 refl), (((1, omega arith, refl), some_form _ 1 refl), tt))

pub split_step : SplitStep
unfolding of none plus put term split_triple
split_step = (
  0,
  record { place = omega arith; splits = record { occurs = (1, split_triple, omega arith, refl, omega arith); independent = (refl, (refl, tt)) }; first = λ w lt s. absurd (omega arith) },
  record { unknowns = refl; equations = split_tidied; general = refl; next = refl },
)

-- ---- leads
mixed_lead : IsLead (f 1 by_x) derived_and_itself
unfolding of none plus put term
mixed_lead = first_is_lead derived_and_itself _ _ refl

derived_lead : IsLead (f 1 by_x) (derived_by by_x)
unfolding of none plus put term
derived_lead = first_is_lead (derived_by by_x) _ _ refl

twice_lead : IsLead (f 3 (0 ∷ 2 ∷ [])) foreign_equation
unfolding of none plus put term
twice_lead = first_is_lead foreign_equation _ _ refl

-- where the lead derives by v, it divides nothing that does not
pub leads_none : (v : ℕ) (l : Derivative) (E : LinearForm) (d : Derivative) → IsLead l E → 0 < count l v → count d v ≡ 0 → ¬ (IsLedBy d E)
leads_none v l E d lead some none (k, leads, div) = absurd (let a = div.counts v in let b : count k v ≡ count l v = ap (λ d. count d v) (lead_unique E k l leads lead) in omega arith)

-- ---- reduce
itself_alone : (d : Derivative) → Occurs d (unknown_form 1) → d ≡ f 1 itself
unfolding of none plus put term
itself_alone d o = occurs_in (λ d. d ≡ f 1 itself) (unknown_form 1) (refl, tt) d o

derived_alone : (d : Derivative) → Occurs d (derived_by by_x) → d ≡ f 1 by_x
unfolding of none plus put term
derived_alone d o = occurs_in (λ d. d ≡ f 1 by_x) (derived_by by_x) (refl, tt) d o

reduced_is : reduced_once (pair_system []).unknowns (derived_by by_x) (f 1 by_x) derived_and_itself (f 1 by_x) ≡ unknown_form 1
unfolding of none plus put term partial derivative ◌*ᴾ◌ quotient common_divisor each_exponent primitive
reduced_is = same_list forms _ _ refl

reduced_done : (d : Derivative) → ¬ (IsReducible (derived_and_itself ∷ []) (unknown_form 1) d)
reduced_done d (o, j, lt, led) = leads_none 0 (f 1 by_x) derived_and_itself d mixed_lead (omega arith) (ap (λ d. count d 0) (itself_alone d o)) (subst (λ j. IsLedBy d (get_or (derived_and_itself ∷ []) j no_form)) (let e : j ≡ 0 = omega arith in e) led)

pub same_divides : (d : Derivative) → Divides d d
same_divides d = record { unknown = refl; counts = λ v. omega arith }

reducible : IsReducible (derived_and_itself ∷ []) (derived_by by_x) (f 1 by_x)
reducible = (derived_lead.occurs, 0, omega arith, (f 1 by_x, mixed_lead, same_divides (f 1 by_x)))

reduced_normal : IsNormalForm (pair_system []).unknowns (derived_and_itself ∷ []) (derived_by by_x) (unknown_form 1)
reduced_normal = onward (f 1 by_x) 0 (f 1 by_x) (record { greatest = record { holds = reducible; greatest = λ e r. derived_lead.greatest e r.0 }; place = omega arith; lead = mixed_lead; divides = same_divides (f 1 by_x); first = λ k lt h. absurd (omega arith) }) (subst (λ E. IsNormalForm (pair_system []).unknowns (derived_and_itself ∷ []) E (unknown_form 1)) (sym reduced_is) (done reduced_done))

reduce_primitive : map primitive (derived_and_itself ∷ unknown_form 1 ∷ []) ≡ derived_and_itself ∷ unknown_form 1 ∷ []
unfolding of none plus put term primitive common_divisor each_exponent
reduce_primitive = cons _ _ _ _ (same_list forms _ _ refl) (cons _ _ _ _ (same_list forms _ _ refl) refl)

reduce_tidied : IsTidied (derived_and_itself ∷ unknown_form 1 ∷ []) (unknown_form 1 ∷ derived_and_itself ∷ [])
unfolding of none plus put term IsStrictlySortedBy
reduce_tidied = tidied_as _ _ _ reduce_primitive ((refl, tt), (tt, tt)) ((1, omega arith, refl), ((0, omega arith, refl), tt)) (((1, omega arith, refl), some_form _ 0 refl), (((0, omega arith, refl), some_form _ 1 refl), tt))

pub reduce_step : ReduceStep
reduce_step = (
  unknown_form 1,
  record { applies = (omega arith, f 1 by_x, reducible); normal = reduced_normal },
  record { unknowns = refl; equations = reduce_tidied; general = refl; next = refl },
)

-- ---- foreign
abbrev foreign_new : LinearForm
foreign_new = sum_of_triples (triple (pos 1) ((1, 1) ∷ []) 3 itself ∷ [])

foreign_alone : (d : Derivative) → Occurs d foreign_new → d ≡ f 3 itself
unfolding of none plus put term
foreign_alone d o = occurs_in (λ d. d ≡ f 3 itself) foreign_new (refl, tt) d o

foreign_is : derivative (foreign_step_system []).unknowns 0 foreign_equation ≡ foreign_new
unfolding of none plus put term partial derivative
foreign_is = same_list forms _ _ refl

foreign_new_done : (d : Derivative) → ¬ (IsReducible (foreign_equation ∷ []) foreign_new d)
foreign_new_done d (o, j, lt, led) = leads_none 1 (f 3 (0 ∷ 2 ∷ [])) foreign_equation d twice_lead (omega arith) (ap (λ d. count d 1) (foreign_alone d o)) (subst (λ j. IsLedBy d (get_or (foreign_equation ∷ []) j no_form)) (let e : j ≡ 0 = omega arith in e) led)

foreign_primitive : map primitive (foreign_equation ∷ foreign_new ∷ []) ≡ foreign_equation ∷ unknown_form 3 ∷ []
unfolding of none plus put term primitive common_divisor each_exponent
foreign_primitive = cons _ _ _ _ (same_list forms _ _ refl) (cons _ _ _ _ (same_list forms _ _ refl) refl)

foreign_tidied : IsTidied (foreign_equation ∷ foreign_new ∷ []) (unknown_form 3 ∷ foreign_equation ∷ [])
unfolding of none plus put term IsStrictlySortedBy
foreign_tidied = tidied_as _ _ _ foreign_primitive ((refl, tt), (tt, tt)) ((1, omega arith, refl), ((0, omega arith, refl), tt)) (((1, omega arith, refl), some_form _ 0 refl), (((0, omega arith, refl), some_form _ 1 refl), tt))

foreign_not_empty : ¬ (foreign_new ≡ no_form)
unfolding of none plus put term
foreign_not_empty = some_form foreign_new 0 refl

pub foreign_step : ForeignStep
foreign_step = (
  0,
  foreign_new,
  record {
    place = omega arith;
    foreign = record {
      lead = f 3 (0 ∷ 2 ∷ []);
      leads = twice_lead;
      free = refl;
      normal = subst (λ E. IsNormalForm (foreign_step_system []).unknowns (foreign_equation ∷ []) E foreign_new) (sym foreign_is) (done foreign_new_done);
      some = foreign_not_empty;
    };
    first = λ w M lt h. absurd (omega arith);
  },
  record { unknowns = refl; equations = foreign_tidied; general = refl; next = refl },
)

-- ---- cross
abbrev cross_new : LinearForm
cross_new = sum_of_triples (triple (negsuc 0) [] 1 itself ∷ [])

cross_alone : (d : Derivative) → Occurs d cross_new → d ≡ f 1 itself
unfolding of none plus put term
cross_alone d o = occurs_in (λ d. d ≡ f 1 itself) cross_new (refl, tt) d o

cross_is : crossed (pair_system (derived_by by_x ∷ derived_and_itself ∷ [])) 0 1 (f 1 by_x) (f 1 by_x) ≡ cross_new
unfolding of none plus put term partial derivative ◌*ᴾ◌ quotient common_divisor each_exponent
cross_is = same_list forms _ _ refl

cross_done : (d : Derivative) → ¬ (IsReducible (derived_by by_x ∷ derived_and_itself ∷ []) cross_new d)
cross_done d (o, zero, lt, led) = leads_none 0 (f 1 by_x) (derived_by by_x) d derived_lead (omega arith) (ap (λ d. count d 0) (cross_alone d o)) led
cross_done d (o, suc zero, lt, led) = leads_none 0 (f 1 by_x) derived_and_itself d mixed_lead (omega arith) (ap (λ d. count d 0) (cross_alone d o)) led
cross_done d (o, suc (suc j), lt, led) = absurd (omega arith)

cross_primitive : map primitive (derived_by by_x ∷ derived_and_itself ∷ cross_new ∷ []) ≡ derived_by by_x ∷ derived_and_itself ∷ unknown_form 1 ∷ []
unfolding of none plus put term primitive common_divisor each_exponent
cross_primitive = cons _ _ _ _ (same_list forms _ _ refl) (cons _ _ _ _ (same_list forms _ _ refl) (cons _ _ _ _ (same_list forms _ _ refl) refl))

cross_tidied : IsTidied (derived_by by_x ∷ derived_and_itself ∷ cross_new ∷ []) (unknown_form 1 ∷ derived_by by_x ∷ derived_and_itself ∷ [])
unfolding of none plus put term IsStrictlySortedBy
cross_tidied = tidied_as _ _ _ cross_primitive ((refl, (refl, tt)), ((refl, tt), (tt, tt))) ((1, omega arith, refl), ((2, omega arith, refl), ((0, omega arith, refl), tt)))
    (((2, omega arith, refl), some_form _ 0 refl), (((0, omega arith, refl), some_form _ 0 refl), (((1, omega arith, refl), some_form _ 1 refl), tt)))

cross_not_empty : ¬ (cross_new ≡ no_form)
unfolding of none plus put term
cross_not_empty = some_form cross_new 0 refl

pub cross_step : CrossStep
cross_step = (
  cross_new,
  record {
    order = omega arith;
    place = omega arith;
    lead = f 1 by_x;
    leads = derived_lead;
    other = f 1 by_x;
    other_leads = mixed_lead;
    unknown = refl;
    normal = subst (λ E. IsNormalForm (pair_system []).unknowns (derived_by by_x ∷ derived_and_itself ∷ []) E cross_new) (sym cross_is) (done cross_done);
    some = cross_not_empty;
  },
  record { unknowns = refl; equations = cross_tidied; general = refl; next = refl },
)

-- ---- zero and substitute
zero_general : (without_unknown (sum_of_triples (triple (negsuc 5) [] 2 by_x ∷ []))).general ≡ (zeroed unknown_system 0 1).general
unfolding of none plus put term partial derivative put_in ◌*ᴾ◌
zero_general = cons _ _ _ _ (same_list forms _ _ refl) (cons _ _ _ _ (same_list forms _ _ refl) (cons _ _ _ _ (same_list forms _ _ refl) refl))

pub zero_step : ZeroStep
zero_step = (1, record { place = omega arith; is = refl }, record { unknowns = refl; equations = tidied_nothing; general = zero_general; next = refl })

solved_general : (without_unknown (sum_of_triples (triple (negsuc 0) [] 2 by_x ∷ []))).general ≡ (substituted unknown_system 0 (f 1 itself) (pos 1)).general
unfolding of none plus put term partial derivative put_in divided_by ◌*ᴾ◌ common_divisor each_exponent
solved_general = cons _ _ _ _ (same_list forms _ _ refl) (cons _ _ _ _ (same_list forms _ _ refl) (cons _ _ _ _ (same_list forms _ _ refl) refl))

unknown_solved : IsSolvedFor unknown_system.unknowns (equation unknown_system 0) (f 1 itself) (pos 1)
unfolding of none plus put term
unknown_solved = record { apart = λ e. absurd (let z : 1 ≡ 0 = ap unsigned_abs e in omega arith); leads = same_list terms _ _ refl; alone = refl; within = λ v e. tt }

unknown_lead : IsLead (f 1 itself) (equation unknown_system 0)
unfolding of none plus put term
unknown_lead = first_is_lead (equation unknown_system 0) _ _ refl

pub substitute_step : SubstituteStep
substitute_step = (
  f 1 itself,
  pos 1,
  record {
    place = omega arith;
    solved = unknown_solved;
    greatest = record {
      holds = record { itself = refl; number = pos 1; solved = unknown_solved };
      greatest = λ e h. unknown_lead.greatest e (solved_occurs unknown_system.unknowns (equation unknown_system 0) e h.number h.solved);
    };
  },
  record { unknowns = refl; equations = tidied_nothing; general = solved_general; next = refl },
)

-- ---- lowest
mixed_several : length (triples mixed_equation) ≡ 2
unfolding of none plus put term
mixed_several = refl

mixed_coefficient : finite.value forms mixed_equation (f 1 itself) ≡ constant (negsuc 0)
unfolding of none plus put term
mixed_coefficient = same_list terms _ _ refl

mixed_occurs : Occurs (f 1 itself) mixed_equation
unfolding of none plus put term
mixed_occurs z = absurd (let e : 1 ≡ 0 = ap (λ (p : WholePolynomial). length p.list) (sym mixed_coefficient ∙ z) in omega arith)

lowest_primitive : map primitive (derivative_alone (f 1 itself) ∷ []) ≡ unknown_form 1 ∷ []
unfolding of none plus put term primitive common_divisor each_exponent
lowest_primitive = cons _ _ _ _ (same_list forms _ _ refl) refl

lowest_tidied : IsTidied (derivative_alone (f 1 itself) ∷ []) (unknown_form 1 ∷ [])
unfolding of none plus put term IsStrictlySortedBy
lowest_tidied = tidied_as _ _ _ lowest_primitive (tt, tt) ((0, omega arith, refl), tt) (((0, omega arith, refl), some_form _ 0 refl), tt)

pub lowest_step : LowestStep
unfolding of none plus put term
lowest_step = (
  f 1 itself,
  record {
    place = omega arith;
    several = let e = mixed_several in omega arith;
    constant = (same_list powers _ _ refl, (same_list powers _ _ refl, tt));
    occurs = mixed_occurs;
    lowest = (record { unknown = refl; counts = λ v. omega arith }, (record { unknown = refl; counts = λ v. omega arith }, tt));
  },
  record { unknowns = refl; equations = lowest_tidied; general = refl; next = refl },
)

-- ---- absent
abbrev absent_before : LinearSystem
absent_before = absent_step_system (of_y 2 ∷ []) (sum_of_triples (triple (pos 1) [] 2 (0 ∷ 2 ∷ []) ∷ []) ∷ []) (sum_of_triples (triple (negsuc 0) x 2 itself ∷ triple (pos 1) [] 1 itself ∷ [])) 3

abbrev absent_after : LinearSystem
absent_after = absent_step_system (constant_unknown 3 ∷ constant_unknown 4 ∷ []) [] absent_general 5

absent_made : absent_after.general ≡ (absented absent_before 0 (of_y 2) (f 2 (0 ∷ 2 ∷ []))).general
unfolding of none plus put term partial derivative put_in ◌*ᴾ◌
absent_made = cons _ _ _ _ (same_list forms _ _ refl) (cons _ _ _ _ (same_list forms _ _ refl) refl)

pub absent_step : AbsentStep
unfolding of none plus put term
absent_step = (
  of_y 2,
  f 2 (0 ∷ 2 ∷ []),
  record { place = omega arith; listed = (1, omega arith, refl); number = refl; derived = omega arith; is = same_list forms _ _ refl },
  record { unknowns = refl; equations = tidied_nothing; general = absent_made; next = refl },
)

-- ---- isolate
isolate_degree : free_degree (isolate_system []).unknowns isolate_equation 0 ≡ 0
unfolding of none plus put term
isolate_degree = refl

isolate_freed : freed (isolate_system []).unknowns isolate_equation 0 ≡ isolated_equation
unfolding of none plus put term partial derivative
isolate_freed = same_list forms _ _ refl

abbrev isolated_monomial : Monomial
isolated_monomial = (get_or (get_or isolated_equation.list 0 (f 1 itself, constant (pos 1))).1.list 0 (unit, pos 1)).0

-- the part where the monomial is the chosen one, and where it is not
abbrev part_if : Bool → LinearForm
part_if b = each_coefficient (λ p. over_terms (λ m a. cond b (polynomial.term (factors_in (λ v. not (outer (isolate_system []).unknowns isolated_equation v)) m) a) 0ᴾ) p) isolated_equation

part_is : (μ : Monomial) → part (outer (isolate_system []).unknowns isolated_equation) μ isolated_equation ≡ part_if (is_eq (monomial_cmp (factors_in (outer (isolate_system []).unknowns isolated_equation) isolated_monomial) μ))
unfolding of none plus put term polynomial_part
part_is μ = refl

part_cases : (b : Bool) → (part_if b ≡ isolated_equation) ⊎ (part_if b ≡ no_form)
unfolding of none plus put term each_exponent
part_cases true = inl (same_list forms _ _ refl)
part_cases false = inr (same_list forms _ _ refl)

isolated_single : length isolated_equation.list ≡ 1
unfolding of none plus put term
isolated_single = refl

only_part : (Q : LinearForm) → IsSinglePart (isolate_system []).unknowns isolated_equation Q → Q ≡ isolated_equation
unfolding of none
only_part Q h = go (part_cases (is_eq (monomial_cmp (factors_in (outer (isolate_system []).unknowns isolated_equation) isolated_monomial) h.monomial)))
  where
    go : (part_if (is_eq (monomial_cmp (factors_in (outer (isolate_system []).unknowns isolated_equation) isolated_monomial) h.monomial)) ≡ isolated_equation) ⊎ (part_if (is_eq (monomial_cmp (factors_in (outer (isolate_system []).unknowns isolated_equation) isolated_monomial) h.monomial)) ≡ no_form) → Q ≡ isolated_equation
    go (inl e) = h.is ∙ part_is h.monomial ∙ e
    go (inr e) = absurd (let z : 1 ≡ 0 = sym h.single ∙ ap (λ (E : LinearForm). length E.list) (h.is ∙ part_is h.monomial ∙ e) in omega arith)

isolated_part : IsSinglePart (isolate_system []).unknowns isolated_equation isolated_equation
unfolding of none plus put term polynomial_part each_exponent
isolated_part = record { monomial = unit; is = same_list forms _ _ refl; single = refl }

not_before_itself : ¬ (equation_cmp isolated_equation isolated_equation ≡ Less)
unfolding of none plus put term
not_before_itself e = true≢false (sym (ap is_lt e))

isolate_primitive : map primitive (unknown_form 1 ∷ isolate_equation ∷ primitive isolated_equation ∷ []) ≡ unknown_form 1 ∷ isolate_equation ∷ isolated_equation ∷ []
unfolding of none plus put term primitive common_divisor each_exponent
isolate_primitive = cons _ _ _ _ (same_list forms _ _ refl) (cons _ _ _ _ (same_list forms _ _ refl) (cons _ _ _ _ (same_list forms _ _ refl) refl))

isolate_tidied : IsTidied (unknown_form 1 ∷ isolate_equation ∷ primitive isolated_equation ∷ []) (unknown_form 1 ∷ isolated_equation ∷ isolate_equation ∷ [])
unfolding of none plus put term IsStrictlySortedBy
isolate_tidied = tidied_as _ _ _ isolate_primitive ((refl, (refl, tt)), ((refl, tt), (tt, tt))) ((0, omega arith, refl), ((2, omega arith, refl), ((1, omega arith, refl), tt)))
    (((0, omega arith, refl), some_form _ 0 refl), (((2, omega arith, refl), some_form _ 0 refl), (((1, omega arith, refl), some_form _ 1 refl), tt)))

pub isolate_step : IsolateStep
unfolding of none plus put term
isolate_step = (
  0,
  isolated_equation,
  record {
    place = omega arith;
    isolated = record {
      depends = (0, get_or isolate_equation.list 0 (f 1 itself, constant (pos 1)), omega arith, refl, refl);
      free = (1, get_or isolate_equation.list 1 (f 1 itself, constant (pos 1)), omega arith, refl, refl);
      low = let e = isolate_degree in omega arith;
      part = subst (λ D. IsSinglePart (isolate_system []).unknowns D isolated_equation) (sym isolate_freed) isolated_part;
      first = λ Q h e. not_before_itself (subst (λ Q. equation_cmp Q isolated_equation ≡ Less) (only_part Q (subst (λ D. IsSinglePart (isolate_system []).unknowns D Q) isolate_freed h)) e);
    };
    first = λ w Q lt h. absurd (omega arith);
  },
  record { unknowns = refl; equations = isolate_tidied; general = refl; next = refl },
)

-- ---- integrate
abbrev integrate_new : LinearForm
integrate_new = sum_of_triples (triple (pos 6) x 1 (0 ∷ 2 ∷ []) ∷ triple (pos 1) ((0, 1) ∷ (1, 1) ∷ []) 2 itself ∷ triple (negsuc 17) [] 2 itself ∷ [])

integrate_solved : IsSolvedFor integrate_before.unknowns (equation integrate_before 0) (f 3 by_y) (pos 3)
unfolding of none plus put term
integrate_solved = record {
  apart = λ e. absurd (let z : 3 ≡ 0 = ap unsigned_abs e in omega arith);
  leads = same_list terms _ _ refl;
  alone = refl;
  within = λ v e. ((subst (FreeOf v) (same_list terms (constant (negsuc 0)) _ refl) (free_number (negsuc 0) v), refl), tt);
}

integrate_integrable : IsIntegrableFor integrate_before.unknowns (equation integrate_before 0) (f 3 by_y) (pos 3) 1 1
unfolding of none plus put term
integrate_integrable = record { several = omega arith; derived = refl; solved = integrate_solved; some = λ z. absurd (let e : 1 ≡ 0 = ap (λ (E : LinearForm). length E.list) z in omega arith); independent = (refl, tt) }

integrate_lead : IsLead (f 3 by_y) (equation integrate_before 0)
unfolding of none plus put term
integrate_lead = first_is_lead (equation integrate_before 0) _ _ refl

abbrev rest_triple : Triple
rest_triple = get_or (triples (rest_of (f 3 by_y) (equation integrate_before 0))) 0 (triple (pos 1) [] 1 itself)

integrate_denominator : IsLeastDenominator (pos 3) 1 1 (triples (rest_of (f 3 by_y) (equation integrate_before 0))) 3
unfolding of none plus put term common_divisor
integrate_denominator = record { positive = omega arith; clears = (dvd_refl 3, tt); least = λ M some h. le_of_dvd some ((clears_by_lowest_terms (pos 3) 1 1 rest_triple M (λ e. absurd (let z : 3 ≡ 0 = ap unsigned_abs e in omega arith))).0 h.0) }

integrate_primitive : map primitive (integrated integrate_before 0 (of_y 3) (f 3 by_y) (pos 3) 1 1 3).equations ≡ integrate_new ∷ []
unfolding of none plus put term partial derivative put_in divided_by ◌*ᴾ◌ primitive common_divisor each_exponent
integrate_primitive = cons _ _ _ _ (same_list forms _ _ refl) refl

integrate_tidied : IsTidied (integrated integrate_before 0 (of_y 3) (f 3 by_y) (pos 3) 1 1 3).equations (integrate_new ∷ [])
unfolding of none plus put term IsStrictlySortedBy
integrate_tidied = tidied_as _ _ _ integrate_primitive (tt, tt) ((0, omega arith, refl), tt) (((0, omega arith, refl), some_form _ 1 refl), tt)

pub integrate_at : IsIntegratedAt integrate_before 0 (of_y 3) (f 3 by_y) (pos 3) 1 1 3
integrate_at = record {
  place = omega arith;
  listed = (2, omega arith, refl);
  number = refl;
  integrable = integrate_integrable;
  greatest = record {
    holds = (pos 3, 1, 1, integrate_integrable);
    greatest = λ e h. integrate_lead.greatest e (solved_occurs integrate_before.unknowns (equation integrate_before 0) e h.0 h.3.solved);
  };
  denominator = integrate_denominator;
}

pub integrate_step : IntegrateStep
unfolding of none plus put term
integrate_step = (of_y 3, f 3 by_y, pos 3, 1, 1, 3, integrate_at, record { unknowns = refl; equations = integrate_tidied; general = refl; next = refl })
