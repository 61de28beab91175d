-- The worked values of what isolate, the search and runs make.
use Rattle.std.specs.Prelude.{◌≡◌, ℕ, zero, suc, ◌<◌, ◌⊎◌, true, false, ◌||◌, List, [], ◌∷◌, length, get_or, ℤ, pos, negsuc, remove}
use Rattle.std.proofs.Common.{refl, sym, ap, subst, ◌∙◌, arith, inl, inr, true≢false}
use Rattle.std.specs.List.{Contains}
use Rattle.lie_math.specs.CommonDivisors.{common_divisor}
use Rattle.lie_math.specs.Counts.{Derivative}
use Rattle.lie_math.specs.FiniteSum.{of, none, plus, put, term}
use Rattle.lie_math.specs.FiniteSumLaws.{same_list}
use Rattle.lie_math.specs.LinearForm.{LinearForm, forms, no_form, unknown_form}
use Rattle.lie_math.specs.LinearSystem.{LinearSystem}
use Rattle.lie_math.specs.Monomial.{monomial_of, unit}
use Rattle.lie_math.specs.PartialDerivative.{partial}
use Rattle.lie_math.specs.Polynomial.{WholePolynomial, constant, ◌*ᴾ◌}
use Rattle.lie_math.proofs.Decisions.{any_with}
use Rattle.lie_math.proofs.Tests.{other_number}
use Rattle.lie_systems.specs.Leads.{Occurs, IsLead}
use Rattle.lie_systems.specs.Normalised.{each_exponent, primitive, derivative_alone}
use Rattle.lie_systems.specs.Triples.{sum_of_triples}
use Rattle.lie_systems.specs.WorkedValues.{triple, x}
use Rattle.lie_systems.specs.Works.{Made, AForm, Triples}
use Rattle.lie_systems.proofs.Leads.{first_is_lead}
use Rattle.lie_steps.specs.Bulks.{derivative_bulk, derivatives_made_by}
use Rattle.lie_steps.specs.Derivatives.{derivative}
use Rattle.lie_steps.specs.Equations.{equation, depends}
use Rattle.lie_steps.specs.Foreign.{IsForeignBy}
use Rattle.lie_steps.specs.Integrate.{IsIntegrable}
use Rattle.lie_steps.specs.Lowest.{IsLowestAt}
use Rattle.lie_steps.specs.Split.{IsSplitAt}
use Rattle.lie_steps.specs.Isolate.{SomeDepends, SomeIsFree, free_degree, freed, IsIsolationTried, IsPartMade}
use Rattle.lie_steps.specs.NormalForm.{IsReducible}
use Rattle.lie_steps.specs.Parts.{polynomial_part}
use Rattle.lie_steps.specs.Replacement.{put_in, replacement_made}
use Rattle.lie_steps.specs.Rules.{Rule, Zero, Lowest, Absent, Split, Substitute, Integrate, Isolate, Reduce, Foreign, Cross, rank, Place, Applies, IsBefore, IsEarlier, Next}
use Rattle.lie_steps.specs.Runs.{start, onward}
use Rattle.lie_steps.specs.Substitute.{IsSolvedFor}
use Rattle.lie_steps.specs.Tidying.{IsTidySystem}
use Rattle.lie_steps.specs.Zero.{IsZeroAt, zeroed}
use Rattle.lie_steps.specs.WorkedMakes.{freed_system, IsolateTriesThese, searched_system, SearchMakesThis, zeros_system, SecondStepMakesThese}
use Rattle.lie_steps.specs.WorkedRules.{of_x, itself, by_x, by_x_twice, system}
use Rattle.lie_steps.proofs.NoneApplies.{solved_occurs}
use Rattle.lie_steps.proofs.NormalForms.{lead_unique}
use Rattle.lie_steps.proofs.RuleValues.{f, below_one, occurs_in, tidied_alone, tidied_nothing, no_lowest_of_coefficient, no_split_by_own_variable}
use Rattle.lie_steps.proofs.ZeroRule.{list-derivative_alone}

same_made : (E G : LinearForm) → E.list ≡ G.list → AForm E ≡ AForm G
same_made E G e = ap AForm (same_list forms E G e)

cons : {X : Type 0} (x y : X) (xs ys : List X) → x ≡ y → xs ≡ ys → x ∷ xs ≡ y ∷ ys
cons x y xs ys e h = λ i. e i ∷ h i

-- ---- isolate
abbrev freed_equation : LinearForm
freed_equation = equation freed_system 0

freed_degree : free_degree freed_system.unknowns freed_equation 0 ≡ 1
unfolding of none plus put term
freed_degree = refl

freed_tried : IsIsolationTried freed_system.unknowns freed_equation 0
unfolding of none plus put term
freed_tried = record {
  depends = (0, get_or freed_equation.list 0 (f 1 itself, constant (pos 1)), omega arith, refl, refl);
  free = (1, get_or freed_equation.list 1 (f 1 itself, constant (pos 1)), omega arith, refl, refl);
  low = let e = freed_degree in omega arith;
  before = λ w Q lt h. absurd (omega arith);
}

abbrev freed_list : List Made
freed_list =
    AForm (sum_of_triples (triple (pos 1) ((1, 1) ∷ []) 1 by_x_twice ∷ triple (pos 1) [] 1 by_x ∷ triple (pos 1) [] 2 itself ∷ []))
    ∷ AForm (sum_of_triples (triple (pos 1) ((1, 1) ∷ []) 1 (3 ∷ []) ∷ triple (pos 1) [] 1 by_x_twice ∷ []))
    ∷ []

freed_derivatives : derivatives_made_by freed_system.unknowns 0 (suc (free_degree freed_system.unknowns freed_equation 0)) freed_equation ≡ freed_list
unfolding of none plus put term partial derivative
freed_derivatives = cons _ _ _ _ (same_made _ _ refl) (cons _ _ _ _ (same_made _ _ refl) refl)

freed_is : freed freed_system.unknowns freed_equation 0 ≡ sum_of_triples (triple (pos 1) ((1, 1) ∷ []) 1 (3 ∷ []) ∷ triple (negsuc 0) [] 1 by_x_twice ∷ [])
unfolding of none plus put term partial derivative
freed_is = same_list forms _ _ refl

abbrev freed_form : LinearForm
freed_form = sum_of_triples (triple (pos 1) ((1, 1) ∷ []) 1 (3 ∷ []) ∷ triple (negsuc 0) [] 1 by_x_twice ∷ [])

part_of_y : IsPartMade freed_system.unknowns freed_form (AForm (sum_of_triples (triple (pos 1) [] 1 (3 ∷ []) ∷ [])))
unfolding of none plus put term polynomial_part each_exponent
part_of_y = (monomial_of ((1, 1) ∷ []), same_made _ _ refl)

part_without : IsPartMade freed_system.unknowns freed_form (AForm (sum_of_triples (triple (pos 1) [] 1 by_x_twice ∷ [])))
unfolding of none plus put term polynomial_part each_exponent
part_without = (unit, same_made _ _ refl)

part_of_freed : (b : Made) → IsPartMade freed_system.unknowns freed_form b → IsPartMade freed_system.unknowns (freed freed_system.unknowns freed_equation 0) b
part_of_freed b = subst (λ D. IsPartMade freed_system.unknowns D b) (sym freed_is)

pub isolate_tries_these : IsolateTriesThese
isolate_tries_these = record {
  first = (0, freed_tried, inl (subst (λ bs. Contains bs (AForm (sum_of_triples (triple (pos 1) ((1, 1) ∷ []) 1 by_x_twice ∷ triple (pos 1) [] 1 by_x ∷ triple (pos 1) [] 2 itself ∷ [])))) (sym freed_derivatives) (0, omega arith, refl)));
  second = (0, freed_tried, inl (subst (λ bs. Contains bs (AForm (sum_of_triples (triple (pos 1) ((1, 1) ∷ []) 1 (3 ∷ []) ∷ triple (pos 1) [] 1 by_x_twice ∷ [])))) (sym freed_derivatives) (1, omega arith, refl)));
  part_of_y = (0, freed_tried, inr (part_of_freed _ part_of_y));
  part_without = (0, freed_tried, inr (part_of_freed _ part_without));
}

-- ---- the run
abbrev zeros_between : LinearSystem
zeros_between = system (of_x 2 ∷ of_x 3 ∷ []) (unknown_form 2 ∷ []) (sum_of_triples (triple (pos 1) [] 2 itself ∷ triple (pos 1) [] 3 itself ∷ [])) 4

abbrev zeros_after : LinearSystem
zeros_after = system (of_x 3 ∷ []) [] (unknown_form 3) 4

positive_rank : (r : Rule) → rank r < 1 → ⊥
positive_rank Zero h = absurd (omega arith)
positive_rank Lowest h = absurd (omega arith)
positive_rank Absent h = absurd (omega arith)
positive_rank Split h = absurd (omega arith)
positive_rank Substitute h = absurd (omega arith)
positive_rank Integrate h = absurd (omega arith)
positive_rank Isolate h = absurd (omega arith)
positive_rank Reduce h = absurd (omega arith)
positive_rank Foreign h = absurd (omega arith)
positive_rank Cross h = absurd (omega arith)

not_earlier : (p : Place) → IsEarlier p (record { first = 0; second = 0 }) → ⊥
not_earlier p (inl h) = absurd (omega arith)
not_earlier p (inr h) = absurd (let k = h.1 in omega arith)

zero_first : (r : Rule) (p : Place) → IsBefore r p Zero (record { first = 0; second = 0 }) → ⊥
zero_first r p (inl h) = positive_rank r h
zero_first r p (inr h) = not_earlier p h.1

second_primitive : primitive (unknown_form 2) ≡ unknown_form 2
unfolding of none plus put term primitive common_divisor each_exponent
second_primitive = same_list forms _ _ refl

second_some : ¬ (unknown_form 2 ≡ no_form)
unfolding of none plus put term
second_some z = absurd (let e : 1 ≡ 0 = ap (λ (E : LinearForm). length E.list) z in omega arith)

first_equations : (zeroed zeros_system 0 1).equations ≡ unknown_form 2 ∷ []
unfolding of none plus put term
first_equations = refl

first_general : zeros_between.general ≡ (zeroed zeros_system 0 1).general
unfolding of none plus put term partial derivative put_in ◌*ᴾ◌
first_general = cons _ _ _ _ (same_list forms _ _ refl) refl

first_tidied : IsTidySystem (zeroed zeros_system 0 1) zeros_between
unfolding of none plus put term
first_tidied = record { unknowns = refl; equations = tidied_alone (unknown_form 2) (unknown_form 2) second_primitive second_some; general = first_general; next = refl }

second_general : zeros_after.general ≡ (zeroed zeros_between 0 2).general
unfolding of none plus put term partial derivative put_in ◌*ᴾ◌
second_general = cons _ _ _ _ (same_list forms _ _ refl) refl

second_tidied : IsTidySystem (zeroed zeros_between 0 2) zeros_after
second_tidied = record { unknowns = refl; equations = tidied_nothing; general = second_general; next = refl }

first_zero : IsZeroAt zeros_system 0 1
first_zero = record { place = omega arith; is = refl }

second_zero : IsZeroAt zeros_between 0 2
second_zero = record { place = omega arith; is = refl }

unfoldable first_next : Next zeros_system zeros_between
first_next = record {
  rule = Zero;
  place = record { first = 0; second = 0 };
  applies = (refl, (1, first_zero));
  first = λ r p b a. zero_first r p b;
  after = (1, first_zero, first_tidied);
}

unfoldable second_next : Next zeros_between zeros_after
second_next = record {
  rule = Zero;
  place = record { first = 0; second = 0 };
  applies = (refl, (2, second_zero));
  first = λ r p b a. zero_first r p b;
  after = (2, second_zero, second_tidied);
}

first_list : replacement_made zeros_system 0 1 no_form 1 [] ≡ AForm (sum_of_triples (triple (pos 1) [] 2 itself ∷ triple (pos 1) [] 3 itself ∷ [])) ∷ Triples 2 ∷ []
unfolding of none plus put term partial derivative put_in ◌*ᴾ◌
first_list = cons _ _ _ _ (same_made _ _ refl) refl

second_list : replacement_made zeros_between 0 2 no_form 1 [] ≡ AForm (unknown_form 3) ∷ Triples 1 ∷ []
unfolding of none plus put term partial derivative put_in ◌*ᴾ◌
second_list = cons _ _ _ _ (same_made _ _ refl) refl

pub second_step_makes_these : SecondStepMakesThese
unfolding first_next second_next
second_step_makes_these = record {
  first = (zeros_system, start, inr (zeros_between, first_next, inl (1, first_zero, subst (λ bs. Contains bs (AForm (sum_of_triples (triple (pos 1) [] 2 itself ∷ triple (pos 1) [] 3 itself ∷ [])))) (sym first_list) (0, omega arith, refl))));
  second = (zeros_between, onward first_next start, inr (zeros_after, second_next, inl (2, second_zero, subst (λ bs. Contains bs (AForm (unknown_form 3))) (sym second_list) (0, omega arith, refl))));
  triples = (zeros_between, onward first_next start, inr (zeros_after, second_next, inl (2, second_zero, subst (λ bs. Contains bs (Triples 1)) (sym second_list) (1, omega arith, refl))));
}

-- ---- the search
abbrev searched_equation : LinearForm
searched_equation = equation searched_system 0

searched_length : length searched_equation.list ≡ 2
unfolding of none plus put term
searched_length = refl

searched_lead : IsLead (f 1 by_x) searched_equation
unfolding of none plus put term
searched_lead = first_is_lead searched_equation _ _ refl

searched_cases : (d : Derivative) → Occurs d searched_equation → (d ≡ f 1 by_x) ⊎ (d ≡ f 1 itself)
unfolding of none plus put term
searched_cases d o = occurs_in (λ d. (d ≡ f 1 by_x) ⊎ (d ≡ f 1 itself)) searched_equation (inl refl, (inr refl, tt)) d o

not_alone : (d : Derivative) → searched_equation ≡ derivative_alone d → ⊥
not_alone d e = absurd (let z : 2 ≡ 1 = sym searched_length ∙ ap (λ (E : LinearForm). length E.list) e ∙ ap length (list-derivative_alone d) in omega arith)

not_for_derivative : (c : ℤ) → ¬ (IsSolvedFor searched_system.unknowns searched_equation (f 1 by_x) c)
unfolding of none plus put term
not_for_derivative c h = true≢false h.alone

not_for_itself : (c : ℤ) → ¬ (IsSolvedFor searched_system.unknowns searched_equation (f 1 itself) c)
unfolding of none plus put term
not_for_itself c h = true≢false h.alone

not_solved : (d : Derivative) (c : ℤ) → ¬ (IsSolvedFor searched_system.unknowns searched_equation d c)
not_solved d c h = go (searched_cases d (solved_occurs searched_system.unknowns searched_equation d c h))
  where
    go : (d ≡ f 1 by_x) ⊎ (d ≡ f 1 itself) → ⊥
    go (inl e) = not_for_derivative c (subst (λ d. IsSolvedFor searched_system.unknowns searched_equation d c) e h)
    go (inr e) = not_for_itself c (subst (λ d. IsSolvedFor searched_system.unknowns searched_equation d c) e h)

not_both : (v : ℕ) → SomeDepends searched_system.unknowns searched_equation v → SomeIsFree searched_system.unknowns searched_equation v → ⊥
unfolding of none plus put term
not_both zero d a =
    let r = any_with (λ (e : Derivative × WholePolynomial). depends searched_system.unknowns (e.0).unknown 0 ≡ false) (λ e. depends searched_system.unknowns (e.0).unknown 0 ≡ true) searched_equation.list (refl, (refl, tt)) a in
    true≢false (sym r.1 ∙ r.2)
not_both (suc v) a h =
    let r = any_with (λ (e : Derivative × WholePolynomial). depends searched_system.unknowns (e.0).unknown (suc v) ≡ true) (λ e. depends searched_system.unknowns (e.0).unknown (suc v) ≡ false) searched_equation.list
    (ap (λ t. (t || false) || false) (other_number (suc v) 0 (λ z. absurd (omega arith))), (ap (λ t. (t || false) || false) (other_number (suc v) 0 (λ z. absurd (omega arith))), tt)) a in
    true≢false (sym r.2 ∙ r.1)

at_zero : (P : ℕ → Type 0) (i : ℕ) → i < 1 → P i → P 0
at_zero P i lt = subst P (below_one i lt)

searched_before : (s : Rule) (q : Place) → IsBefore s q Foreign (record { first = 0; second = 0 }) → ¬ (Applies s searched_system q)
searched_before Zero q b (e, (g, z)) = not_alone (f g itself) (at_zero (λ i. equation searched_system i ≡ unknown_form g) q.first z.place z.is)
searched_before Lowest q b (e, (d, z)) = no_lowest_of_coefficient (d, at_zero (λ i. IsLowestAt searched_system i d) q.first z.place z)
searched_before Absent q b (e, (g, d, z)) = not_alone d (at_zero (λ i. equation searched_system i ≡ derivative_alone d) q.first z.place z.is)
searched_before Split q b (e, (v, z)) = no_split_by_own_variable (v, at_zero (λ i. IsSplitAt searched_system i v) q.first z.place z)
searched_before Substitute q b (e, (d, c, z)) = not_solved d c (at_zero (λ i. IsSolvedFor searched_system.unknowns (equation searched_system i) d c) q.first z.place z.solved)
searched_before Integrate q b (e, (place, d, g)) = go g.holds
  where
    go : IsIntegrable searched_system.unknowns (equation searched_system q.first) d → ⊥
    go (c, v, k, h) = not_solved d c (at_zero (λ i. IsSolvedFor searched_system.unknowns (equation searched_system i) d c) q.first place h.solved)
searched_before Isolate q b (e, (v, P, z)) = not_both v (at_zero (λ i. SomeDepends searched_system.unknowns (equation searched_system i) v) q.first z.place (z.isolated).depends) (at_zero (λ i. SomeIsFree searched_system.unknowns (equation searched_system i) v) q.first z.place (z.isolated).free)
searched_before Reduce q b (e, (place, d, r)) = go (at_zero (λ i. IsReducible (remove searched_system.equations i) (equation searched_system i) d) q.first place r)
  where
    go : IsReducible [] searched_equation d → ⊥
    go (o, j, lt, led) = absurd (omega arith)
searched_before Foreign q (inl b) a = absurd (omega arith)
searched_before Foreign q (inr b) a = not_earlier q b.1
searched_before Cross q (inl b) a = absurd (omega arith)
searched_before Cross q (inr b) a = absurd (let e : 10 ≡ 9 = ap rank b.0 in omega arith)

searched_own : (M : LinearForm) → ¬ (IsForeignBy searched_system 0 0 M)
searched_own M h = true≢false (subst (λ (l : Derivative). depends searched_system.unknowns l.unknown 0 ≡ false) (lead_unique searched_equation h.lead (f 1 by_x) h.leads searched_lead) h.free)

searched_bulk : AForm no_form ≡ AForm (derivative_bulk searched_system.unknowns 1 searched_equation)
unfolding of none plus put term partial derivative
searched_bulk = same_made _ _ refl

pub search_makes_this : SearchMakesThis
search_makes_this = (
  Foreign,
  record { first = 0; second = 0 },
  (refl, (omega arith, (1, record { lead = f 1 by_x; leads = searched_lead; free = refl; before = λ w M lt h. searched_own M (subst (λ w. IsForeignBy searched_system 0 w M) (below_one w lt) h) }, inl searched_bulk))),
  searched_before,
)
