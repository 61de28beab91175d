-- The worked values of what steps, tests, the search and runs make.
use Rattle.std.specs.Prelude.{◌≡◌, ℕ, zero, suc, ◌≤◌, ◌⊎◌, false, List, [], ◌∷◌, ◌++◌, length, get_or, ℤ, pos, negsuc, unsigned_abs}
use Rattle.std.proofs.Common.{refl, sym, ap, subst, ◌∙◌, arith, inl, inr, true≢false}
use Rattle.std.specs.List.{Contains}
use Rattle.std.proofs.lemmas.List.Elements.{Contains-append_left, Contains-append_right, Contains-append_cases}
use Rattle.lie_math.specs.CommonDivisors.{common_divisor}
use Rattle.lie_math.specs.Counts.{Derivative}
use Rattle.lie_math.specs.FiniteSum as finite
use Rattle.lie_math.specs.FiniteSum.{of, none, plus, put, term}
use Rattle.lie_math.specs.FiniteSumLaws.{same_list}
use Rattle.lie_math.specs.Limits.{absolute}
use Rattle.lie_math.specs.LinearForm.{LinearForm, forms, no_form, unknown_form}
use Rattle.lie_math.specs.LinearSystem.{Unknown}
use Rattle.lie_math.specs.PartialDerivative.{partial}
use Rattle.lie_math.specs.Polynomial.{◌*ᴾ◌}
use Rattle.lie_math.proofs.ContainedElements.{contained_cons, contains_first, contains_nothing}
use Rattle.lie_systems.specs.Leads.{Occurs, IsLead}
use Rattle.lie_systems.specs.Normalised.{each_exponent, primitive}
use Rattle.lie_systems.specs.Triples.{triples, sum_of_triples}
use Rattle.lie_systems.specs.WorkedValues.{triple}
use Rattle.lie_systems.specs.Works.{Made, AForm, ANumber, Triples, AnUnknown}
use Rattle.lie_systems.proofs.Leads.{first_is_lead}
use Rattle.lie_steps.specs.Bulks.{derivative_bulk}
use Rattle.lie_steps.specs.Cross.{CrossTries, crossed, crossed_made}
use Rattle.lie_steps.specs.Derivatives.{derivative}
use Rattle.lie_steps.specs.Equations.{equation, Divides, depends, rest_of}
use Rattle.lie_steps.specs.Foreign.{ForeignTries, IsForeignBy}
use Rattle.lie_steps.specs.Integrate.{IntegrateMakes, IsIntegrable, IsLeastDenominator, integrated_made}
use Rattle.lie_steps.specs.NormalForm.{quotient, IsReducible, IsReduction, IsNormalForm, done, onward, reduced_once, reduction_made, NormalFormMakes, now, later}
use Rattle.lie_steps.specs.Replacement.{put_in, solution_made, replacement_made}
use Rattle.lie_steps.specs.Substitute.{SubstituteMakes, IsSubstitutable, solution}
use Rattle.lie_steps.specs.Zero.{ZeroMakes}
use Rattle.lie_steps.specs.WorkedMakes.{MakesExactly, ZeroMakesThese, SubstituteMakesThese, IntegrateMakesThese, turned_form, turning_equation, first_turn, second_turn, turned_system, TwoTurnsMakeThese, ReduceMakesThese, own_system, ForeignTriesThese, chain_system, CrossTriesThese}
use Rattle.lie_steps.specs.WorkedRules.{of_y, of_x, constant_unknown, itself, by_x, by_y, by_x_twice, substitute_system}
use Rattle.lie_steps.specs.WorkedSteps.{unknown_system, integrate_before}
use Rattle.lie_steps.proofs.IntegrateRule.{counts_same}
use Rattle.lie_steps.proofs.NormalForms.{lead_unique}
use Rattle.lie_steps.proofs.NormalFormWork.{no_work, work_from}
use Rattle.lie_steps.proofs.RuleValues.{f, occurs_in, substitute_at}
use Rattle.lie_steps.proofs.SolvedForms.{greatest_unique, same_constant}
use Rattle.lie_steps.proofs.StepValues.{integrate_at, leads_none, same_divides}
use Rattle.lie_steps.proofs.ZeroRule.{same_alone}

-- a form is told by its list
same_made : (E G : LinearForm) → E.list ≡ G.list → AForm E ≡ AForm G
same_made E G e = ap AForm (same_list forms E G e)

cons : {X : Type 0} (x y : X) (xs ys : List X) → x ≡ y → xs ≡ ys → x ∷ xs ≡ y ∷ ys
cons x y xs ys e h = λ i. e i ∷ h i

-- ---- zero
zero_list : replacement_made unknown_system 0 1 no_form 1 [] ≡ AForm no_form ∷ AForm (sum_of_triples (triple (pos 6) [] 2 by_x ∷ [])) ∷ AForm no_form ∷ Triples 1 ∷ []
unfolding of none plus put term partial derivative put_in ◌*ᴾ◌
zero_list = cons _ _ _ _ (same_made _ _ refl) (cons _ _ _ _ (same_made _ _ refl) (cons _ _ _ _ (same_made _ _ refl) refl))

zero_exactly : MakesExactly (ZeroMakes unknown_system 0) (replacement_made unknown_system 0 1 no_form 1 [])
zero_exactly b = (forth, λ c. (1, record { place = omega arith; is = refl }, c))
  where
    forth : ZeroMakes unknown_system 0 b → Contains (replacement_made unknown_system 0 1 no_form 1 []) b
    forth (g, z, c) = subst (λ g. Contains (replacement_made unknown_system 0 g no_form 1 []) b) (ap (λ (d : Derivative). d.unknown) (same_alone (f g itself) (f 1 itself) (sym z.is))) c

pub zero_makes_these : ZeroMakesThese
zero_makes_these = subst (MakesExactly (ZeroMakes unknown_system 0)) zero_list zero_exactly

-- ---- substitute
abbrev substitute_made : Derivative → ℤ → List Made
substitute_made d c = solution_made (solution substitute_system 0 d c) (unsigned_abs c) ++ replacement_made substitute_system 0 d.unknown (solution substitute_system 0 d c) (unsigned_abs c) []

substitute_list : substitute_made (f 2 itself) (pos 2) ≡ AForm (unknown_form 1) ∷ ANumber 2 ∷ AForm (sum_of_triples (triple (pos 4) [] 1 itself ∷ [])) ∷ Triples 1 ∷ []
unfolding of none plus put term partial derivative put_in ◌*ᴾ◌
substitute_list = cons _ _ _ _ (same_made _ _ refl) (cons _ _ _ _ refl (cons _ _ _ _ (same_made _ _ refl) refl))

substitute_exactly : MakesExactly (SubstituteMakes substitute_system 0) (substitute_made (f 2 itself) (pos 2))
substitute_exactly b = (forth, λ c. (f 2 itself, pos 2, substitute_at, c))
  where
    forth : SubstituteMakes substitute_system 0 b → Contains (substitute_made (f 2 itself) (pos 2)) b
    forth (d, c, s, m) =
        let derivatives : d ≡ f 2 itself = greatest_unique (IsSubstitutable substitute_system.unknowns (equation substitute_system 0)) d (f 2 itself) s.greatest substitute_at.greatest in
        let numbers : c ≡ pos 2 = same_constant c (pos 2) (sym (s.solved).leads ∙ ap (finite.value forms (equation substitute_system 0)) derivatives ∙ (substitute_at.solved).leads) in
        subst (λ c. Contains (substitute_made (f 2 itself) c) b) numbers (subst (λ d. Contains (substitute_made d c) b) derivatives m)

pub substitute_makes_these : SubstituteMakesThese
substitute_makes_these = subst (MakesExactly (SubstituteMakes substitute_system 0)) substitute_list substitute_exactly

-- ---- integrate
abbrev integrate_list : List Made
integrate_list =
    AnUnknown 5
    ∷ AForm (sum_of_triples (triple (pos 1) ((1, 1) ∷ []) 2 itself ∷ triple (pos 1) [] 5 itself ∷ []))
    ∷ ANumber 3
    ∷ AForm (sum_of_triples (triple (pos 6) ((0, 1) ∷ []) 1 (0 ∷ 2 ∷ []) ∷ triple (pos 1) ((0, 1) ∷ (1, 1) ∷ []) 2 itself ∷ triple (pos 18) [] 2 itself ∷ []))
    ∷ []

integrate_is : integrated_made integrate_before 0 (of_y 3) (f 3 by_y) (pos 3) 1 1 3 ≡ integrate_list
unfolding of none plus put term partial derivative put_in ◌*ᴾ◌
integrate_is = cons _ _ _ _ refl (cons _ _ _ _ (same_made _ _ refl) (cons _ _ _ _ refl (cons _ _ _ _ (same_made _ _ refl) refl)))

third_unknown : (g : Unknown) → Contains integrate_before.unknowns g → g.number ≡ 3 → g ≡ of_y 3
third_unknown g c e = first (contained_cons (of_y 1) (constant_unknown 2 ∷ of_y 3 ∷ of_x 4 ∷ []) g c)
  where
    other : (h : Unknown) → h ≡ g → ¬ (h.number ≡ 3) → g ≡ of_y 3
    other h k n = absurd (n (ap (λ (u : Unknown). u.number) k ∙ e))

    fourth : (of_x 4 ≡ g) ⊎ Contains [] g → g ≡ of_y 3
    fourth (inl k) = other (of_x 4) k (λ z. absurd (omega arith))
    fourth (inr k) = absurd (contains_nothing g k)

    third : (of_y 3 ≡ g) ⊎ Contains (of_x 4 ∷ []) g → g ≡ of_y 3
    third (inl k) = sym k
    third (inr k) = fourth (contained_cons (of_x 4) [] g k)

    second : (constant_unknown 2 ≡ g) ⊎ Contains (of_y 3 ∷ of_x 4 ∷ []) g → g ≡ of_y 3
    second (inl k) = other (constant_unknown 2) k (λ z. absurd (omega arith))
    second (inr k) = third (contained_cons (of_y 3) (of_x 4 ∷ []) g k)

    first : (of_y 1 ≡ g) ⊎ Contains (constant_unknown 2 ∷ of_y 3 ∷ of_x 4 ∷ []) g → g ≡ of_y 3
    first (inl k) = other (of_y 1) k (λ z. absurd (omega arith))
    first (inr k) = second (contained_cons (constant_unknown 2) (of_y 3 ∷ of_x 4 ∷ []) g k)

integrate_exactly : MakesExactly (IntegrateMakes integrate_before 0) (integrated_made integrate_before 0 (of_y 3) (f 3 by_y) (pos 3) 1 1 3)
integrate_exactly b = (forth, λ c. (of_y 3, f 3 by_y, pos 3, 1, 1, 3, integrate_at, c))
  where
    same_least : (a b : ℕ) → a ≤ b → b ≤ a → a ≡ b
    same_least a b h g = omega arith

    forth : IntegrateMakes integrate_before 0 b → Contains (integrated_made integrate_before 0 (of_y 3) (f 3 by_y) (pos 3) 1 1 3) b
    forth (g, d, c, v, k, L, a, m) =
        let derivatives : d ≡ f 3 by_y = greatest_unique (IsIntegrable integrate_before.unknowns (equation integrate_before 0)) d (f 3 by_y) a.greatest integrate_at.greatest in
        let numbers : c ≡ pos 3 = same_constant c (pos 3) (sym ((a.integrable).solved).leads ∙ ap (finite.value forms (equation integrate_before 0)) derivatives ∙ ((integrate_at.integrable).solved).leads) in
        let counts = counts_same v 1 k 1 (a.integrable).several (integrate_at.integrable).several (sym (a.integrable).derived ∙ ap (λ (z : Derivative). z.counts) derivatives ∙ (integrate_at.integrable).derived) in
        let unknowns : g ≡ of_y 3 = third_unknown g a.listed (a.number ∙ ap (λ (z : Derivative). z.unknown) derivatives) in
        let all : ◌≡◌ {A = Unknown × Derivative × ℤ × ℕ × ℕ} (g, d, c, v, k) (of_y 3, f 3 by_y, pos 3, 1, 1) = λ t. (unknowns t, derivatives t, numbers t, counts.0 t, counts.1 t) in
        let least : IsLeastDenominator (pos 3) 1 1 (triples (rest_of (f 3 by_y) (equation integrate_before 0))) L =
        subst (λ (x : Unknown × Derivative × ℤ × ℕ × ℕ). IsLeastDenominator x.2 x.3 x.4 (triples (rest_of x.1 (equation integrate_before 0))) L) all a.denominator in
        let denominators : L ≡ 3 = same_least L 3 (least.least 3 (integrate_at.denominator).positive (integrate_at.denominator).clears) ((integrate_at.denominator).least L least.positive least.clears) in
        subst (λ L. Contains (integrated_made integrate_before 0 (of_y 3) (f 3 by_y) (pos 3) 1 1 L) b) denominators
        (subst (λ (x : Unknown × Derivative × ℤ × ℕ × ℕ). Contains (integrated_made integrate_before 0 x.0 x.1 x.2 x.3 x.4 L) b) all m)

pub integrate_makes_these : IntegrateMakesThese
integrate_makes_these = subst (MakesExactly (IntegrateMakes integrate_before 0)) integrate_is integrate_exactly

-- ---- the turns of a normal form
turn : {us : List Unknown} {Ls : List LinearForm} {E : LinearForm} (d : Derivative) (j : ℕ) (l : Derivative) → IsReduction Ls E d j l → (F : LinearForm) → reduced_once us E d (get_or Ls j no_form) l ≡ F → (rs bs : List Made) → reduction_made us E d (get_or Ls j no_form) l ≡ rs → MakesExactly (NormalFormMakes us Ls F) bs → MakesExactly (NormalFormMakes us Ls E) (rs ++ bs)
turn {us} {Ls} {E} d j l r F e rs bs m h b = (λ w. forth (work_from d j l r b w), λ c. back (Contains-append_cases rs bs b c))
  where
    forth : Contains (reduction_made us E d (get_or Ls j no_form) l) b ⊎ NormalFormMakes us Ls (reduced_once us E d (get_or Ls j no_form) l) b → Contains (rs ++ bs) b
    forth (inl c) = Contains-append_left rs bs b (subst (λ rs. Contains rs b) m c)
    forth (inr w) = Contains-append_right rs bs b ((h b).0 (subst (λ F. NormalFormMakes us Ls F b) e w))

    back : Contains rs b ⊎ Contains bs b → NormalFormMakes us Ls E b
    back (inl c) = now d j l r (subst (λ rs. Contains rs b) (sym m) c)
    back (inr c) = later d j l r (subst (λ F. NormalFormMakes us Ls F b) (sym e) ((h b).1 c))

no_turn : {us : List Unknown} {Ls : List LinearForm} {E : LinearForm} → ((d : Derivative) → ¬ (IsReducible Ls E d)) → MakesExactly (NormalFormMakes us Ls E) []
no_turn n b = (λ w. absurd (no_work n w), λ c. absurd (contains_nothing b c))

-- the lead of E is reduced by the first equation
by_first : (L : LinearForm) (Ls : List LinearForm) (E : LinearForm) (d l : Derivative) → IsLead d E → IsLead l L → Divides l d → IsReduction (L ∷ Ls) E d 0 l
by_first L Ls E d l lead led div = record {
  greatest = record { holds = (lead.occurs, 0, omega arith, (l, led, div)); greatest = λ e r. lead.greatest e r.0 };
  place = omega arith;
  lead = led;
  divides = div;
  first = λ k lt h. absurd (omega arith);
}

once_divides_twice : Divides (f 1 by_x) (f 1 by_x_twice)
once_divides_twice = record { unknown = refl; counts = twice }
  where
    twice : (v : ℕ) → get_or by_x v 0 ≤ get_or by_x_twice v 0
    twice zero = omega arith
    twice (suc v) = omega arith

abbrev between : LinearForm
between = sum_of_triples (triple (pos 1) [] 1 by_x ∷ triple (pos 1) [] 2 itself ∷ [])

abbrev left : LinearForm
left = sum_of_triples (triple (pos 1) [] 2 itself ∷ triple (pos 1) [] 1 itself ∷ [])

turned_lead : IsLead (f 1 by_x_twice) turned_form
unfolding of none plus put term
turned_lead = first_is_lead turned_form _ _ refl

between_lead : IsLead (f 1 by_x) between
unfolding of none plus put term
between_lead = first_is_lead between _ _ refl

turning_lead : IsLead (f 1 by_x) turning_equation
unfolding of none plus put term
turning_lead = first_is_lead turning_equation _ _ refl

first_leaves : reduced_once turned_system.unknowns turned_form (f 1 by_x_twice) turning_equation (f 1 by_x) ≡ between
unfolding of none plus put term partial derivative ◌*ᴾ◌ quotient common_divisor each_exponent primitive
first_leaves = same_list forms _ _ refl

second_leaves : reduced_once turned_system.unknowns between (f 1 by_x) turning_equation (f 1 by_x) ≡ left
unfolding of none plus put term partial derivative ◌*ᴾ◌ quotient common_divisor each_exponent primitive
second_leaves = same_list forms _ _ refl

first_makes : reduction_made turned_system.unknowns turned_form (f 1 by_x_twice) turning_equation (f 1 by_x) ≡ first_turn
unfolding of none plus put term partial derivative ◌*ᴾ◌ quotient common_divisor each_exponent absolute
first_makes = cons _ _ _ _ (same_made _ _ refl) (cons _ _ _ _ (same_made _ _ refl) refl)

second_makes : reduction_made turned_system.unknowns between (f 1 by_x) turning_equation (f 1 by_x) ≡ second_turn
unfolding of none plus put term partial derivative ◌*ᴾ◌ quotient common_divisor each_exponent absolute
second_makes = cons _ _ _ _ (same_made _ _ refl) refl

left_counts : (d : Derivative) → Occurs d left → get_or d.counts 0 0 ≡ 0
unfolding of none plus put term
left_counts d o = occurs_in (λ d. get_or d.counts 0 0 ≡ 0) left (refl, (refl, tt)) d o

left_done : (d : Derivative) → ¬ (IsReducible (turning_equation ∷ []) left d)
left_done d (o, zero, lt, led) = leads_none 0 (f 1 by_x) turning_equation d turning_lead (omega arith) (left_counts d o) led
left_done d (o, suc j, lt, led) = absurd (omega arith)

first_reduction : IsReduction (turning_equation ∷ []) turned_form (f 1 by_x_twice) 0 (f 1 by_x)
first_reduction = by_first turning_equation [] turned_form (f 1 by_x_twice) (f 1 by_x) turned_lead turning_lead once_divides_twice

second_reduction : IsReduction (turning_equation ∷ []) between (f 1 by_x) 0 (f 1 by_x)
second_reduction = by_first turning_equation [] between (f 1 by_x) (f 1 by_x) between_lead turning_lead (same_divides (f 1 by_x))

pub two_turns_make_these : TwoTurnsMakeThese
two_turns_make_these = turn (f 1 by_x_twice) 0 (f 1 by_x) first_reduction between first_leaves first_turn second_turn first_makes
    (turn (f 1 by_x) 0 (f 1 by_x) second_reduction left second_leaves second_turn [] second_makes (no_turn left_done))

pub reduce_makes_these : ReduceMakesThese
reduce_makes_these b = (λ h. (two_turns_make_these b).0 h.1, λ c. ((omega arith, f 1 by_x_twice, (first_reduction.greatest).holds), (two_turns_make_these b).1 c))

-- ---- foreign
abbrev own_equation : LinearForm
own_equation = equation own_system 0

abbrev own_derivative : LinearForm
own_derivative = sum_of_triples (triple (pos 1) [] 1 (0 ∷ 2 ∷ []) ∷ [])

abbrev own_turn : List Made
own_turn = AForm (sum_of_triples (triple (pos 2) ((0, 1) ∷ []) 1 (0 ∷ 2 ∷ []) ∷ triple (pos 1) [] 1 itself ∷ [])) ∷ []

own_lead : IsLead (f 1 (0 ∷ 2 ∷ [])) own_equation
unfolding of none plus put term
own_lead = first_is_lead own_equation _ _ refl

own_derivative_lead : IsLead (f 1 (0 ∷ 2 ∷ [])) own_derivative
unfolding of none plus put term
own_derivative_lead = first_is_lead own_derivative _ _ refl

own_derived : derivative own_system.unknowns 0 own_equation ≡ own_derivative
unfolding of none plus put term partial derivative
own_derived = same_list forms _ _ refl

own_bulk : AForm (derivative_bulk own_system.unknowns 0 own_equation) ≡ AForm own_derivative
unfolding of none plus put term partial derivative
own_bulk = same_made _ _ refl

own_leaves : reduced_once own_system.unknowns own_derivative (f 1 (0 ∷ 2 ∷ [])) own_equation (f 1 (0 ∷ 2 ∷ [])) ≡ unknown_form 1
unfolding of none plus put term partial derivative ◌*ᴾ◌ quotient common_divisor each_exponent primitive
own_leaves = same_list forms _ _ refl

own_makes : reduction_made own_system.unknowns own_derivative (f 1 (0 ∷ 2 ∷ [])) own_equation (f 1 (0 ∷ 2 ∷ [])) ≡ own_turn
unfolding of none plus put term partial derivative ◌*ᴾ◌ quotient common_divisor each_exponent absolute
own_makes = cons _ _ _ _ (same_made _ _ refl) refl

own_counts : (d : Derivative) → Occurs d (unknown_form 1) → get_or d.counts 1 0 ≡ 0
unfolding of none plus put term
own_counts d o = occurs_in (λ d. get_or d.counts 1 0 ≡ 0) (unknown_form 1) (refl, tt) d o

own_done : (d : Derivative) → ¬ (IsReducible own_system.equations (unknown_form 1) d)
own_done d (o, zero, lt, led) = leads_none 1 (f 1 (0 ∷ 2 ∷ [])) own_equation d own_lead (omega arith) (own_counts d o) led
own_done d (o, suc j, lt, led) = absurd (omega arith)

own_reduction : IsReduction own_system.equations own_derivative (f 1 (0 ∷ 2 ∷ [])) 0 (f 1 (0 ∷ 2 ∷ []))
own_reduction = by_first own_equation [] own_derivative (f 1 (0 ∷ 2 ∷ [])) (f 1 (0 ∷ 2 ∷ [])) own_derivative_lead own_lead (same_divides (f 1 (0 ∷ 2 ∷ [])))

own_work : MakesExactly (NormalFormMakes own_system.unknowns own_system.equations (derivative own_system.unknowns 0 own_equation)) own_turn
own_work = subst (λ E. MakesExactly (NormalFormMakes own_system.unknowns own_system.equations E) own_turn) (sym own_derived)
    (turn (f 1 (0 ∷ 2 ∷ [])) 0 (f 1 (0 ∷ 2 ∷ [])) own_reduction (unknown_form 1) own_leaves own_turn [] own_makes (no_turn own_done))

one_apart_from_none : ¬ (unknown_form 1 ≡ no_form)
unfolding of none plus put term
one_apart_from_none z = absurd (let e : 1 ≡ 0 = ap (λ (E : LinearForm). length E.list) z in omega arith)

own_foreign : IsForeignBy own_system 0 0 (unknown_form 1)
own_foreign = record {
  lead = f 1 (0 ∷ 2 ∷ []);
  leads = own_lead;
  free = refl;
  normal = subst (λ E. IsNormalForm own_system.unknowns own_system.equations E (unknown_form 1)) (sym own_derived)
      (onward (f 1 (0 ∷ 2 ∷ [])) 0 (f 1 (0 ∷ 2 ∷ [])) own_reduction (subst (λ E. IsNormalForm own_system.unknowns own_system.equations E (unknown_form 1)) (sym own_leaves) (done own_done)));
  some = one_apart_from_none;
}

pub foreign_tries_these : ForeignTriesThese
foreign_tries_these b = (forth, λ c. back (contained_cons (AForm own_derivative) own_turn b c))
  where
    forth : ForeignTries own_system 0 b → Contains (AForm own_derivative ∷ own_turn) b
    forth (zero, t, inl e) = subst (Contains (AForm own_derivative ∷ own_turn)) (sym (e ∙ own_bulk)) (contains_first (AForm own_derivative) own_turn)
    forth (zero, t, inr w) = Contains-append_right (AForm own_derivative ∷ []) own_turn b ((own_work b).0 w)
    forth (suc zero, t, w) = absurd (true≢false (subst (λ (l : Derivative). depends own_system.unknowns l.unknown 1 ≡ false) (lead_unique own_equation t.lead (f 1 (0 ∷ 2 ∷ [])) t.leads own_lead) t.free))
    forth (suc (suc v), t, w) = absurd (t.before 0 (unknown_form 1) (omega arith) own_foreign)

    back : (AForm own_derivative ≡ b) ⊎ Contains own_turn b → ForeignTries own_system 0 b
    back (inl e) = (0, record { lead = f 1 (0 ∷ 2 ∷ []); leads = own_lead; free = refl; before = λ w M lt h. absurd (omega arith) }, inl (sym e ∙ sym own_bulk))
    back (inr c) = (0, record { lead = f 1 (0 ∷ 2 ∷ []); leads = own_lead; free = refl; before = λ w M lt h. absurd (omega arith) }, inr ((own_work b).1 c))

-- ---- cross
abbrev chain_rest : LinearForm
chain_rest = sum_of_triples (triple (negsuc 0) [] 1 by_x ∷ [])

abbrev chain_made : List Made
chain_made = AForm (sum_of_triples (triple (pos 1) [] 1 by_x_twice ∷ [])) ∷ AForm (sum_of_triples (triple (pos 2) [] 1 by_x_twice ∷ triple (pos 1) [] 1 by_x ∷ [])) ∷ []

abbrev chain_turn : List Made
chain_turn = AForm (sum_of_triples (triple (pos 2) [] 1 by_x ∷ [])) ∷ []

chain_first : IsLead (f 1 by_x) (equation chain_system 0)
unfolding of none plus put term
chain_first = first_is_lead (equation chain_system 0) _ _ refl

chain_second : IsLead (f 1 by_x_twice) (equation chain_system 1)
unfolding of none plus put term
chain_second = first_is_lead (equation chain_system 1) _ _ refl

chain_lead : IsLead (f 1 by_x) chain_rest
unfolding of none plus put term
chain_lead = first_is_lead chain_rest _ _ refl

chain_crossed : crossed chain_system 0 1 (f 1 by_x) (f 1 by_x_twice) ≡ chain_rest
unfolding of none plus put term partial derivative ◌*ᴾ◌ quotient common_divisor each_exponent
chain_crossed = same_list forms _ _ refl

chain_list : crossed_made chain_system 0 1 (f 1 by_x) (f 1 by_x_twice) ≡ chain_made
unfolding of none plus put term partial derivative ◌*ᴾ◌ quotient common_divisor each_exponent absolute
chain_list = cons _ _ _ _ (same_made _ _ refl) (cons _ _ _ _ (same_made _ _ refl) refl)

chain_leaves : reduced_once chain_system.unknowns chain_rest (f 1 by_x) (equation chain_system 0) (f 1 by_x) ≡ no_form
unfolding of none plus put term partial derivative ◌*ᴾ◌ quotient common_divisor each_exponent primitive
chain_leaves = same_list forms _ _ refl

chain_makes : reduction_made chain_system.unknowns chain_rest (f 1 by_x) (equation chain_system 0) (f 1 by_x) ≡ chain_turn
unfolding of none plus put term partial derivative ◌*ᴾ◌ quotient common_divisor each_exponent absolute
chain_makes = cons _ _ _ _ (same_made _ _ refl) refl

nothing_occurs : (d : Derivative) → ¬ (Occurs d no_form)
unfolding of none
nothing_occurs d o = occurs_in (λ d. ⊥) no_form tt d o

chain_work : MakesExactly (NormalFormMakes chain_system.unknowns chain_system.equations (crossed chain_system 0 1 (f 1 by_x) (f 1 by_x_twice))) chain_turn
chain_work = subst (λ E. MakesExactly (NormalFormMakes chain_system.unknowns chain_system.equations E) chain_turn) (sym chain_crossed)
    (turn (f 1 by_x) 0 (f 1 by_x) (by_first (equation chain_system 0) (equation chain_system 1 ∷ []) chain_rest (f 1 by_x) (f 1 by_x) chain_lead chain_first (same_divides (f 1 by_x))) no_form chain_leaves chain_turn [] chain_makes
    (no_turn (λ d r. nothing_occurs d r.0)))

pub cross_tries_these : CrossTriesThese
cross_tries_these b = (forth, λ c. (f 1 by_x, f 1 by_x_twice, chain_first, chain_second, refl, back (Contains-append_cases chain_made chain_turn b c)))
  where
    told : Contains (crossed_made chain_system 0 1 (f 1 by_x) (f 1 by_x_twice)) b ⊎ NormalFormMakes chain_system.unknowns chain_system.equations (crossed chain_system 0 1 (f 1 by_x) (f 1 by_x_twice)) b → Contains (chain_made ++ chain_turn) b
    told (inl c) = Contains-append_left chain_made chain_turn b (subst (λ bs. Contains bs b) chain_list c)
    told (inr w) = Contains-append_right chain_made chain_turn b ((chain_work b).0 w)

    forth : CrossTries chain_system 0 1 b → Contains (chain_made ++ chain_turn) b
    forth (l, m, hl, hm, u, w) =
        let first : l ≡ f 1 by_x = lead_unique (equation chain_system 0) l (f 1 by_x) hl chain_first in
        let second : m ≡ f 1 by_x_twice = lead_unique (equation chain_system 1) m (f 1 by_x_twice) hm chain_second in
        told (subst (λ m. Contains (crossed_made chain_system 0 1 (f 1 by_x) m) b ⊎ NormalFormMakes chain_system.unknowns chain_system.equations (crossed chain_system 0 1 (f 1 by_x) m) b) second
        (subst (λ l. Contains (crossed_made chain_system 0 1 l m) b ⊎ NormalFormMakes chain_system.unknowns chain_system.equations (crossed chain_system 0 1 l m) b) first w))

    back : Contains chain_made b ⊎ Contains chain_turn b → Contains (crossed_made chain_system 0 1 (f 1 by_x) (f 1 by_x_twice)) b ⊎ NormalFormMakes chain_system.unknowns chain_system.equations (crossed chain_system 0 1 (f 1 by_x) (f 1 by_x_twice)) b
    back (inl c) = inl (subst (λ bs. Contains bs b) (sym chain_list) c)
    back (inr c) = inr ((chain_work b).1 c)
