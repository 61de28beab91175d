-- The conditions, equation by equation.
use Rattle.std.specs.Prelude.{◌≡◌, ℕ, ◌+◌, ◌<◌, ◌≤◌, Bool, true, false, ltb, List, [], ◌∷◌, ◌++◌, length, map, take}
use Rattle.std.specs.List.{Contains}
use Rattle.std.proofs.Common.{refl, sym, ap, subst, ◌∙◌, arith, get_or, inl, inr, ltb-true, ltb-false}
use Rattle.std.proofs.lemmas.List.{take_more, get_or-map, length-map, map_push}
use Rattle.lie_math.specs.LinearForm.{LinearForm}
use Rattle.lie_geometry.specs.Coordinates.{Space, coordinate, coordinates_up_to}
use Rattle.lie_geometry.specs.Invariance.{greatest_order}
use Rattle.lie_geometry.specs.SolvedEquations.{SolvedEquation}
use Rattle.lie_geometry.specs.SymbolicProlongation.{symbolic_application}
use Rattle.lie_geometry.proofs.Numbers.{count_rises}
use Rattle.lie_systems.specs.Bulk.{IsFormWithinLimits}
use Rattle.lie_systems.specs.Works.{AForm, IsMadePast}
use Rattle.lie_form.specs.FormLimits.{IsFormPast, IsFormCause}
use Rattle.lie_jet.specs.JetLists.{HoldsUpTo}
use Rattle.lie_jet.specs.Jets.{IsSmall}
use Rattle.lie_symbolic.specs.SymbolicBulks.{symbolic_bulk_at}
use Rattle.lie_ring.specs.declared.failures.PastKind.{PastKind}
use Rattle.lie_ring.specs.declared.failures.PastKind.TheVariants.{Coefficient, Exponent, Terms, Order, Unknowns, Width}
use Rattle.lie_ring.specs.declared.failures.PolyFail.{PolyFail}
use Rattle.lie_ring.specs.declared.failures.PolyFail.TheVariants.{Past, NoMemory}
use Rattle.lie_solved.specs.declared.solved.LeadRule.{LeadRule}
use Rattle.lie_solved.specs.SolvedForms.{solved_equation, solved_equations}
use Rattle.lie_reduce.proofs.Places.{contained, of_contained}
use Rattle.lie_reduce.specs.Bulks.{absolute_equation, absolute_equations}
use Rattle.lie_reduce.specs.Kinds.{limit_of}
use Rattle.lie_determining.specs.Conditions.{condition_of, IsConditionWithin, IsConditionCause, AreFormActionsWithin, IsFormActionCause}
use Rattle.lie_determining.specs.Openings.{coefficient, application, reduction}
use Rattle.lie_determining.specs.SymbolicBulks.{symbolic_application_bulk, symbolic_reduction_bulk}

-- the rule with absolute values at a place
pub sized_at : (S : Space) (rules sized : List LeadRule) (i : ℕ) (r q : LeadRule) → solved_equations S sized ≡ absolute_equations (solved_equations S rules) → i < length rules → r ≡ get_or rules i r → q ≡ get_or sized i q → solved_equation S q ≡ absolute_equation (solved_equation S r)
sized_at S rules sized i r q all h e f =
    ap (solved_equation S) f ∙ sym (get_or-map (solved_equation S) sized i q (solved_equation S q) inside) ∙ ap (λ xs. get_or xs i (solved_equation S q)) all
    ∙ get_or-map absolute_equation (solved_equations S rules) i (solved_equation S r) (solved_equation S q) (let a = length-map rules (solved_equation S) in omega arith)
    ∙ ap absolute_equation (get_or-map (solved_equation S) rules i r (solved_equation S r) h ∙ ap (solved_equation S) (sym e))
  where
    inside : i < length sized
    inside = let a = length-map rules (solved_equation S) in let b = length-map sized (solved_equation S) in let c = ap length all in let d = length-map (solved_equations S rules) absolute_equation in omega arith

-- the rule at a place is one of them
pub rule_inside : (S : Space) (rules : List LeadRule) (i : ℕ) (r : LeadRule) → i < length rules → r ≡ get_or rules i r → Contains (solved_equations S rules) (solved_equation S r)
rule_inside S rules i r h e = subst (λ (x : LeadRule). Contains (solved_equations S rules) (solved_equation S x)) (sym e) (contained S rules i r h)

-- a form that is past a limit is made past it
form_past : (kind : PastKind) (E : LinearForm) → IsFormPast kind E → IsMadePast (limit_of kind) (AForm E)
form_past Coefficient E h = h
form_past Exponent E h = h
form_past Terms E h = h
form_past Order E h = h
form_past Unknowns E h = h
form_past Width E h = h

-- ---- one equation
module _ (S : Space) (rs : List SolvedEquation) (r : SolvedEquation) where
  pub applied_cause : (fail : PolyFail) → IsFormCause fail (symbolic_application_bulk S rs r) → IsConditionCause S rs r fail
  applied_cause (Past kind) h = inl h
  applied_cause NoMemory h = tt

  pub reduced_cause : (fail : PolyFail) (E : LinearForm) → E ≡ symbolic_application S rs r → IsFormCause fail (symbolic_reduction_bulk rs E) → IsConditionCause S rs r fail
  reduced_cause (Past kind) E e h = inr (subst (λ F. IsFormCause (Past kind) (symbolic_reduction_bulk rs F)) e h)
  reduced_cause NoMemory E e h = tt

  pub condition_cause : (fail : PolyFail) → Contains rs r → IsConditionCause S rs r fail → IsFormActionCause S rs fail
  condition_cause (Past kind) c h = elim h [
    | inl p ↦ (AForm (symbolic_application_bulk S rs r), application r c, form_past kind _ p)
    | inr p ↦ (AForm (symbolic_reduction_bulk rs (symbolic_application S rs r)), reduction r c, form_past kind _ p)
  ]
  condition_cause NoMemory c h = tt

-- ---- all of them
module _ (S : Space) (rules : List LeadRule) where
  abbrev equations : List SolvedEquation
  equations = solved_equations S rules

  abbrev pub AreMade : ℕ → List LinearForm → Type 0
  AreMade i made = made ≡ map (condition_of S equations) (solved_equations S (take i rules))

  abbrev pub AreDone : ℕ → Type 0
  AreDone i = (k : ℕ) (d : LeadRule) → k < i → IsConditionWithin S equations (solved_equation S (get_or rules k d))

  pub made_more : (i : ℕ) (made new : List LinearForm) (E : LinearForm) → i < length rules → AreMade i made → new ≡ made ++ E ∷ [] → ((d : LeadRule) → E ≡ condition_of S equations (solved_equation S (get_or rules i d))) → AreMade (i + 1) new
  made_more i made new E h e put is = by rules refl
    where
      by : (xs : List LeadRule) → xs ≡ rules → AreMade (i + 1) new
      by [] q = absurd (let z : 0 ≡ length rules = ap length q in omega arith)
      by (d ∷ xs) q =
          put ∙ ap (λ l. l ++ E ∷ []) e ∙ ap (λ F. map (condition_of S equations) (solved_equations S (take i rules)) ++ F ∷ []) (is d)
          ∙ sym (map_push (condition_of S equations) (solved_equations S (take i rules)) (solved_equation S (get_or rules i d)))
          ∙ ap (map (condition_of S equations)) (sym (map_push (solved_equation S) (take i rules) (get_or rules i d)) ∙ ap (solved_equations S) (sym (take_more rules i d h)))

  pub done_more : (i : ℕ) → AreDone i → ((d : LeadRule) → IsConditionWithin S equations (solved_equation S (get_or rules i d))) → AreDone (i + 1)
  done_more i h g k d l = by (ltb k i) refl
    where
      by : (t : Bool) → ltb k i ≡ t → IsConditionWithin S equations (solved_equation S (get_or rules k d))
      by true e = h k d (ltb-true k i e)
      by false e = let q : i ≤ k = ltb-false k i e in subst (λ m. IsConditionWithin S equations (solved_equation S (get_or rules m d))) (let z : i ≡ k = omega arith in z) (g d)

  pub all_done : (n i : ℕ) → IsSmall S → n ≡ greatest_order S equations → n ≤ 6 → HoldsUpTo S 6 (λ c. IsFormWithinLimits (symbolic_bulk_at S c)) → length rules ≤ i → AreDone i → AreFormActionsWithin S equations
  all_done n i small e few low h done B (coefficient w after within) = low w after (less (subst (λ m. w < coordinates_up_to S m) (sym e) within) (count_rises S small.some_p small.some_q n 6 few))
    where
      less : {a b c : ℕ} → a < b → b ≤ c → a < c
      less h k = omega arith
  all_done n i small e few low h done B (application r c) = of_contained S rules (λ x. IsFormWithinLimits (symbolic_application_bulk S equations x)) (λ k d l. (done k d (less l)).application) r c
    where
      less : {k : ℕ} → k < length rules → k < i
      less l = omega arith
  all_done n i small e few low h done B (reduction r c) = of_contained S rules (λ x. IsFormWithinLimits (symbolic_reduction_bulk equations (symbolic_application S equations x))) (λ k d l. (done k d (less l)).reduction) r c
    where
      less : {k : ℕ} → k < length rules → k < i
      less l = omega arith

  pub place_cause : (i : ℕ) (fail : PolyFail) → i < length rules → ((d : LeadRule) → IsConditionCause S equations (solved_equation S (get_or rules i d)) fail) → IsFormActionCause S equations fail
  place_cause i fail h cause = by rules refl
    where
      by : (xs : List LeadRule) → xs ≡ rules → IsFormActionCause S equations fail
      by [] q = absurd (let z : 0 ≡ length rules = ap length q in omega arith)
      by (d ∷ xs) q = condition_cause S equations (solved_equation S (get_or rules i d)) fail (contained S rules i d h) (cause d)
