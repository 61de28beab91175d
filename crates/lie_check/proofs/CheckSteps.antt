-- A check, equation by equation.
use Rattle.std.specs.Prelude.{◌≡◌, ℕ, suc, ◌+◌, ◌<◌, ◌≤◌, ◌==◌, Bool, true, false, ltb, List, [], ◌∷◌, length, map, All}
use Rattle.std.specs.List.{Contains}
use Rattle.std.proofs.Common.{refl, sym, ap, subst, ◌∙◌, arith, get_or, ltb-true, ltb-false}
use Rattle.std.proofs.lemmas.List.{get_or-map, length-map}
use Rattle.lie_math.specs.Limits.{IsWithinLimits}
use Rattle.lie_math.specs.Polynomial.{WholePolynomial, 0ᴾ}
use Rattle.lie_geometry.specs.Coordinates.{Space, coordinate, coordinates_up_to}
use Rattle.lie_geometry.specs.Invariance.{greatest_order, applied_prolongation}
use Rattle.lie_geometry.specs.SolvedEquations.{SolvedEquation}
use Rattle.lie_systems.specs.Works.{APolynomial, IsMadePast}
use Rattle.lie_ring.specs.Causes.{IsPast, IsCause}
use Rattle.lie_ring.specs.declared.failures.PastKind.{PastKind}
use Rattle.lie_ring.specs.declared.failures.PastKind.TheVariants.{Coefficient, Exponent, Terms, Order, Unknowns, Width}
use Rattle.lie_ring.specs.declared.failures.PolyFail.{PolyFail}
use Rattle.lie_ring.specs.declared.failures.PolyFail.TheVariants.{Past, NoMemory}
use Rattle.lie_prolong.specs.Bulks.{bulk_at}
use Rattle.lie_jet.specs.JetLists.{HoldsUpTo}
use Rattle.lie_solved.specs.declared.solved.LeadRule.{LeadRule}
use Rattle.lie_solved.specs.SolvedForms.{solved_equation, solved_equations}
use Rattle.lie_check.specs.Actions.{application_bulk, coefficient, application, reduction, AreActionsWithin, IsActionCause}
use Rattle.lie_check.specs.Coefficients.{IsProlongationCause}
use Rattle.lie_reduce.specs.Bulks.{reduction_bulk}
use Rattle.lie_reduce.specs.Kinds.{limit_of}
use Rattle.lie_check.specs.Verdicts.{remainder, IsFirstRemainder, next_verdict}
use Rattle.lie_check.specs.declared.verdict.Verdict.{Verdict}
use Rattle.lie_check.specs.declared.verdict.Verdict.TheVariants.{Yes, No}
use Rattle.lie_reduce.proofs.Places.{at_place, contained, of_contained}
use Rattle.lie_reduce.proofs.Replacing.{empty_zero, zero_empty}

-- a polynomial that is past a limit is made past it
polynomial_past : (kind : PastKind) (p : WholePolynomial) → IsPast kind p → IsMadePast (limit_of kind) (APolynomial p)
polynomial_past Coefficient p h = h
polynomial_past Exponent p h = h
polynomial_past Terms p h = h
polynomial_past Order p h = h
polynomial_past Unknowns p h = h
polynomial_past Width p h = h

module _ (S : Space) (V : ℕ → WholePolynomial) (rules : List LeadRule) where
  abbrev equations : List SolvedEquation
  equations = solved_equations S rules

  -- ---- the actions
  -- neither action of an equation is past a limit
  pub record IsChecked (r : SolvedEquation) : Type 0 where
    pub applied : IsWithinLimits (application_bulk S equations V r)
    pub reduced : IsWithinLimits (reduction_bulk equations (applied_prolongation S equations V r))

  -- of the first i equations
  abbrev pub AreChecked : ℕ → Type 0
  AreChecked i = (k : ℕ) (d : LeadRule) → k < i → IsChecked (solved_equation S (get_or rules k d))

  pub checked_more : (i : ℕ) (r : LeadRule) → i < length rules → r ≡ get_or rules i r → AreChecked i → IsChecked (solved_equation S r) → AreChecked (i + 1)
  checked_more i r inside is h here k d l = by (ltb k i) refl
    where
      by : (t : Bool) → ltb k i ≡ t → IsChecked (solved_equation S (get_or rules k d))
      by true e = h k d (ltb-true k i e)
      by false e = let q : i ≤ k = ltb-false k i e in subst (λ m. IsChecked (solved_equation S (get_or rules m d))) (let z : i ≡ k = omega arith in z) (subst (λ (x : LeadRule). IsChecked (solved_equation S x)) (at_place rules i r d inside is) here)

  pub all_checked : (n i : ℕ) → n ≡ greatest_order S equations → HoldsUpTo S n (λ c. IsWithinLimits (bulk_at S V c)) → length rules ≤ i → AreChecked i → AreActionsWithin S equations V
  all_checked n i e low h done B (coefficient w after within) = low w after (subst (λ m. w < coordinates_up_to S m) (sym e) within)
  all_checked n i e low h done B (application r c) = of_contained S rules (λ x. IsWithinLimits (application_bulk S equations V x)) (λ k d l. (done k d (less l)).applied) r c
    where
      less : {k : ℕ} → k < length rules → k < i
      less l = omega arith
  all_checked n i e low h done B (reduction r c) = of_contained S rules (λ x. IsWithinLimits (reduction_bulk equations (applied_prolongation S equations V x))) (λ k d l. (done k d (less l)).reduced) r c
    where
      less : {k : ℕ} → k < length rules → k < i
      less l = omega arith

  pub coefficient_cause : (n : ℕ) (fail : PolyFail) → n ≡ greatest_order S equations → IsProlongationCause S V n fail → IsActionCause S equations V fail
  coefficient_cause n (Past kind) e h = (APolynomial (bulk_at S V (coordinate S h.0)), coefficient h.0 h.1 (subst (λ m. h.0 < coordinates_up_to S m) e h.2), polynomial_past kind _ h.3)
  coefficient_cause n NoMemory e h = tt

  module _ (i : ℕ) (r : LeadRule) (inside : i < length rules) (is : r ≡ get_or rules i r) where
    at_rule : Contains equations (solved_equation S r)
    at_rule = subst (λ (x : LeadRule). Contains equations (solved_equation S x)) (sym is) (contained S rules i r inside)

    pub applied_cause : (fail : PolyFail) → IsCause fail (application_bulk S equations V (solved_equation S r)) → IsActionCause S equations V fail
    applied_cause (Past kind) h = (APolynomial (application_bulk S equations V (solved_equation S r)), application (solved_equation S r) at_rule, polynomial_past kind _ h)
    applied_cause NoMemory h = tt

    pub reduced_cause : (fail : PolyFail) → IsCause fail (reduction_bulk equations (applied_prolongation S equations V (solved_equation S r))) → IsActionCause S equations V fail
    reduced_cause (Past kind) h = (APolynomial (reduction_bulk equations (applied_prolongation S equations V (solved_equation S r))), reduction (solved_equation S r) at_rule, polynomial_past kind _ h)
    reduced_cause NoMemory h = tt

  -- ---- the verdict of the first i equations
  abbrev pub IsVerdictOf : ℕ → Verdict → Type 0
  IsVerdictOf i Yes = (k : ℕ) (d : SolvedEquation) → k < i → remainder S equations V (get_or equations k d) ≡ 0ᴾ
  IsVerdictOf i (No n P) = IsFirstRemainder S equations V n P

  module _ (i : ℕ) (r : LeadRule) (inside : i < length rules) (is : r ≡ get_or rules i r) where
    equation_at : (d : SolvedEquation) → get_or equations i d ≡ solved_equation S r
    equation_at d = get_or-map (solved_equation S) rules i r d inside ∙ ap (solved_equation S) (sym is)

    inside_equations : i < length equations
    inside_equations = let e = length-map rules (solved_equation S) in omega arith

    none_of : (P : WholePolynomial) → (length P.list == 0) ≡ true → P ≡ 0ᴾ
    none_of P e = empty_zero P (length P.list) refl (Rattle.std.proofs.Common.eqb-true (length P.list) 0 e)

    some_of : (P : WholePolynomial) → (length P.list == 0) ≡ false → ¬ (P ≡ 0ᴾ)
    some_of P e z = Rattle.std.proofs.Common.true≢false (sym (ap (λ (Q : WholePolynomial). length Q.list == 0) z ∙ nothing) ∙ e)
      where
        nothing : (length (0ᴾ).list == 0) ≡ true
        nothing = Rattle.std.proofs.Common.eq-eqb (length (0ᴾ).list) 0 (zero_empty 0ᴾ (length (0ᴾ).list) refl refl)

    pub verdict_more : (n : ℕ) (v new : Verdict) (P : WholePolynomial) → n ≡ suc i → P ≡ remainder S equations V (solved_equation S r) → new ≡ next_verdict v n P → IsVerdictOf i v → IsVerdictOf (i + 1) new
    verdict_more n Yes new P e p f h = subst (IsVerdictOf (i + 1)) (sym f) (by (length P.list == 0) refl)
      where
        by : (t : Bool) → (length P.list == 0) ≡ t → IsVerdictOf (i + 1) (Rattle.std.specs.Prelude.if◌then◌else◌ t Yes (No n P))
        by true q = λ k d l. at k d l (ltb k i) refl
          where
            at : (k : ℕ) (d : SolvedEquation) → k < i + 1 → (t : Bool) → ltb k i ≡ t → remainder S equations V (get_or equations k d) ≡ 0ᴾ
            at k d l true u = h k d (ltb-true k i u)
            at k d l false u =
                let m : i ≤ k = ltb-false k i u in
                ap (λ j. remainder S equations V (get_or equations j d)) (let z : k ≡ i = omega arith in z) ∙ ap (remainder S equations V) (equation_at d) ∙ sym p ∙ none_of P q
        by false q = record {
          place = i;
          number = e;
          within = inside_equations;
          before = λ k d l. h k d l;
          here = λ d. ap (remainder S equations V) (equation_at d) ∙ sym p;
          not_zero = some_of P q;
        }
    verdict_more n (No j Q) new P e p f h = subst (IsVerdictOf (i + 1)) (sym f) h
