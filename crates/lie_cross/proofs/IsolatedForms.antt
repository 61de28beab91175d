-- The search for a part with one derivative: what is found by one variable, and by none or by the first.
use Rattle.std.specs.Prelude.{◌≡◌, ℕ, suc, ◌<◌, ◌≤◌, ◌⊎◌, List, Option, Some, None, MatchOption}
use Rattle.std.proofs.Common.{refl, sym, subst, arith, inl, inr}
use Rattle.std.specs.Fn.{iterate}
use Rattle.std.specs.List.{Contains}
use Rattle.lie_math.specs.LinearForm.{LinearForm}
use Rattle.lie_math.specs.LinearSystem.{Unknown, LinearSystem}
use Rattle.lie_math.proofs.ContainedElements.{contained_cons, contains_first, contains_later}
use Rattle.lie_math.proofs.Decisions.{at_most_or_greater}
use Rattle.lie_systems.specs.Bulk.{IsFormWithinLimits}
use Rattle.lie_systems.specs.Normalised.{primitive}
use Rattle.lie_systems.specs.ValidSystems.{IsValid}
use Rattle.lie_systems.specs.Works.{Made, AForm, IsMadeWithin, IsWorkWithin}
use Rattle.lie_ring.specs.declared.failures.PolyFail.{PolyFail}
use Rattle.lie_form.specs.FormLimits.{IsFormCause}
use Rattle.lie_steps.specs.Bulks.{derivative_bulk, derivatives_made_by}
use Rattle.lie_steps.specs.Derivatives.{derivative}
use Rattle.lie_steps.specs.Equations.{equation, IsPlace, with_equation}
use Rattle.lie_steps.specs.Isolate.{SomeDepends, SomeIsFree, free_degree, freed, IsIsolatedBy, IsIsolatedAt, AppliesIsolate}
use Rattle.lie_steps.specs.Isolate.{IsIsolationTried, IsPartMade, IsolateTries}
use Rattle.lie_steps.specs.Rules.{Isolate, After}
use Rattle.lie_steps.specs.Tidying.{IsTidySystem}
use Rattle.lie_steps.proofs.DecideLater.{some_depends_below}
use Rattle.lie_steps.proofs.IsolateRule.{isolate_keeps, isolate_functional}
use Rattle.lie_normal.specs.WorkCauses.{IsWorkCause}
use Rattle.lie_normal.proofs.WorkSteps.{work_weaken, form_work, every_within}
use Rattle.lie_change.specs.Tried.{at}
use Rattle.lie_cross.specs.Isolate.{IsEarliestPart, PartMakes, IsolationTries}
use Rattle.lie_cross.specs.Variables.{ArePassed}
use Rattle.lie_cross.proofs.AddedForms.{IsAddingRule}
use Rattle.lie_cross.proofs.FreedForms.{IsWithinBothWays, freed_within, parts_within}

-- ---- one variable
module _ (us : List Unknown) (E : LinearForm) (v : ℕ) where
  module _ (mixed : SomeDepends us E v × SomeIsFree us E v) (low : free_degree us E v ≤ 31) where
    pub isolated_part : (found : Option LinearForm) → IsEarliestPart us (freed us E v) found
        → MatchOption found ((P : LinearForm) → ¬ (IsIsolatedBy us E v P)) (IsIsolatedBy us E v)
    isolated_part None h = λ P i. h P i.part
    isolated_part (Some P) h = record { depends = mixed.0; free = mixed.1; low = low; part = h.part; first = h.first }

  -- ---- its actions
  module _ (k : ℕ) (degree : k ≡ free_degree us E v) (D : LinearForm) (derived : D ≡ derivative us v E) where
    abbrev rest_made : Made → Type 0
    rest_made = Contains (derivatives_made_by us v k D)

    pub freed_is : iterate (derivative us v) k D ≡ freed us E v
    freed_is = λ i. iterate (derivative us v) (degree i) (derived i)

    later_made : (b : Made) → rest_made b → Contains (derivatives_made_by us v (suc (free_degree us E v)) E) b
    later_made b c = contains_later (AForm (derivative_bulk us v E)) (derivatives_made_by us v (free_degree us E v) (derivative us v E)) b
        (subst (λ (x : ℕ × LinearForm). Contains (derivatives_made_by us v x.0 x.1) b) (λ i. (degree i, derived i)) c)

    pub rest_cause : (fail : PolyFail) → IsWorkCause fail rest_made → IsWorkCause fail (PartMakes us E v)
    rest_cause fail cause = work_weaken fail (λ b c. inl (later_made b c)) cause

    module _ (first : IsFormWithinLimits (derivative_bulk us v E)) (rest : IsWorkWithin rest_made) where
      rest_within : IsWorkWithin (Contains (derivatives_made_by us v (free_degree us E v) (derivative us v E)))
      rest_within = subst (λ (x : ℕ × LinearForm). IsWorkWithin (Contains (derivatives_made_by us v x.0 x.1)))
          (λ i. (degree i, derived i)) rest

      freed_both_ways : IsWithinBothWays (freed us E v)
      freed_both_ways = freed_within us v (free_degree us E v) E first
          (every_within (derivatives_made_by us v (free_degree us E v) (derivative us v E)) rest_within)

      pub freed_fits : IsFormWithinLimits (freed us E v)
      freed_fits = freed_both_ways.true

      pub part_fits : IsWorkWithin (PartMakes us E v)
      part_fits b (inl c) =
          go (contained_cons (AForm (derivative_bulk us v E)) (derivatives_made_by us v (free_degree us E v) (derivative us v E)) b c)
        where
          go : (AForm (derivative_bulk us v E) ≡ b) ⊎ Contains (derivatives_made_by us v (free_degree us E v) (derivative us v E)) b
              → IsMadeWithin b
          go (inl e) = subst IsMadeWithin e first
          go (inr k) = rest_within b k
      part_fits b (inr p) = parts_within us (freed us E v) freed_both_ways.absolute b p

  pub first_cause : (fail : PolyFail) → IsFormCause fail (derivative_bulk us v E) → IsWorkCause fail (PartMakes us E v)
  first_cause fail cause = form_work (PartMakes us E v) fail (derivative_bulk us v E)
      (inl (contains_first (AForm (derivative_bulk us v E)) (derivatives_made_by us v (free_degree us E v) (derivative us v E)))) cause

-- ---- all variables
module _ (n : ℕ) (S : LinearSystem) (valid : IsValid n S) (i : ℕ) (place : IsPlace S i) where
  abbrev AreIsolationsPassed : ℕ → Type 0
  AreIsolationsPassed v = ArePassed (IsIsolatedBy S.unknowns (equation S i)) (IsolationTries S.unknowns (equation S i)) v

  variable_at : (v : ℕ) → IsIsolationTried S.unknowns (equation S i) v → (b : Made)
      → Contains (derivatives_made_by S.unknowns v (suc (free_degree S.unknowns (equation S i) v)) (equation S i)) b
      ⊎ IsPartMade S.unknowns (freed S.unknowns (equation S i) v) b → IsolationTries S.unknowns (equation S i) v b
  variable_at v t b m = (t.depends, t.free, t.low, m)

  pub none_is_isolated : (v : ℕ) → n ≤ v → AreIsolationsPassed v → ¬ (AppliesIsolate S i)
  none_is_isolated v le h a =
      let lt : a.0 < n = some_depends_below n S valid i place a.0 ((a.2).isolated).depends in
      h.none a.0 a.1 (omega arith) (a.2).isolated

  pub all_isolations_fit : (v : ℕ) → n ≤ v → AreIsolationsPassed v → IsWorkWithin (IsolateTries S i)
  all_isolations_fit v le h b t =
      let lt : t.0 < n = some_depends_below n S valid i place t.0 (t.1).depends in
      h.within t.0 (omega arith) b (variable_at t.0 t.1 b t.2)

  module _ (v : ℕ) (passed : AreIsolationsPassed v) where
    pub passed_cause : (fail : PolyFail) → IsWorkCause fail (IsolationTries S.unknowns (equation S i) v)
        → IsWorkCause fail (IsolateTries S i)
    passed_cause fail cause =
        work_weaken fail (λ b t. (v, record { depends = t.0; free = t.1; low = t.2; before = λ w Q lt. passed.none w Q lt }, t.3)) cause

    module _ (P : LinearForm) (found : IsIsolatedBy S.unknowns (equation S i) v P) where
      pub isolated_at : IsIsolatedAt S i v P
      isolated_at = record { place = place; isolated = found; first = λ w Q lt. passed.none w Q lt }

      pub found_fit : IsWorkWithin (IsolationTries S.unknowns (equation S i) v) → IsWorkWithin (IsolateTries S i)
      found_fit within b t = go (at_most_or_greater v t.0)
        where
          go : (v ≤ t.0) ⊎ (t.0 < v) → IsMadeWithin b
          go (inr k) = passed.within t.0 k b (variable_at t.0 t.1 b t.2)
          go (inl k) = last (at_most_or_greater t.0 v)
            where
              last : (t.0 ≤ v) ⊎ (v < t.0) → IsMadeWithin b
              last (inr j) = absurd ((t.1).before v P j found)
              last (inl j) = let same : t.0 ≡ v = omega arith in
                  subst (λ x. IsWorkWithin (IsolationTries S.unknowns (equation S i) x)) (sym same) within b (variable_at t.0 t.1 b t.2)

  -- ---- the rule
  pub isolate_adds : IsAddingRule n Isolate S (at i) (IsolateTries S i)
  isolate_adds = record {
    tries = λ b t. (t.1).1;
    tried = λ b t. (refl, (place, t));
    alone = λ b m. m;
    applies = λ T a. (refl, (a.0, a.1, a.2));
    unique = λ T U a b. isolate_functional n S T U i valid a b;
    valid = λ T a. (isolate_keeps n S T i valid a).0;
  }

  pub isolate_after : (P N : LinearForm) → N ≡ primitive P → (v : ℕ) × IsIsolatedAt S i v P → (T : LinearSystem)
      → IsTidySystem (with_equation S N) T → After Isolate S (at i) T
  isolate_after P N e f T t = (f.0, P, f.1, subst (λ M. IsTidySystem (with_equation S M) T) e t)
