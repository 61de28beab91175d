-- The work of an analysis, from the works of its parts: the opening system, the run, and the algebra of its end.
use Rattle.std.specs.Prelude.{◌≡◌, ℕ, zero, suc, ◌+◌, ◌<◌, List}
use Rattle.std.proofs.Common.{refl, sym, subst, arith, inl, inr}
use Rattle.lie_math.specs.LinearSystem.{LinearSystem}
use Rattle.lie_geometry.specs.Coordinates.{Space}
use Rattle.lie_geometry.specs.SolvedEquations.{SolvedEquation}
use Rattle.lie_systems.specs.ValidSystems.{IsValid}
use Rattle.lie_systems.specs.Works.{Limit, Made, IsMadeWithin, IsWorkWithin, IsFirstPast}
use Rattle.lie_steps.specs.Laws.{RunEndsOnce}
use Rattle.lie_steps.specs.Runs.{Ends, IsFinite}
use Rattle.lie_determining.specs.Laws.{OpeningIsUnique, OpeningIsValid}
use Rattle.lie_determining.specs.Openings.{IsOpeningSystem, IsOpeningWithin}
use Rattle.lie_solve.specs.Runs.{StepMakes, EndsWithin, IsSpent, OutcomesDiffer}
use Rattle.lie_solve.proofs.StepRuns.{run_ends}
use Rattle.lie_analysis.specs.Analyses.{OpeningEnds}
use Rattle.lie_analysis.specs.Works.{AlgebraMakes, EndsFinite, AnalysisMakes, opening, run, algebra, IsAnalysisWithin}
use Rattle.lie_analysis.specs.Answers.{IsBudgetSpent}
use Rattle.lie_analysis.specs.Laws.{WorksAreOfParts}

-- ---- a run that ends makes no step behind the search that finds nothing
module _ (m : ℕ) (T : LinearSystem) (v : IsValid m T) (budget n : ℕ) (U : LinearSystem) (e : Ends T n U) where
  no_step_behind : (step : ℕ) (b : Made) → n + 1 < step → ¬ (StepMakes T budget step b)
  no_step_behind zero b late h = h
  no_step_behind (suc k) b late (inl h) = let r = run_ends m v e.run e.stuck h.1.1 in omega arith
  no_step_behind (suc k) b late (inr h) = let r = run_ends m v e.run e.stuck h.1.1 in omega arith

-- ---- the work where one opening system is known
module _ (S : Space) (rs : List SolvedEquation) (unique : OpeningIsUnique) (once : RunEndsOnce) (T : LinearSystem)
    (opened : IsOpeningSystem S rs T) (v : IsValid (S.p + S.q) T) where
  -- a run from an opening system is one from it
  pub ends_here : (n : ℕ) (U : LinearSystem) → OpeningEnds S rs n U → Ends T n U
  ends_here n U e = subst (λ X. Ends X n U) (unique S rs e.opening T e.opened opened) e.ends

  pub ends_at : (n k : ℕ) (U V : LinearSystem) → Ends T n U → OpeningEnds S rs k V → (n ≡ k) × (U ≡ V)
  ends_at n k U V e f = once (S.p + S.q) n k T U V v e (ends_here k V f)

  module _ (budget : ℕ) (made : IsOpeningWithin S rs) where
    -- what a step makes is within the limits if what the run makes is, and what the algebra makes
    step_within : (step : ℕ) (b : Made) → (StepMakes T budget step b → IsMadeWithin b)
        → ((n k : ℕ) (U : LinearSystem) → step ≡ n + 2 + k → EndsFinite S rs budget n U → AlgebraMakes S U k b → IsMadeWithin b)
        → AnalysisMakes S rs budget step b → IsMadeWithin b
    step_within step b of_run of_algebra (opening x h) = made b h
    step_within step b of_run of_algebra (run U o k x h) =
        of_run (subst (λ X. StepMakes X budget step b) (unique S rs U T o opened) h)
    step_within step b of_run of_algebra (algebra n U e k x h) = of_algebra n k U refl e h

    -- where the run is past a limit, the analysis is, at the same step
    run_past : (step : ℕ) (limit : Limit) → IsFirstPast (StepMakes T budget) step limit
        → IsFirstPast (AnalysisMakes S rs budget) step limit
    run_past step limit h = record {
      before = λ j less b x. step_within j b (h.before j less b) (λ n k U is e a. absurd (behind n k U e (omega (arith, is, less)))) x;
      past = (h.past.0, run T opened step h.past.0 h.past.1, h.past.2);
    }
      where
        behind : (n k : ℕ) (U : LinearSystem) → EndsFinite S rs budget n U → n + 2 + k < step → ⊥
        behind n k U e less =
            no_step_behind (S.p + S.q) T v budget n U (ends_here n U e.ends) step h.past.0 (omega arith) h.past.1

    -- where the budget is spent, there is no algebra to be made
    budget_spent : OutcomesDiffer → (U : LinearSystem) → IsSpent T budget U → IsBudgetSpent S rs budget
    budget_spent differ U h = record { opening = T; opened = opened; last = U; run = h.run; more = h.more; within = within }
      where
        no_end : (n : ℕ) (V : LinearSystem) → EndsFinite S rs budget n V → ⊥
        no_end n V e = differ.ended_or_spent (S.p + S.q) budget n T V U v
            (record { ends = ends_here n V e.ends; affordable = e.affordable; within = h.within }) h

        within : IsAnalysisWithin S rs budget
        within step b x = step_within step b (h.within step b) (λ n k V is e a. absurd (no_end n V e)) x

    module _ (n : ℕ) (U : LinearSystem) (h : EndsWithin T budget n U) where
      -- the algebra is that of the end
      at_end : (j k : ℕ) (V : LinearSystem) (b : Made) → EndsFinite S rs budget j V → AlgebraMakes S V k b
          → (n ≡ j) × IsFinite U × AlgebraMakes S U k b
      at_end j k V b e a =
          let same = ends_at n j U V h.ends e.ends in
          (same.0, subst IsFinite (sym same.1) e.finite, subst (λ X. AlgebraMakes S X k b) (sym same.1) a)

      analysis_within : (IsFinite U → (k : ℕ) → IsWorkWithin (AlgebraMakes S U k)) → IsAnalysisWithin S rs budget
      analysis_within fits step b x =
          step_within step b (h.within step b) (λ j k V is e a. let r = at_end j k V b e a in fits r.1 k b r.2) x

      algebra_past : IsFinite U → (k : ℕ) (limit : Limit) → IsFirstPast (AlgebraMakes S U) k limit
          → IsFirstPast (AnalysisMakes S rs budget) (n + 2 + k) limit
      algebra_past finite k limit g = record {
        before = λ i less b x. step_within i b (h.within i b) (λ j l V is e a. earlier i less j l V b is (at_end j l V b e a)) x;
        past = (g.past.0, algebra n U ends k g.past.0 g.past.1, g.past.2);
      }
        where
          ends : EndsFinite S rs budget n U
          ends = record {
            ends = record { opening = T; opened = opened; ends = h.ends };
            affordable = h.affordable;
            finite = finite;
          }

          earlier : (i : ℕ) → i < n + 2 + k → (j l : ℕ) (V : LinearSystem) (b : Made) → i ≡ j + 2 + l
              → (n ≡ j) × IsFinite U × AlgebraMakes S U l b → IsMadeWithin b
          earlier i less j l V b is r = let e = r.0 in g.before l (omega arith) b r.2

pub works_are_of_parts : OpeningIsUnique → OpeningIsValid → RunEndsOnce → OutcomesDiffer → WorksAreOfParts
works_are_of_parts unique valid once differ S space rs T opened made budget =
    let v = valid S space rs T opened in
    record {
      run_past = run_past S rs unique once T opened v budget made;
      run_spent = budget_spent S rs unique once T opened v budget made differ;
      algebra_past = algebra_past S rs unique once T opened v budget made;
      within = analysis_within S rs unique once T opened v budget made;
    }
