-- Of the answers of an analysis one holds at most, and not none is due.
use Rattle.std.specs.Prelude.{◌≡◌, ℕ, zero, suc, ◌+◌, ◌<◌, ◌≤◌, ◌⊎◌, List}
use Rattle.std.proofs.Common.{sym, subst, arith, inl, inr}
use Rattle.lie_math.specs.LinearSystem.{LinearSystem}
use Rattle.lie_geometry.specs.CoordinateLaws.{IsSpace}
use Rattle.lie_geometry.specs.Coordinates.{Space}
use Rattle.lie_geometry.specs.SolvedEquations.{SolvedEquation}
use Rattle.lie_systems.specs.Works.{Limit, Made, IsWorkWithin, IsFirstPast}
use Rattle.lie_systems.proofs.WorkLimits.{work_not_within_and_past}
use Rattle.lie_steps.proofs.Stepping.{trichotomy}
use Rattle.lie_determining.specs.Laws.{OpeningIsUnique, OpeningIsValid}
use Rattle.lie_steps.specs.Laws.{RunEndsOnce}
use Rattle.lie_solve.specs.Runs.{StepMakes, IsRunWithin, OutcomesDiffer}
use Rattle.lie_analysis.specs.Analyses.{OpeningEnds}
use Rattle.lie_analysis.specs.Answers.{IsBudgetSpent, IsEndDue, IsFirstWide}
use Rattle.lie_analysis.specs.Laws.{AnswersDiffer, SomeAnswerIsDue}
use Rattle.lie_analysis.specs.Works.{AlgebraMakes, width, elimination, table, AnalysisMakes, opening, run, algebra}
use Rattle.lie_analysis.proofs.WorkSteps.{ends_here}

-- ---- one at most
module _ (unique : OpeningIsUnique) (valid : OpeningIsValid) (once : RunEndsOnce) (differ : OutcomesDiffer) where
  ended_or_spent : (S : Space) → IsSpace S → (rs : List SolvedEquation) (budget n : ℕ) (U : LinearSystem) → OpeningEnds S rs n U
      → n ≤ budget → ¬ (IsBudgetSpent S rs budget)
  ended_or_spent S space rs budget n U e affordable s =
      let v = valid S space rs s.opening s.opened in
      let within : IsRunWithin s.opening budget = λ step b h. s.within step b (run s.opening s.opened step b h) in
      differ.ended_or_spent (S.p + S.q) budget n s.opening U s.last v
      (record { ends = ends_here S rs unique once s.opening s.opened v n U e; affordable = affordable; within = within })
      (record { run = s.run; more = s.more; within = within })

  pub answers_differ : AnswersDiffer
  answers_differ = record {
    within_or_past = λ S rs budget step limit w p. work_not_within_and_past (AnalysisMakes S rs budget step) limit (w step) p.past;
    ended_or_spent = ended_or_spent;
    one_step = λ S rs budget step first limit p w. one_step (AnalysisMakes S rs budget) step first limit p w (trichotomy step first);
  }
    where
      one_step : (makes : ℕ → Made → Type 0) (step first : ℕ) (limit : Limit) → IsFirstPast makes step limit → IsFirstWide makes first
          → (step < first) ⊎ (first < step) ⊎ (step ≡ first) → step ≡ first
      one_step makes step first limit p w (inl less) =
          absurd (work_not_within_and_past (makes step) limit (w.before step less) p.past)
      one_step makes step first limit p w (inr (inl more)) = absurd (w.wide (p.before first more))
      one_step makes step first limit p w (inr (inr e)) = e

-- ---- not none
-- of works of which none is the first that is not within the limits, not one of any first ones is outside them
none_wide : (makes : ℕ → Made → Type 0) → ((step : ℕ) → ¬ (IsFirstWide makes step)) → (n : ℕ)
    → ¬ (¬ ((k : ℕ) → k < n → IsWorkWithin (makes k)))
none_wide makes none zero h = h (λ k less. absurd (omega arith))
none_wide makes none (suc n) h = none_wide makes none n (λ before. none n (record {
  before = before;
  wide = λ within. h (λ k less. at k less before within (trichotomy k n));
}))
  where
    at : (k : ℕ) → k < suc n → ((j : ℕ) → j < n → IsWorkWithin (makes j)) → IsWorkWithin (makes n)
        → (k < n) ⊎ (n < k) ⊎ (k ≡ n) → IsWorkWithin (makes k)
    at k less before within (inl lt) = before k lt
    at k less before within (inr (inl gt)) = absurd (omega arith)
    at k less before within (inr (inr e)) = subst (λ j. IsWorkWithin (makes j)) (sym e) within

-- behind the table there is no work
module _ (S : Space) (rs : List SolvedEquation) (budget : ℕ) where
  algebra_is_short : (U : LinearSystem) (k : ℕ) (b : Made) → AlgebraMakes S U k b → k < 2
  algebra_is_short U k b (width c h) = omega arith
  algebra_is_short U k b (elimination w c h) = omega arith
  algebra_is_short U k b (table Vs is c h) = omega arith

  run_is_short : (T : LinearSystem) (step : ℕ) (b : Made) → StepMakes T budget step b → step < budget + 2
  run_is_short T zero b h = absurd h
  run_is_short T (suc k) b (inl h) = let less = h.0 in omega arith
  run_is_short T (suc k) b (inr h) = let same = h.0 in omega arith

  work_is_short : (step : ℕ) (b : Made) → AnalysisMakes S rs budget step b → step < budget + 4
  work_is_short step b (opening c h) = omega arith
  work_is_short step b (run T o k c h) = let short = run_is_short T step b h in omega arith
  work_is_short step b (algebra n U e k c h) = let short = algebra_is_short U k b h in let less = e.affordable in omega arith

  pub some_answer : ¬ (IsEndDue S rs budget) → ¬ (IsBudgetSpent S rs budget)
      → ((step : ℕ) → ¬ (IsFirstWide (AnalysisMakes S rs budget) step)) → ⊥
  some_answer no_end unspent none = none_wide (AnalysisMakes S rs budget) none (budget + 4) (λ within. no_end (record {
    within = λ step b h. within step (work_is_short step b h) b h;
    unspent = unspent;
  }))

pub some_answer_is_due : SomeAnswerIsDue
some_answer_is_due S rs budget no_end unspent none = some_answer S rs budget no_end unspent none
