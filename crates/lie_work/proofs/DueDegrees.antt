-- What the work of `degree` answers is what is due.
use Rattle.std.specs.Prelude.{ℕ, ◌≡◌, List}
use Rattle.std.proofs.Common.{refl, ap, inl, inr}
use Rattle.lie_geometry.specs.SolvedEquations.{SolvedEquation}
use Rattle.lie_reduce.specs.Kinds.{limit_of}
use Rattle.lie_system.specs.Systems.{SystemRead}
use Rattle.lie_degree.specs.Laws.{AnswersDiffer}
use Rattle.lie_degree.specs.Works.{DegreeMakes, IsDegreeWithin, IsDegreeStop, IsFirstOutside}
use Rattle.lie_degree.specs.declared.bases.DegreeStop.{DegreeStop}
use Rattle.lie_degree.specs.declared.bases.DegreeStop.TheVariants as stops
use Rattle.lie_work.specs.declared.outcome.Outcome.{Outcome}
use Rattle.lie_work.specs.declared.outcome.Outcome.TheVariants.{Done, Refused}
use Rattle.lie_work.specs.declared.outcome.Refusal.{Refusal}
use Rattle.lie_work.specs.declared.outcome.Refusal.TheVariants.{Past}
use Rattle.lie_work.specs.Causes.{no_basis}
use Rattle.lie_work.specs.Degree.{IsDegreeRefusal, past, IsDegreeDue, due_file, due_past, due_report}
use Rattle.lie_work.specs.Outcomes.{IsRefusalOr, untold}
use Rattle.lie_work.specs.SolvedFile.{IsSolvedFile, IsFileRefusal}
use Rattle.lie_work.specs.Work.{IsAnswer, IsAnswered}
use Rattle.lie_work.proofs.SolvedFiles.{solved_not_refused, file_answer, moved}

-- a refusal of the file is answered
pub file_of_degree : (bytes : List ℕ) (d : ℕ) (found : Refusal) (due : Outcome) → IsFileRefusal bytes found → IsDegreeDue bytes d due
    → IsAnswer due (Refused found)
file_of_degree bytes d found due h (due_file refusal g) = file_answer bytes found refusal h g
file_of_degree bytes d found due h (due_past step what w) = absurd (solved_not_refused bytes w.system w.rules found w.solved h)
file_of_degree bytes d found due h (due_report r) = absurd (solved_not_refused bytes r.system r.rules found r.solved h)

pub degree_refusal : (fail : DegreeStop) (s : SystemRead) (rs : List SolvedEquation) (d : ℕ) → IsDegreeStop s.space rs d fail
    → (bytes : List ℕ) → IsSolvedFile bytes s rs → IsRefusalOr (IsDegreeRefusal bytes d) (no_basis fail)
degree_refusal (stops.Past step what) s rs d cause bytes h = past step what (record { system = s; rules = rs; solved = h; past = cause })
degree_refusal stops.NoMemory s rs d cause bytes h = tt

module _ (answers : AnswersDiffer) (bytes : List ℕ) (s : SystemRead) (rs : List SolvedEquation) (d : ℕ) (h : IsSolvedFile bytes s rs) where
  -- what is so of a system of the file is so of this one
  here : (P : SystemRead → List SolvedEquation → Type 0) (t : SystemRead) (qs : List SolvedEquation) → IsSolvedFile bytes t qs → P t qs → P s rs
  here P t qs g p = moved bytes t s qs rs P g h p

  pub degree_done : (due : Outcome) → IsDegreeWithin s.space rs d → IsDegreeDue bytes d due → due ≡ Done
  degree_done due is (due_file refusal g) = absurd (solved_not_refused bytes s rs refusal h g)
  degree_done due is (due_past step what w) =
      absurd ((here (λ v qs. IsFirstOutside (DegreeMakes v.space qs d) step) w.system w.rules w.solved w.first).outside (is step))
  degree_done due is (due_report r) = refl

  pub degree_failed : (fail : DegreeStop) (due : Outcome) → IsDegreeStop s.space rs d fail → IsDegreeDue bytes d due
      → IsAnswered due (untold (no_basis fail))
  degree_failed stops.NoMemory due cause r = inr refl
  degree_failed (stops.Past step kind) due cause (due_file refusal g) = absurd (solved_not_refused bytes s rs refusal h g)
  degree_failed (stops.Past step kind) due cause (due_past first what w) =
      inl (
        kind,
        ap (λ n. Refused (Past n kind)) (answers.one_step s.space rs d step first (limit_of kind) cause
            (here (λ v qs. IsFirstOutside (DegreeMakes v.space qs d) first) w.system w.rules w.solved w.first)),
      )
  degree_failed (stops.Past step kind) due cause (due_report r) =
      absurd (answers.within_or_past s.space rs d step (limit_of kind)
      (here (λ v qs. IsDegreeWithin v.space qs d) r.system r.rules r.solved r.within) cause)
