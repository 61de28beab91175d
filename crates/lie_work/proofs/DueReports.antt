-- What the work of `determine` answers is what is due.
use Rattle.std.specs.Prelude.{ℕ, ◌≡◌, List}
use Rattle.std.proofs.Common.{refl, sym, ap, inl, inr}
use Rattle.lie_geometry.specs.SolvedEquations.{SolvedEquation}
use Rattle.lie_ring.specs.declared.failures.PolyFail.{PolyFail}
use Rattle.lie_ring.specs.declared.failures.PolyFail.TheVariants as poly
use Rattle.lie_system.specs.Systems.{SystemRead}
use Rattle.lie_determining.specs.Openings.{IsOpeningWithin, IsOpeningPast, IsOpeningCause}
use Rattle.lie_work.specs.declared.outcome.Outcome.{Outcome}
use Rattle.lie_work.specs.declared.outcome.Outcome.TheVariants.{Done, Refused}
use Rattle.lie_work.specs.declared.outcome.Refusal.{Refusal}
use Rattle.lie_work.specs.declared.outcome.Refusal.TheVariants.{Past}
use Rattle.lie_work.specs.Causes.{not_done}
use Rattle.lie_work.specs.Determine.{IsReportRefusal, past, IsDetermineDue, due_file, due_past, due_report}
use Rattle.lie_work.specs.Outcomes.{IsRefusalOr, untold}
use Rattle.lie_work.specs.SolvedFile.{IsSolvedFile, IsFileRefusal}
use Rattle.lie_work.specs.Work.{IsAnswer, IsAnswered}
use Rattle.lie_work.proofs.SolvedFiles.{solved_not_refused, file_answer, moved}

-- a refusal of the file is answered
pub file_of_report : (bytes : List ℕ) (found : Refusal) (due : Outcome) → IsFileRefusal bytes found → IsDetermineDue bytes due → IsAnswer due (Refused found)
file_of_report bytes found due h (due_file refusal g) = file_answer bytes found refusal h g
file_of_report bytes found due h (due_past step what w) = absurd (solved_not_refused bytes w.system w.rules found w.solved h)
file_of_report bytes found due h (due_report d) = absurd (solved_not_refused bytes d.system d.rules found d.solved h)

pub opening_refusal : (fail : PolyFail) (s : SystemRead) (rs : List SolvedEquation) → IsOpeningCause s.space rs fail → (bytes : List ℕ) → IsSolvedFile bytes s rs → IsRefusalOr (IsReportRefusal bytes) (not_done 0 fail)
opening_refusal (poly.Past what) s rs cause bytes h = past 0 what (record { system = s; rules = rs; solved = h; first = refl; past = cause })
opening_refusal poly.NoMemory s rs cause bytes h = tt

pub opening_done : (bytes : List ℕ) (s : SystemRead) (rs : List SolvedEquation) (due : Outcome) → IsSolvedFile bytes s rs → IsOpeningWithin s.space rs → IsDetermineDue bytes due → due ≡ Done
opening_done bytes s rs due h within (due_file refusal g) = absurd (solved_not_refused bytes s rs refusal h g)
opening_done bytes s rs due h within (due_past step what w) = absurd (w.wide (moved bytes s w.system rs w.rules (λ v qs. IsOpeningWithin v.space qs) h w.solved within))
opening_done bytes s rs due h within (due_report d) = refl

pub opening_failed : (bytes : List ℕ) (s : SystemRead) (rs : List SolvedEquation) (fail : PolyFail) (due : Outcome)
    → IsSolvedFile bytes s rs → IsOpeningCause s.space rs fail → IsDetermineDue bytes due → IsAnswered due (untold (not_done 0 fail))
opening_failed bytes s rs poly.NoMemory due h cause d = inr refl
opening_failed bytes s rs (poly.Past kind) due h cause (due_file refusal g) = absurd (solved_not_refused bytes s rs refusal h g)
opening_failed bytes s rs (poly.Past kind) due h cause (due_past step what w) = inl (kind, ap (λ n. Refused (Past n kind)) (sym w.first))
opening_failed bytes s rs (poly.Past kind) due h cause (due_report d) =
    absurd (d.none kind (moved bytes s d.system rs d.rules (λ v qs. IsOpeningPast v.space qs kind) h d.solved cause))
