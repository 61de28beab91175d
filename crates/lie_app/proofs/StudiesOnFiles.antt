-- What is so of a study of the bytes that were read is so of the file.
use Rattle.std.specs.Prelude.{ℕ, ◌≡◌, ◌<◌, List, length, Option, Some, None, IfSome, IsSomeAnd, refl}
use Rattle.std.proofs.Common.{subst, arith, inl}
use Rattle.std.specs.List.{range_with_len}
use Rattle.std.proofs.lemmas.List.FromFn.{length-range_with_len}
use Rattle.lie_scan.specs.declared.fault.BadKind.TheVariants.{TooLong}
use Rattle.lie_file.specs.FileFaults.{too_long}
use Rattle.lie_outer.specs.Files.{file_at}
use Rattle.lie_outer.specs.declared.rows.Row.{Row}
use Rattle.lie_work.specs.SolvedFile.{IsFileRefusal, bad_file}
use Rattle.lie_work.specs.declared.outcome.Outcome.{Outcome}
use Rattle.lie_work.specs.declared.outcome.Outcome.TheVariants.{Done, Refused, Failed}
use Rattle.lie_work.specs.declared.outcome.Failure.TheVariants.{NoMemory, ReadFault, WriteFault, KeeperFault, LinkFault}
use Rattle.lie_work.specs.declared.outcome.Refusal.TheVariants.{Missing}
use Rattle.lie_desk.specs.Desk as studies
use Rattle.lie_desk.specs.Desk.{IsStudyRefusal}
use Rattle.lie_desk.specs.Due.{IsStudyDue}
use Rattle.lie_desk.proofs.RefusedFiles.{refused_file_due}
use Rattle.lie_app.specs.OnDesk.{HasRefusal, IsStudyRefused, no_study, IsStudyCommandDue, due_no_file, due_study}
use Rattle.lie_app.specs.OnFile.{IsContent}
use Rattle.lie_app.specs.Outside.{ToldFiles, outside}
use Rattle.lie_app.specs.Run.{IsStopped}
use Rattle.lie_app.proofs.Outcomes.{longest, some_bytes, told, none_or_some, same_bytes}

module _ (held : ToldFiles) (rows : Option (List Row)) (name path : List ℕ) (budget : ℕ) where
  -- ---- of the bytes that were read
  pub study_refused : (bytes : List ℕ) (outcome : Outcome) → IsContent held path bytes → HasRefusal (IsStudyRefusal name bytes budget rows) outcome
      → HasRefusal (IsStudyRefused (outside held rows) name path budget) outcome
  study_refused bytes Done content h = tt
  study_refused bytes (Refused refusal) content h = no_study refusal bytes content h
  study_refused bytes (Failed NoMemory) content h = tt
  study_refused bytes (Failed ReadFault) content h = tt
  study_refused bytes (Failed WriteFault) content h = tt
  study_refused bytes (Failed KeeperFault) content h = tt
  study_refused bytes (Failed LinkFault) content h = h

  pub study_due : (bytes : List ℕ) (outcome due : Outcome) → IsContent held path bytes
      → ((rs : List Row) (d : Outcome) → rows ≡ Some rs → IsStudyDue name bytes budget rs d → IsStopped d outcome)
      → IsStudyCommandDue (outside held rows) name path budget due → IsStopped due outcome
  study_due bytes outcome due content h (due_no_file files e none) =
      absurd (none_or_some none (told held (λ fs. file_at fs path ≡ Some bytes) files e content))
  study_due bytes outcome due content h (due_study files bs rs d e at is s) =
      h rs d is (subst (λ l. IsStudyDue name l budget rs d) (same_bytes at (told held (λ fs. file_at fs path ≡ Some bytes) files e content)) s)

  -- ---- of a file that is not there
  pub missing_due : (due : Outcome) → IfSome held (λ fs. file_at fs path ≡ None) → IsStudyCommandDue (outside held rows) name path budget due
      → IsStopped due (Refused Missing)
  missing_due due none (due_no_file files e is) = inl (inl (inl refl))
  missing_due due none (due_study files bs rs d e at is s) = absurd (none_or_some (told held (λ fs. file_at fs path ≡ None) files e none) at)

  -- ---- of a file that is too long
  long_refusal : (bytes : List ℕ) → 65536 < length bytes → IsFileRefusal bytes longest
  long_refusal bytes more = bad_file (record { line = 1; column = 1; kind = TooLong }) (too_long (omega arith))

  long_study : (bytes : List ℕ) → IsContent held path bytes → 65536 < length bytes → IsStudyRefused (outside held rows) name path budget longest
  long_study bytes content more = no_study longest bytes content (studies.no_file longest (long_refusal bytes more))

  pub long_due : (due : Outcome) → IfSome held (λ fs. IsSomeAnd (file_at fs path) (λ bytes. 65536 < length bytes))
      → IsStudyCommandDue (outside held rows) name path budget due → IsStopped due (Refused longest)
  long_due due long (due_no_file files e none) =
      absurd (subst (λ o. IsSomeAnd o (λ bytes. 65536 < length bytes)) none
      (told held (λ fs. IsSomeAnd (file_at fs path) (λ bytes. 65536 < length bytes)) files e long))
  long_due due long (due_study files bs rs d e at is s) =
      let more : 65536 < length bs =
      subst (λ o. IsSomeAnd o (λ bytes. 65536 < length bytes)) at (told held (λ fs. IsSomeAnd (file_at fs path) (λ bytes. 65536 < length bytes)) files e long) in
      inl (inl (inl (refused_file_due name bs budget rs longest d (long_refusal bs more) s)))

pub long_refused : (held : ToldFiles) (rows : Option (List Row)) (name path : List ℕ) (budget : ℕ)
    → IfSome held (λ fs. IsSomeAnd (file_at fs path) (λ bytes. 65536 < length bytes)) → IsStudyRefused (outside held rows) name path budget longest
long_refused None rows name path budget h =
    let n = length-range_with_len 0 65537 in long_study None rows name path budget (range_with_len 0 65537) tt (omega arith)
long_refused (Some files) rows name path budget h =
    let b = some_bytes (file_at files path) (λ bytes. 65536 < length bytes) h in long_study (Some files) rows name path budget b.0 b.1 b.2
