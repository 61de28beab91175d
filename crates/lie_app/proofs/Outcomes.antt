-- What the outcome of the work on the bytes of a file says of the file, and of the streams.
use Rattle.std.specs.Prelude.{ℕ, ◌≡◌, ◌<◌, List, length, Some, None, IfSome, IsSomeAnd}
use Rattle.std.proofs.Common.{refl, subst, arith, inl, inr}
use Rattle.std.specs.declared.option.Option.{Option}
use Rattle.std.specs.List.{range_with_len}
use Rattle.std.proofs.lemmas.List.FromFn.{length-range_with_len}
use Rattle.lie_scan.specs.declared.fault.BadKind.TheVariants.{TooLong}
use Rattle.lie_file.specs.FileFaults.{too_long}
use Rattle.lie_outer.specs.Files.{file_at}
use Rattle.lie_work.specs.declared.outcome.Outcome.{Outcome}
use Rattle.lie_work.specs.declared.outcome.Outcome.TheVariants.{Refused, Failed}
use Rattle.lie_work.specs.declared.outcome.Refusal.{Refusal}
use Rattle.lie_work.specs.declared.outcome.Refusal.TheVariants.{Bad}
use Rattle.lie_work.specs.declared.outcome.Failure.TheVariants.{ReadFault, WriteFault, KeeperFault, LinkFault}
use Rattle.lie_work.specs.declared.source.Source.TheVariants.{File}
use Rattle.lie_app.specs.OnFile.{IsContent, IsRefusedOnFile, work, HasFileCause, IsDueOnFile, due_missing, due_work}
use Rattle.lie_app.specs.OnDesk.{HasRefusal}
use Rattle.lie_app.specs.Outside.{Outside, ToldFiles}
use Rattle.lie_app.specs.Run.{IsDue, IsComplete, IsStopped}
use Rattle.lie_work.specs.SolvedFile.{bad_file}
use Rattle.lie_work.proofs.Outcomes.{file_refused, file_answered}
use Rattle.lie_app.specs.Words.{AnyCommand}
use Rattle.lie_work.specs.Commands.{AnyFileCommand}
use Rattle.lie_work.specs.Work.{IsWorkDue, IsEnded, IsWorkOutcome, done, refused, no_memory, write_fault}

-- ---- what is so of the bytes is so of the file
pub outcome_on_file : (held : ToldFiles) (path : List ℕ) (c : AnyFileCommand) (bytes : List ℕ) (outcome : Outcome) → IsContent held path bytes → IsWorkOutcome c bytes outcome → HasFileCause held path c outcome
outcome_on_file held path c bytes outcome content done = tt
outcome_on_file held path c bytes outcome content (refused refusal h) = work refusal bytes content h
outcome_on_file held path c bytes outcome content no_memory = tt
outcome_on_file held path c bytes outcome content write_fault = tt

pub no_keeper_fault : (c : AnyFileCommand) (bytes : List ℕ) (outcome : Outcome) → IsWorkOutcome c bytes outcome → outcome ≡ Failed KeeperFault → ⊥
no_keeper_fault c bytes outcome done e = absurd (cc)
no_keeper_fault c bytes outcome (refused refusal h) e = absurd (cc)
no_keeper_fault c bytes outcome no_memory e = absurd (cc)
no_keeper_fault c bytes outcome write_fault e = absurd (cc)

-- a command on a file or on the desk has no fault of the link
pub no_link_on_file : (told : ToldFiles) (path : List ℕ) (c : AnyFileCommand) (outcome : Outcome) → HasFileCause told path c outcome → outcome ≡ Failed LinkFault → ⊥
no_link_on_file told path c outcome h e = subst (HasFileCause told path c) e h

pub no_link_on_desk : (P : Refusal → Type 0) (outcome : Outcome) → HasRefusal P outcome → outcome ≡ Failed LinkFault → ⊥
no_link_on_desk P outcome h e = subst (HasRefusal P) e h

-- a file that is too long is refused for it
abbrev pub longest : Refusal
longest = Bad File (record { line = 1; column = 1; kind = TooLong })

pub some_bytes : (o : Option (List ℕ)) (P : List ℕ → Type 0) → IsSomeAnd o P → (bytes : List ℕ) × (o ≡ Some bytes) × P bytes
some_bytes None P h = absurd h
some_bytes (Some bytes) P h = (bytes, refl, h)

long_refused : (held : ToldFiles) (path : List ℕ) (c : AnyFileCommand) (bytes : List ℕ) → IsContent held path bytes → 65536 < length bytes → IsRefusedOnFile held path c longest
long_refused held path c bytes content more =
    work longest bytes content (file_refused c bytes longest (bad_file (record { line = 1; column = 1; kind = TooLong }) (too_long (omega arith))))

pub too_long_refused : (files : Option (List (List ℕ × List ℕ))) (path : List ℕ) (c : AnyFileCommand)
    → IfSome files (λ fs. IsSomeAnd (file_at fs path) (λ bytes. 65536 < length bytes)) → IsRefusedOnFile files path c longest
too_long_refused None path c h = let n = length-range_with_len 0 65537 in long_refused None path c (range_with_len 0 65537) tt (omega arith)
too_long_refused (Some files) path c h =
    let b = some_bytes (file_at files path) (λ bytes. 65536 < length bytes) h in
    long_refused (Some files) path c b.0 b.1 b.2

-- ---- the outcome that is due
pub told : (held : ToldFiles) (P : List (List ℕ × List ℕ) → Type 0) (files : List (List ℕ × List ℕ)) → held ≡ Some files → IfSome held P → P files
told held P files e h = subst (λ o. IfSome o P) e h

pub none_or_some : {o : Option (List ℕ)} {bytes : List ℕ} → o ≡ None → o ≡ Some bytes → ⊥
none_or_some e f = absurd cc

pub same_bytes : {o : Option (List ℕ)} {a b : List ℕ} → o ≡ Some a → o ≡ Some b → a ≡ b
same_bytes e f = cc

-- for the bytes that were read, what is due is what is due for them
pub due_when_read : (held : ToldFiles) (path : List ℕ) (c : AnyFileCommand) (bytes : List ℕ) (due : Outcome) → IsContent held path bytes → IsDueOnFile held path c due → IsWorkDue c bytes due
due_when_read held path c bytes due content (due_missing files e none) = absurd (none_or_some none (told held (λ fs. file_at fs path ≡ Some bytes) files e content))
due_when_read held path c bytes due content (due_work files bs d e at w) = subst (λ l. IsWorkDue c l d) (same_bytes at (told held (λ fs. file_at fs path ≡ Some bytes) files e content)) w

pub due_when_long : (held : ToldFiles) (path : List ℕ) (c : AnyFileCommand) (due : Outcome) → IfSome held (λ fs. IsSomeAnd (file_at fs path) (λ bytes. 65536 < length bytes))
    → IsDueOnFile held path c due → IsEnded due (Refused longest)
due_when_long held path c due long (due_missing files e none) =
    absurd (subst (λ o. IsSomeAnd o (λ bytes. 65536 < length bytes)) none (told held (λ fs. IsSomeAnd (file_at fs path) (λ bytes. 65536 < length bytes)) files e long))
due_when_long held path c due long (due_work files bs d e at w) =
    let more : 65536 < length bs = subst (λ o. IsSomeAnd o (λ bytes. 65536 < length bytes)) at (told held (λ fs. IsSomeAnd (file_at fs path) (λ bytes. 65536 < length bytes)) files e long) in
    inl (inl (file_answered c bs longest d (bad_file (record { line = 1; column = 1; kind = TooLong }) (too_long (omega arith))) w))

pub is_complete : (outside : Outside) (command : Option AnyCommand) (R W K L : Type 0) (outcome : Outcome)
    → ((c : AnyCommand) (due : Outcome) → command ≡ Some c → IsDue outside c due → IsStopped due outcome)
    → (outcome ≡ Failed ReadFault → R) → (outcome ≡ Failed WriteFault → W) → (outcome ≡ Failed KeeperFault → K) → (outcome ≡ Failed LinkFault → L)
    → IsComplete outside command R W K L outcome
is_complete outside command R W K L outcome h r w k l c due is d nr nw nk nl =
    elim (h c due is d) [
      | inl (inl answered) ↦ answered
      | inl (inr faults) ↦ absurd (elim faults [ inl e ↦ nr (r e) | inr e ↦ nw (w e) ])
      | inr (inl e) ↦ absurd (nk (k e))
      | inr (inr e) ↦ absurd (nl (l e))
    ]
