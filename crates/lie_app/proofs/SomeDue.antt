-- For any files and rows that are told some outcome of any command is due.
use Rattle.std.specs.Prelude.{ℕ, ◌≡◌, List, Some, None}
use Rattle.std.proofs.Common.{refl}
use Rattle.std.specs.declared.option.Option.{Option}
use Rattle.lie_outer.specs.Files.{file_at}
use Rattle.lie_outer.specs.Rows.{row_named}
use Rattle.lie_outer.specs.declared.rows.Row.{Row}
use Rattle.lie_work.specs.Commands.{AnyFileCommand}
use Rattle.lie_work.specs.Laws.{SomeWorkIsDue}
use Rattle.lie_work.specs.declared.outcome.Outcome.{Outcome}
use Rattle.lie_work.specs.declared.outcome.Outcome.TheVariants.{Done, Refused}
use Rattle.lie_work.specs.declared.outcome.Refusal.TheVariants.{Missing}
use Rattle.lie_desk.specs.Due.{IsNameDue, due_missing as name_missing, due_named}
use Rattle.lie_desk.specs.Laws.{SomeStudyIsDue}
use Rattle.lie_app.specs.declared.words.Command.TheVariants.{OnFile, OnDesk, Sample, OnLink}
use Rattle.lie_sample.specs.Members.{SomeSampleIsDue}
use Rattle.lie_app.specs.declared.words.DeskCommand.TheVariants as desk
use Rattle.lie_app.specs.OnDesk.{IsStudyCommandDue, due_no_file, due_study, IsDueOnDesk}
use Rattle.lie_app.specs.OnFile.{IsDueOnFile, due_missing, due_work}
use Rattle.lie_app.specs.Outside.{Outside, outside}
use Rattle.lie_app.specs.Run.{IsDue}
use Rattle.lie_app.specs.Words.{AnyCommand, AnyDeskCommand}

some_on_file : SomeWorkIsDue → (files : List (List ℕ × List ℕ)) (path : List ℕ) (c : AnyFileCommand) → ((due : Outcome) → ¬ (IsDueOnFile (Some files) path c due)) → ⊥
some_on_file some files path c none = go (file_at files path) refl
  where
    go : (o : Option (List ℕ)) → file_at files path ≡ o → ⊥
    go None e = none (Refused Missing) (due_missing files refl e)
    go (Some bytes) e = some c bytes (λ due h. none due (due_work files bytes due refl e h))

module _ (files : List (List ℕ × List ℕ)) (rows : List Row) where
  abbrev told : Outside
  told = outside (Some files) (Some rows)

  some_study : SomeStudyIsDue → (name path : List ℕ) (budget : ℕ) → ((due : Outcome) → ¬ (IsStudyCommandDue told name path budget due)) → ⊥
  some_study some name path budget none = go (file_at files path) refl
    where
      go : (o : Option (List ℕ)) → file_at files path ≡ o → ⊥
      go None e = none (Refused Missing) (due_no_file files refl e)
      go (Some bytes) e = some name bytes budget rows (λ due h. none due (due_study files bytes rows due refl e refl h))

  some_named : (name : List ℕ) → ((due : Outcome) → ¬ (IsNameDue name rows due)) → ⊥
  some_named name none = go (row_named rows name) refl
    where
      go : (o : Option Row) → row_named rows name ≡ o → ⊥
      go None e = none (Refused Missing) (name_missing e)
      go (Some row) e = none Done (due_named (rw e refl))

  some_on_desk : SomeStudyIsDue → (c : AnyDeskCommand) → ((due : Outcome) → ¬ (IsDueOnDesk told c due)) → ⊥
  some_on_desk some (desk.Study name path budget) none = some_study some name path budget none
  some_on_desk some desk.List none = none Done (record { rows = rows; told = refl; due_here = refl })
  some_on_desk some (desk.Show name) none = some_named name (λ due h. none due (record { rows = rows; told = refl; due_here = h }))
  some_on_desk some (desk.Drop name) none = some_named name (λ due h. none due (record { rows = rows; told = refl; due_here = h }))

pub some_outcome_is_due : SomeWorkIsDue → SomeStudyIsDue → SomeSampleIsDue
    → (files : List (List ℕ × List ℕ)) (rows : List Row) (c : AnyCommand) → ¬ ((due : Outcome) → ¬ (IsDue (outside (Some files) (Some rows)) c due))
some_outcome_is_due work study sample files rows (OnFile path c) none = some_on_file work files path c none
some_outcome_is_due work study sample files rows (OnDesk c) none = some_on_desk files rows study c none
some_outcome_is_due work study sample files rows (Sample last budget) none = sample last budget none
some_outcome_is_due work study sample files rows (OnLink address count budget) none = none Done refl
