-- A command on a file: what its outcome says of the file.
use Rattle.std.specs.Prelude.{ℕ, ◌≡◌, List, IfSome, Some, None}
use Rattle.lie_outer.specs.Files.{file_at}
use Rattle.lie_work.specs.declared.outcome.Outcome.{Outcome}
use Rattle.lie_work.specs.declared.outcome.Outcome.TheVariants.{Done, Refused, Failed}
use Rattle.lie_work.specs.declared.outcome.Failure.TheVariants.{LinkFault}
use Rattle.lie_work.specs.declared.outcome.Refusal.{Refusal}
use Rattle.lie_work.specs.declared.outcome.Refusal.TheVariants.{Missing}
use Rattle.lie_app.specs.Outside.{ToldFiles}
use Rattle.lie_work.specs.Commands.{AnyFileCommand}
use Rattle.lie_work.specs.Work.{IsTextOf, IsWorkRefusal, IsWorkDue}

-- the bytes are those of the file, where it is told
abbrev pub IsContent : ToldFiles → List ℕ → List ℕ → Type 0
IsContent told path bytes = IfSome told (λ files. file_at files path ≡ Some bytes)

-- no file has the path, where they are told
abbrev pub IsMissing : ToldFiles → List ℕ → Type 0
IsMissing told path = IfSome told (λ files. file_at files path ≡ None)

-- the text is what the command puts for its file
pub record IsFileOutput (told : ToldFiles) (path : List ℕ) (c : AnyFileCommand) (text : List ℕ) : Type 0 where
  pub bytes : List ℕ
  pub content : IsContent told path bytes
  pub is_text : IsTextOf c bytes text

-- why the command is refused
pub data IsRefusedOnFile (told : ToldFiles) (path : List ℕ) (c : AnyFileCommand) : Refusal → Type 0 where
  missing : IsMissing told path → IsRefusedOnFile told path c Missing
  work : (refusal : Refusal) (bytes : List ℕ) → IsContent told path bytes → IsWorkRefusal c bytes refusal
      → IsRefusedOnFile told path c refusal

-- what an outcome says of the file; no link is at fault
abbrev pub HasFileCause : ToldFiles → List ℕ → AnyFileCommand → Outcome → Type 0
HasFileCause told path c Done = Unit {0}
HasFileCause told path c (Refused refusal) = IsRefusedOnFile told path c refusal
HasFileCause told path c (Failed LinkFault) = ⊥
HasFileCause told path c (Failed failure) = Unit {0}

-- which outcome is due, where the files are told
pub data IsDueOnFile (told : ToldFiles) (path : List ℕ) (c : AnyFileCommand) : Outcome → Type 0 where
  due_missing : (files : List (List ℕ × List ℕ)) → told ≡ Some files → file_at files path ≡ None
      → IsDueOnFile told path c (Refused Missing)
  due_work : (files : List (List ℕ × List ℕ)) (bytes : List ℕ) (due : Outcome) → told ≡ Some files
      → file_at files path ≡ Some bytes → IsWorkDue c bytes due → IsDueOnFile told path c due
