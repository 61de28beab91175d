-- Why a file is not read, or its system not solved, is why the file is refused.
use Rattle.std.specs.Prelude.{ℕ, ◌≤◌, List, length, Err}
use Rattle.lie_system.specs.Systems.{SystemRead}
use Rattle.lie_file.specs.FileGrammar.{IsFile}
use Rattle.lie_file.specs.FileFaults.{IsFaultToldOf}
use Rattle.lie_scan.specs.declared.fault.ReadFail.{ReadFail}
use Rattle.lie_scan.specs.declared.fault.ReadFail.TheVariants as reads
use Rattle.lie_solved.specs.Refusals.{IsSolveFormCause}
use Rattle.lie_solved.specs.declared.solved.SolveFormFail.{SolveFormFail}
use Rattle.lie_solved.specs.declared.solved.SolveFormFail.TheVariants as solves
use Rattle.lie_work.specs.declared.source.Source.TheVariants.{File}
use Rattle.lie_work.specs.Causes.{not_read, not_solved}
use Rattle.lie_work.specs.Outcomes.{IsRefusalOr}
use Rattle.lie_work.specs.SolvedFile.{IsFileRefusal, bad_file, unsolved}

pub fault_refuses : (X : Type 0) (bytes : List ℕ) (fail : ReadFail) → IsFaultToldOf {X = X} bytes (Err fail) → IsRefusalOr (IsFileRefusal bytes) (not_read File fail)
fault_refuses X bytes (reads.Bad bad) told = bad_file bad told
fault_refuses X bytes reads.NoMemory told = tt

pub refusal_refuses : (bytes : List ℕ) (s : SystemRead) (fail : SolveFormFail) → IsFile bytes s → length bytes ≤ 65536 → IsSolveFormCause s.space s.equations fail → IsRefusalOr (IsFileRefusal bytes) (not_solved fail)
refusal_refuses bytes s (solves.Not kind k) file short told = unsolved kind k (record { system = s; file = file; short = short; refused = told })
refusal_refuses bytes s solves.NoMemory file short told = tt
