-- What a command on a file reads: the file of a system with its solved form, and why there is none.
use Rattle.std.specs.Prelude.{ℕ, ◌≤◌, List, length}
use Rattle.lie_geometry.specs.SolvedEquations.{SolvedEquation}
use Rattle.lie_system.specs.Systems.{SystemRead}
use Rattle.lie_file.specs.FileGrammar.{IsFile}
use Rattle.lie_file.specs.FileFaults.{IsFault}
use Rattle.lie_scan.specs.declared.fault.BadFile.{BadFile}
use Rattle.lie_scan.specs.declared.fault.ReadFail.TheVariants as reads
use Rattle.lie_solved.specs.SolvedForms.{IsSolvedForm}
use Rattle.lie_solved.specs.Refusals as refusals
use Rattle.lie_solved.specs.declared.solved.NotKind.{NotKind}
use Rattle.lie_work.specs.declared.source.Source.TheVariants.{File}
use Rattle.lie_work.specs.declared.outcome.Refusal.{Refusal}
use Rattle.lie_work.specs.declared.outcome.Refusal.TheVariants.{Bad, Not}
use Rattle.lie_scan.specs.Limits.{greatest_text_length}

-- the bytes are the file of a system, with its solved form
pub record IsSolvedFile (bytes : List ℕ) (s : SystemRead) (rs : List SolvedEquation) : Type 0 where
  pub file : IsFile bytes s
  pub short : length bytes ≤ greatest_text_length
  pub form : IsSolvedForm s.space s.equations rs

-- the bytes are the file of a system that has no solved form, for this cause in this equation
pub record IsUnsolvedFile (bytes : List ℕ) (kind : NotKind) (k : ℕ) : Type 0 where
  pub system : SystemRead
  pub file : IsFile bytes system
  pub short : length bytes ≤ greatest_text_length
  pub refused : refusals.IsRefused system.space system.equations kind k

-- why the bytes are no file with a solved form: they have this first fault, or their system has no solved form
pub data IsFileRefusal (bytes : List ℕ) : Refusal → Type 0 where
  bad_file : (bad : BadFile) → IsFault bytes (reads.Bad bad) → IsFileRefusal bytes (Bad File bad)
  unsolved : (kind : NotKind) (k : ℕ) → IsUnsolvedFile bytes kind k → IsFileRefusal bytes (Not kind k)
