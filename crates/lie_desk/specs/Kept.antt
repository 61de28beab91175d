-- What is kept of a file: the canonical text of its system, and the report of its symmetries.
use Rattle.std.specs.Prelude.{ℕ, ◌≡◌, List}
use Rattle.std.specs.List.{AllByRecursion as Every}
use Rattle.lie_geometry.specs.SolvedEquations.{SolvedEquation}
use Rattle.lie_system.specs.Systems.{SystemRead}
use Rattle.lie_canonical.specs.CanonicalText.{canonical_text}
use Rattle.lie_outer.specs.Rows.{NamesDiffer}
use Rattle.lie_outer.specs.declared.rows.Row.{Row}
use Rattle.lie_work.specs.Analyse.{IsSymmetriesReport}
use Rattle.lie_work.specs.SolvedFile.{IsSolvedFile}

-- the bytes are the file of a system with a solved form, and this is its canonical text
pub record HasCanonicalText (file text : List ℕ) : Type 0 where
  pub system : SystemRead
  pub rules : List SolvedEquation
  pub solved : IsSolvedFile file system rules
  pub printed : text ≡ canonical_text system

-- the text is the report of the symmetries of the file's system, whatever the budget of the run that it tells of
pub record HasReport (file report : List ℕ) : Type 0 where
  pub budget : ℕ
  pub made : IsSymmetriesReport file budget report

-- the text is the canonical text of some file, and the report is that of the same file
pub record IsHonestRow (row : Row) : Type 0 where
  pub file : List ℕ
  pub text : HasCanonicalText file row.text
  pub report : HasReport file row.report

-- names differ, and each row is honest
abbrev pub AreHonest : List Row → Type 0
AreHonest rows = NamesDiffer rows × Every IsHonestRow rows
