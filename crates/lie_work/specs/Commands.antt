-- The commands on a file, with their arguments as texts.
use Rattle.std.specs.Prelude.{ℕ, ◌≤◌, List}
use Rattle.lie_analysis.specs.Limits.{greatest_budget}
use Rattle.lie_degree.specs.Columns.{greatest_degree}
use Rattle.lie_work.specs.declared.command.FileCommand.{FileCommand}
use Rattle.lie_work.specs.declared.command.FileCommand.TheVariants.{Determine, Check, Analyse, Degree}

-- what is asked of the system of a file
abbrev pub AnyFileCommand : Type 0
AnyFileCommand = FileCommand (List ℕ)

-- the same with other arguments
abbrev pub file_in_words : {A B : Type 0} → (A → B) → FileCommand A → FileCommand B
file_in_words f Determine = Determine
file_in_words f (Check field) = Check (f field)
file_in_words f (Analyse budget) = Analyse budget
file_in_words f (Degree d) = Degree d

-- it asks for no more steps than any run may make, and for no greater degree than any basis may have
abbrev pub HasFileNumbers : {T : Type 0} → FileCommand T → Type 0
HasFileNumbers (Analyse budget) = budget ≤ greatest_budget
HasFileNumbers (Degree d) = d ≤ greatest_degree
HasFileNumbers c = Unit {0}
