-- What is told of the outside.
use Rattle.std.specs.Prelude.{ℕ, List}
use Rattle.std.specs.declared.option.Option.{Option}
use Rattle.lie_outer.specs.declared.rows.Row.{Row}

-- the files, each with its name, where they are told
abbrev pub ToldFiles : Type 0
ToldFiles = Option (List (List ℕ × List ℕ))

-- and the rows of the desk, where they are
pub record Outside : Type 0 where
  pub files : ToldFiles
  pub rows : Option (List Row)

abbrev pub outside : ToldFiles → Option (List Row) → Outside
outside files rows = record { files = files; rows = rows }
