-- What the keeper in memory holds.
use Rattle.std.specs.Prelude.{List}
use Rattle.lie_outer.specs.declared.rows.Row.{Row}
use Rattle.lie_keep.specs.declared.memory.MemoryKeeper.{MemoryKeeper}

-- the rows, in order of entry
abbrev pub kept_rows : MemoryKeeper → List Row
kept_rows keeper = keeper.rows
