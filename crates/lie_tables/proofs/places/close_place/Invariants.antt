use Rattle.std.proofs.Common.{◌≡◌, ◌++◌, map, take, drop}
use Rattle.lie_tables.specs.Places.{lowered}
use Rattle.lie_tables.proofs.places.close_place.Given as goal

abbrev pub invariant-loop-i : goal.invariant-loop-i
invariant-loop-i l = l.list.items ≡ map (lowered l.place) (take l.i l.initial.list.items) ++ drop l.i l.initial.list.items
