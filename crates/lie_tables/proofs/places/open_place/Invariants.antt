use Rattle.std.proofs.Common.{◌≡◌, ◌++◌, map, take, drop}
use Rattle.lie_tables.specs.Places.{lifted}
use Rattle.lie_tables.proofs.places.open_place.Given as goal

abbrev pub invariant-loop-i : goal.invariant-loop-i
invariant-loop-i l = l.list.items ≡ map (lifted l.place) (take l.i l.initial.list.items) ++ drop l.i l.initial.list.items
