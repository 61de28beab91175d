use Rattle.std.proofs.Common.{◌≡◌, map}
use Rattle.std.specs.List.{range_with_len}
use Rattle.lie_geometry.specs.SymbolicProlongation.{unknown}
use Rattle.lie_determining.proofs.unknowns.general.Given as goal

abbrev pub invariant-loop-place : goal.invariant-loop-place
invariant-loop-place l = l.list.items ≡ map unknown (range_with_len 0 l.place)
