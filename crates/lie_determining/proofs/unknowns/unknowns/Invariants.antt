use Rattle.std.proofs.Common.{◌≡◌, map}
use Rattle.std.specs.List.{range_with_len}
use Rattle.lie_lin.specs.Systems.{unknown_of}
use Rattle.lie_determining.proofs.ValidOpening.{listed_unknown}
use Rattle.lie_determining.proofs.unknowns.unknowns.Given as goal

abbrev pub invariant-loop-place : goal.invariant-loop-place
invariant-loop-place l = map unknown_of l.list.items ≡ map (listed_unknown l.fn.space) (range_with_len 0 l.place)
