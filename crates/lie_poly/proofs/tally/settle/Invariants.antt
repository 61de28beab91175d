use Rattle.std.proofs.Common.{◌≡◌, ◌++◌, length, reverse}
use Rattle.lie_ring.specs.Entries.{entries}
use Rattle.lie_poly.specs.Tallies.{sums, without_zeros}
use Rattle.lie_poly.proofs.tally.settle.Given as goal

abbrev pub invariant-loop-tally : goal.invariant-loop-tally
invariant-loop-tally g l = entries g.C.Ring.value l.out.items ++ without_zeros (sums g.C.Ring.value (reverse l.tallies.items)) ≡ without_zeros (sums g.C.Ring.value (reverse l.fn.tallies.items))

abbrev pub decreases-loop-tally : goal.decreases-loop-tally
decreases-loop-tally g l = length l.tallies.items
