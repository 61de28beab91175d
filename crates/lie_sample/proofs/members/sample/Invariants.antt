-- The lines of all lesser members were put, and none of them is refused.
use Rattle.std.proofs.Common.{◌≡◌, ◌≤◌}
use Rattle.lie_sample.specs.Family.{least_member}
use Rattle.lie_sample.specs.Members.{PutsLinesBelow}
use Rattle.lie_sample.proofs.Dues.{NoneRefusedBelow}
use Rattle.lie_sample.proofs.members.sample.Given as goal

abbrev pub invariant-loop-k : goal.invariant-loop-k
invariant-loop-k g l = record {
  least : least_member ≤ l.k;
  lines : PutsLinesBelow (g.O.Sink.taken l.initial.out) (g.O.Sink.taken l.out) l.budget l.k;
  faults : g.O.Sink.fault_count l.out ≡ g.O.Sink.fault_count l.initial.out;
  starved : g.O.Sink.starved_count l.out ≡ g.O.Sink.starved_count l.initial.out;
  none : NoneRefusedBelow l.budget l.k;
}
