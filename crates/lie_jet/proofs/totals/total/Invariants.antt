use Rattle.std.proofs.Common.{◌≡◌, take}
use Rattle.lie_geometry.specs.Prolongation.{total_derivative}
use Rattle.lie_jet.specs.Listed.{sum_listed, bulk_listed}
use Rattle.lie_jet.proofs.totals.total.Given as goal

abbrev pub invariant-loop-term : goal.invariant-loop-term
invariant-loop-term l = record {
  sum : sum_listed l.made.items ≡ total_derivative l.space l.i (sum_listed (take l.term-index l.term-items));
  bulk : bulk_listed l.made.items ≡ total_derivative l.space l.i (bulk_listed (take l.term-index l.term-items));
}
