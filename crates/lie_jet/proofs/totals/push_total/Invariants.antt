use Rattle.std.proofs.Common.{◌≡◌, take}
use Rattle.std.specs.Prelude.{pos, unsigned_abs}
use Rattle.lie_math.specs.Polynomial.{◌+ᴾ◌, variable}
use Rattle.lie_geometry.specs.Prolongation.{total_derivative}
use Rattle.lie_jet.specs.Listed.{sum_listed, bulk_listed}
use Rattle.lie_jet.proofs.ChainRules.{parts}
use Rattle.lie_jet.proofs.totals.push_total.Given as goal

abbrev pub invariant-loop-var : goal.invariant-loop-var
invariant-loop-var l = record {
  sum : sum_listed l.made.items ≡ sum_listed l.initial.made.items +ᴾ parts (λ w. total_derivative l.space l.i (variable w)) l.term.0 l.term.1 (take l.var-index l.term.0.list);
  bulk : bulk_listed l.made.items ≡ bulk_listed l.initial.made.items +ᴾ parts (λ w. total_derivative l.space l.i (variable w)) l.term.0 (pos (unsigned_abs l.term.1)) (take l.var-index l.term.0.list);
}
