use Rattle.std.proofs.Common.{subst, arith}
use Rattle.std.specs.List.{AllByRecursion as Every}
use Rattle.lie_ring.proofs.Fronts.{all_taken}
use Rattle.lie_lin.specs.Validity.{IsUnknownBelow}
use Rattle.lie_lin.proofs.DecidingParts.{not_every, every_next}
use Rattle.lie_lin.proofs.validity.are_unknowns_below.Goals as goal

pub returns-then-not-is_unknown_below : goal.returns-then-not-is_unknown_below
returns-then-not-is_unknown_below c = not_every (IsUnknownBelow c.args.bound c.args.next) c.args.unknowns.now c.loop-unknown.unknown-index (record { number = 0; vars = 0 }) c.loop-unknown-test.true c.if-not-is_unknown_below.ensures

pub loop-unknown-preserved : goal.loop-unknown-preserved
loop-unknown-preserved c = every_next (IsUnknownBelow c.args.bound c.args.next) c.args.unknowns.now c.loop-unknown.unknown-index (record { number = 0; vars = 0 }) c.loop-unknown-test.true c.loop-unknown.invariant c.if-not-is_unknown_below.ensures

pub returns : goal.returns
returns c = subst (Every (IsUnknownBelow c.args.bound c.args.next)) (all_taken c.args.unknowns.now c.loop-unknown.unknown-index (omega (arith, c.loop-unknown-test.false))) c.loop-unknown.invariant
