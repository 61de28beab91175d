use Rattle.std.proofs.Common.{subst, arith}
use Rattle.std.specs.List.{AllByRecursion as Every}
use Rattle.lie_math.proofs.EveryElement.{every_at}
use Rattle.lie_systems.specs.Normalised.{IsNormalised}
use Rattle.lie_ring.proofs.Fronts.{all_taken}
use Rattle.lie_lin.proofs.DecidingParts.{every_more}
use Rattle.lie_lin.proofs.validity.are_normalised.Goals as goal

pub returns-then-not-normalised : goal.returns-then-not-normalised
returns-then-not-normalised c = λ h. (rw c.if-not-normalised.true at c.in_ok-normalised.ensures) (every_at IsNormalised c.args.list.now c.loop-eq.eq-index c.eq-item.result c.loop-eq-test.true c.eq-item.is h)

pub loop-eq-preserved : goal.loop-eq-preserved
loop-eq-preserved c = every_more IsNormalised c.args.list.now c.loop-eq.eq-index c.eq-item.result c.loop-eq-test.true c.eq-item.is c.loop-eq.invariant (rw c.if-not-normalised.false at c.in_ok-normalised.ensures)

pub returns : goal.returns
returns c = subst (Every IsNormalised) (all_taken c.args.list.now c.loop-eq.eq-index (omega (arith, c.loop-eq-test.false))) c.loop-eq.invariant
