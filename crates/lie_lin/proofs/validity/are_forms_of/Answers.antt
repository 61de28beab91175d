use Rattle.std.proofs.Common.{subst, arith}
use Rattle.std.specs.Prelude.{map}
use Rattle.std.specs.List.{AllByRecursion as Every}
use Rattle.lie_math.proofs.EveryElement.{every_at}
use Rattle.lie_systems.specs.ValidSystems.{IsFormOf}
use Rattle.lie_ring.proofs.Fronts.{all_taken}
use Rattle.lie_lin.specs.Systems.{unknown_of}
use Rattle.lie_lin.proofs.DecidingParts.{every_more}
use Rattle.lie_lin.proofs.validity.are_forms_of.Goals as goal

pub returns-then-not-fits : goal.returns-then-not-fits
returns-then-not-fits c = λ h.
    (rw c.if-not-fits.true at c.in_ok-fits.ensures) (every_at (IsFormOf c.args.bound (map unknown_of c.args.unknowns.now)) c.args.list.now c.loop-eq.eq-index c.eq-item.result c.loop-eq-test.true c.eq-item.is h)

pub loop-eq-preserved : goal.loop-eq-preserved
loop-eq-preserved c = every_more (IsFormOf c.args.bound (map unknown_of c.args.unknowns.now)) c.args.list.now c.loop-eq.eq-index c.eq-item.result c.loop-eq-test.true c.eq-item.is c.loop-eq.invariant (rw c.if-not-fits.false at c.in_ok-fits.ensures)

pub returns : goal.returns
returns c = subst (Every (IsFormOf c.args.bound (map unknown_of c.args.unknowns.now))) (all_taken c.args.list.now c.loop-eq.eq-index (omega (arith, c.loop-eq-test.false))) c.loop-eq.invariant
