-- No connection is served yet, and one more than before.
use Rattle.std.proofs.Common.{arith}
use Rattle.lie_service.proofs.Leaves.{honest-refl, honest-trans}
use Rattle.lie_service.proofs.Many.{further}
use Rattle.lie_service.specs.Serving.{none}
use Rattle.lie_service.proofs.serving.serve_each.Goals as goal

pub loop-done-init : goal.loop-done-init
loop-done-init g c = (omega arith, c.requires.closed, honest-refl (g.K.Keeper.held c.args.keeper.now), none)

pub loop-done-preserved : goal.loop-done-preserved
loop-done-preserved g c =
    let (le, closed, honest, many) = c.loop-done.invariant in
    let more = c.loop-done-test.true in (
      omega arith,
      c.in-Ok.ensures.still_closed,
      honest-trans (g.K.Keeper.held c.args.keeper.now) (g.K.Keeper.held c.loop-done.keeper) (g.K.Keeper.held c.serve_next.new.keeper) honest c.in-Ok.ensures.honest,
      further c.args.budget c.args.count _ _ c.loop-done.done _ _ _ _ many c.in-Ok.ensures.serves,
    )
