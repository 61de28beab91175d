-- The connections that are done were served, by the rows that the ones before left.
use Rattle.std.specs.Prelude.{◌-◌, ◌≤◌, IsFalse}
use Rattle.lie_serve.specs.Replies.{kept}
use Rattle.lie_service.specs.Orders.{KeepsHonest}
use Rattle.lie_service.specs.Serving.{ServesMany}
use Rattle.lie_service.proofs.serving.serve_each.Given as goal

abbrev pub invariant-loop-done : goal.invariant-loop-done
invariant-loop-done g l =
    (l.done ≤ l.count) × IsFalse (g.L.Link.line l.link).is_open × KeepsHonest (g.K.Keeper.held l.fn.keeper) (g.K.Keeper.held l.keeper)
    × ServesMany l.budget (kept (g.K.Keeper.held l.fn.keeper) (g.K.Keeper.fault_count l.fn.keeper)) (g.L.Link.line l.fn.link) l.done
    (kept (g.K.Keeper.held l.keeper) (g.K.Keeper.fault_count l.keeper)) (g.L.Link.line l.link)

abbrev pub decreases-loop-done : goal.decreases-loop-done
decreases-loop-done g l = l.count - l.done
