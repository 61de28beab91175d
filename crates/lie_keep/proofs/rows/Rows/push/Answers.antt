-- The new row has a name of its own, and there is room for it.
use Rattle.lie_outer.proofs.DifferingNames.{AreRows-push}
use Rattle.lie_keep.proofs.rows.Rows.push.Goals as goal

pub invariant_of-self-2 : goal.invariant_of-self-2
invariant_of-self-2 c = rw c.in_ok-push.ensures.items (AreRows-push c.self.inside.items.items c.args.row c.self.invariant (rw c.self.view_is c.requires.fresh) (rw c.self.view_is c.requires.room))

pub returns-clause-rows : goal.returns-clause-rows
returns-clause-rows c = rw c.in_ok-push.ensures.items (AreRows-push c.self.inside.items.items c.args.row c.self.invariant (rw c.self.view_is c.requires.fresh) (rw c.self.view_is c.requires.room))
