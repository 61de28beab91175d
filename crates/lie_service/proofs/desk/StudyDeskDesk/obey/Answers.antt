-- An order leaves what its call leaves.
use Rattle.lie_http.specs.declared.orders.Order.TheVariants as orders
use Rattle.lie_service.proofs.Replying.{call_obeys}
use Rattle.lie_service.proofs.desk.StudyDeskDesk.obey.Goals as goal

pub returns-in-Analyse : goal.returns-in-Analyse
returns-in-Analyse g c =
    let held = g.K.Keeper.held c.args.keeper.now in
    let faults = g.K.Keeper.fault_count c.args.keeper.now in
    rw c.in-Analyse.is
    (call_obeys c.args.self.now.budget held held faults faults orders.Analyse c.args.body.now c.analyse.result (c.analyse.ensures held faults))

pub returns-in-List : goal.returns-in-List
returns-in-List g c =
    rw c.in-List.is (call_obeys c.args.self.now.budget (g.K.Keeper.held c.args.keeper.now) (g.K.Keeper.held c.list.new.keeper)
    (g.K.Keeper.fault_count c.args.keeper.now) (g.K.Keeper.fault_count c.list.new.keeper) orders.List c.args.body.now c.list.result
    (c.list.ensures c.args.self.now.budget c.args.body.now))

pub returns-in-Show : goal.returns-in-Show
returns-in-Show g c =
    rw c.in-Show.is (call_obeys c.args.self.now.budget (g.K.Keeper.held c.args.keeper.now) (g.K.Keeper.held c.show.new.keeper)
    (g.K.Keeper.fault_count c.args.keeper.now) (g.K.Keeper.fault_count c.show.new.keeper) (orders.Show c.in-Show.name) c.args.body.now c.show.result
    (c.show.ensures c.args.self.now.budget c.args.body.now))

pub returns-in-Drop : goal.returns-in-Drop
returns-in-Drop g c =
    rw c.in-Drop.is (call_obeys c.args.self.now.budget (g.K.Keeper.held c.args.keeper.now) (g.K.Keeper.held c.drop_named.new.keeper)
    (g.K.Keeper.fault_count c.args.keeper.now) (g.K.Keeper.fault_count c.drop_named.new.keeper) (orders.Drop c.in-Drop.name) c.args.body.now
    c.drop_named.result (c.drop_named.ensures c.args.self.now.budget c.args.body.now))
