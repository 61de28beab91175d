-- A path that is no text leads nowhere, and else its route tells its place.
use Rattle.std.proofs.Common.{sym, ap, ◌∙◌}
use Rattle.lie_http.specs.Routes.{route_of}
use Rattle.lie_http.proofs.Paths.{nowhere_routed, nowhere_untold}
use Rattle.lie_http.proofs.places.place_of.Goals as goal

pub returns-in_default : goal.returns-in_default
returns-in_default c = nowhere_untold c.args.path.now c.in_default.ensures.cases.0

pub returns-in-None : goal.returns-in-None
returns-in-None c =
    let none = rw c.in-None.is at c.in_ok-route_of.ensures in
    nowhere_routed c.args.path.now (ap route_of (sym c.in-Ok.ensures.cases.0) ∙ sym none)
