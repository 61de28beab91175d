-- The route that is found is the one to which the path leads.
use Rattle.std.specs.List.{AllByRecursion as Every}
use Rattle.std.proofs.Common.{ℕ, suc, ◌<◌, List, [], ◌∷◌, get_or, sym, ap, ◌∙◌, Option, arith}
use Rattle.matchit.specs.Rows.{RowsOf}
use Rattle.matchit.specs.Seek.{first}
use Rattle.matchit.specs.Router.{RouteOf, map_key}
use Rattle.lie_http.specs.declared.routes.Route.{Route}
use Rattle.lie_http.proofs.Walk.{leads_by}
use Rattle.lie_http.proofs.routes.route_in.Goals as goal

each_byte : (path : List ℕ) → ((i : ℕ) → get_or path i 0 < 256) → Every (λ b. b < 256) path
each_byte [] small = tt
each_byte (b ∷ path) small = (small 0, each_byte path (λ i. small (suc i)))

value_of : Option (RouteOf Route) → Option Route
value_of found = map_key (λ (r : RouteOf Route). r.value) found

pub returns-in-Ok : goal.returns-in-Ok
unfolding value_of
returns-in-Ok c =
    sym (ap value_of c.in-Ok.ensures.found) ∙ ap (λ (rows : RowsOf (RouteOf Route)). value_of (first rows c.args.path.now)) c.requires
    ∙ leads_by c.args.path.now (each_byte c.args.path.now (λ i. omega (arith, c.type_inv.path i)))

pub returns-in-Err : goal.returns-in-Err
unfolding value_of
returns-in-Err c =
    sym (ap value_of c.in-Err.ensures.missing) ∙ ap (λ (rows : RowsOf (RouteOf Route)). value_of (first rows c.args.path.now)) c.requires
    ∙ leads_by c.args.path.now (each_byte c.args.path.now (λ i. omega (arith, c.type_inv.path i)))
