-- The routes of the service, as the router holds them, and where paths lead.
use Rattle.std.specs.Prelude.{ℕ, ◌≡◌, ◌<◌, ◌∷◌, [], List, ◌++◌, Bool, ◌&&◌, not, if◌then◌else◌, nat_lt, nat_eq, bytes_eq, length}
use Rattle.std.specs.Prelude.{drop, codes, Option, Some, None}
use Rattle.std.specs.List.{starts_with, AllByRecursion}
use Rattle.matchit.specs.Rows.{RowsOf, param_token}
use Rattle.matchit.specs.Seek.{first, has_slash}
use Rattle.matchit.specs.Router.{RouteOf, map_key}
use Rattle.lie_http.specs.declared.routes.Route.{Route}
use Rattle.lie_http.specs.declared.routes.Route.TheVariants.{Analyse, Studies, Study}

-- a route without a parameter
abbrev pub literal : List ℕ → Route → List ℕ × RouteOf Route
literal text value = (text, record { pattern = text; text = text; names = []; value = value })

-- the route with a name at its end
abbrev pub named : List ℕ × RouteOf Route
named = (
  codes "/study/" ++ param_token ∷ [],
  record {
    pattern = codes "/study/" ++ param_token ∷ [];
    text = codes "/study/{name}";
    names = (8, 12) ∷ [];
    value = Study;
  },
)

-- all routes
abbrev pub the_routes : RowsOf (RouteOf Route)
the_routes = literal (codes "/analyse") Analyse ∷ (named ∷ (literal (codes "/study") Studies ∷ []))

-- one segment: some bytes without a slash
abbrev pub is_segment : List ℕ → Bool
is_segment bytes = nat_lt 0 (length bytes) && not (has_slash bytes)

-- where a path leads
abbrev pub route_of : List ℕ → Option Route
route_of path =
    if bytes_eq path (codes "/analyse") then Some Analyse
    else (if bytes_eq path (codes "/study") then Some Studies
    else (if starts_with nat_eq path (codes "/study/") && is_segment (drop 7 path) then Some Study else None))

-- the route that the router finds is the one to which the path leads
abbrev pub LeadsBy : Type 0
LeadsBy = (path : List ℕ) → AllByRecursion (λ b. b < 256) path
    → map_key (λ (r : RouteOf Route). r.value) (first the_routes path) ≡ route_of path
