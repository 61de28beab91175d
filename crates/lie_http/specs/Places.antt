-- Where a request leads, by its path and its method.
use Rattle.std.specs.Prelude.{ℕ, ◌≡◌, ◌≢◌, ◌++◌, if◌then◌else◌, bytes_eq, List, codes}
use Rattle.lie_outer.specs.Names.{IsStudyName}
use Rattle.lie_http.specs.declared.orders.Order.TheVariants as orders
use Rattle.lie_http.specs.declared.orders.Destination.{Destination}
use Rattle.lie_http.specs.declared.orders.Destination.TheVariants.{Desk, NoSuchPath, NoSuchMethod}
use Rattle.lie_http.specs.declared.places.Place.{Place}
use Rattle.lie_http.specs.declared.places.Place.TheVariants.{Analyse, Studies, Study, Nowhere}

-- the path is that of a study of the name
abbrev pub IsStudyPath : List ℕ → List ℕ → Type 0
IsStudyPath path name = IsStudyName name × (path ≡ codes "/study/" ++ name)

-- the path leads to the place
abbrev pub LeadsTo : List ℕ → Place → Type 0
LeadsTo path Analyse = path ≡ codes "/analyse"
LeadsTo path Studies = path ≡ codes "/study"
LeadsTo path (Study name) = IsStudyPath path name
LeadsTo path Nowhere = (path ≢ codes "/analyse") × (path ≢ codes "/study") × ((name : List ℕ) → IsStudyPath path name → ⊥)

-- where the methods lead at a study
abbrev pub at_study : List ℕ → List ℕ → Destination
at_study name method =
    if bytes_eq method (codes "POST") then Desk (orders.Study name)
    else (if bytes_eq method (codes "GET") then Desk (orders.Show name)
    else (if bytes_eq method (codes "DELETE") then Desk (orders.Drop name) else NoSuchMethod))

-- where the methods lead at a place
abbrev pub at_place : Place → List ℕ → Destination
at_place Analyse method = if bytes_eq method (codes "POST") then Desk orders.Analyse else NoSuchMethod
at_place Studies method = if bytes_eq method (codes "GET") then Desk orders.List else NoSuchMethod
at_place (Study name) method = at_study name method
at_place Nowhere method = NoSuchPath

-- where a method and a path lead
abbrev pub IsDestination : List ℕ → List ℕ → Destination → Type 0
IsDestination method path to = (place : Place) × LeadsTo path place × (to ≡ at_place place method)
