-- What stands behind the front of the path is no name, so the path leads nowhere.
use Rattle.std.specs.Prelude.{codes}
use Rattle.std.proofs.Common.{◌≡◌, ℕ, List, ◌++◌, length, drop, sym, ap, subst, ◌∙◌}
use Rattle.lie_outer.specs.Names.{IsStudyName}
use Rattle.lie_http.proofs.Paths.{nowhere_named}
use Rattle.lie_http.proofs.places.study_place.Goals as goal

behind : (path rest prefix name : List ℕ) → prefix ≡ codes "/study/" → rest ≡ drop (length prefix) path
    → path ≡ codes "/study/" ++ name → name ≡ rest
behind path rest prefix name front e at = sym (e ∙ ap (λ (l : List ℕ). drop (length l) path) front ∙ ap (drop 7) at)

pub returns-in-None : goal.returns-in-None
returns-in-None c =
    let none = rw c.in-None.is at c.in_ok-name.ensures in
    nowhere_named c.args.path.now c.requires (λ name at. none (subst IsStudyName
    (behind c.args.path.now c.in-Some.rest.now c.as_slice.result.now name c.as_slice.ensures c.in-Some.ensures.cases.1 at.1) at.0))
