-- Names as JSON.
use Rattle.std.specs.Prelude.{map}
use Rattle.std.proofs.Common.{◌≡◌, ℕ, false, List, [], ◌∷◌, refl}
use Rattle.serde_json.specs.Data.{string}
use Rattle.serde_json.specs.View.{items_of}
use Rattle.serde_json.specs.Written.{has_float, items_have_float}
use Rattle.lie_http.specs.NamesJson.{names_data}

items_have_none : (names : List (List ℕ)) → items_have_float (items_of (map string names)) ≡ false
items_have_none [] = refl
items_have_none (name ∷ names) = items_have_none names

-- names are no floats
pub names_have_no_float : (names : List (List ℕ)) → has_float (names_data names) ≡ false
names_have_no_float names = simp (items_have_none names)
