-- The list of names as JSON without blanks.
use Rattle.std.specs.Prelude.{ℕ, List, map, codes}
use Rattle.serde_json.specs.Data.{Data, string, array, object, member, no_members}
use Rattle.serde_json.specs.View.{items_of}
use Rattle.serde_json.specs.Written.{compact_text}

-- an object with the one member `names`, whose value is the array of the names
abbrev pub names_data : List (List ℕ) → Data
names_data names = object (member (codes "names") (array (items_of (map string names))) no_members)

-- its text without blanks
abbrev pub names_json : List (List ℕ) → List ℕ
names_json names = compact_text (names_data names)
