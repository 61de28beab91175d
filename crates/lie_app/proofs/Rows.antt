-- The rows that clap keeps of values, each of which was found once.
use Rattle.std.specs.Prelude.{Bool, true, false, ◌≡◌, ◌||◌, List, [], ◌∷◌, ◌++◌, map, Some, None, find, if◌then◌else◌, option_and_then, slice_get}
use Rattle.std.proofs.Common.{refl, sym, ap, ◌∙◌}
use Rattle.std.specs.Option.{option_map, option_map_or}
use Rattle.std.specs.Str.{bytes_eq}
use Rattle.std.specs.declared.option.Option.{Option}
use Rattle.std.proofs.lemmas.List.{append-nil}
use Rattle.std.proofs.lemmas.List.Folds.{list_any-append}
use Rattle.clap.specs.Facts.{explicit_source}
use Rattle.clap.specs.Takes.{is_given}
use Rattle.clap.specs.Walk.{Row, Text, at_row, first_of, has_row, more_values, with_values, without}
use Rattle.clap.specs.declared.builder.value_parser.Reading.TheVariants.{AsWritten}
use Rattle.clap.specs.declared.parser.matches.ValueSource.TheVariants.{CommandLine}
use Rattle.lie_app.specs.Words.{Values, value_of}

-- a value as clap keeps it
abbrev pub found_row : Text × Text → Row
found_row v = record { id = v.0; values = v.1 ∷ []; count = None; source = Some CommandLine; reading = AsWritten }

abbrev pub found_rows : Values → List Row
found_rows given = map found_row given

first_here : (b : Bool) (v : Text × Text) (o : Option Row) (r : Option (Text × Text)) → option_and_then (λ (w : Row). slice_get w.values 0) o ≡ option_map (λ (u : Text × Text). u.1) r
    → option_and_then (λ (w : Row). slice_get w.values 0) (if b then Some (found_row v) else o) ≡ option_map (λ (u : Text × Text). u.1) (if b then Some v else r)
first_here true v o r e = refl
first_here false v o r e = e

-- the first value of a name is the value that was found
pub first_found : (given : Values) (name : Text) → first_of name (found_rows given) ≡ value_of given name
first_found [] name = refl
first_found (v ∷ given) name = first_here (bytes_eq v.0 name) v (find (λ (r : Row). bytes_eq r.id name) (found_rows given)) (find (λ (u : Text × Text). bytes_eq u.0 name) given) (first_found given name)

given_here : (b : Bool) (v : Text × Text) (o : Option Row) (has : Bool) → option_map_or (λ (r : Row). explicit_source r.source) o false ≡ has
    → option_map_or (λ (r : Row). explicit_source r.source) (if b then Some (found_row v) else o) false ≡ (b || has)
given_here true v o has e = refl
given_here false v o has e = e

-- what has a row was given
pub given_found : (given : Values) (name : Text) → is_given name (found_rows given) ≡ has_row name (found_rows given)
given_found [] name = refl
given_found (v ∷ given) name = given_here (bytes_eq v.0 name) v (find (λ (r : Row). bytes_eq r.id name) (found_rows given)) (has_row name (found_rows given)) (given_found given name)

-- a row of a new name is put behind the others
end_here : (b : Bool) (r : Row) (change : Row → List Row) (rows missing changed : List Row) (has : Bool) → (has ≡ false → changed ≡ rows ++ missing) → (b || has) ≡ false
    → (if b then change r ++ rows else r ∷ changed) ≡ r ∷ rows ++ missing
end_here true r change rows missing changed has rest none = absurd (cc)
end_here false r change rows missing changed has rest none = ap (λ (rs : List Row). r ∷ rs) (rest none)

at_end : (id : Text) (change : Row → List Row) (missing rows : List Row) → has_row id rows ≡ false → at_row id change missing rows ≡ rows ++ missing
at_end id change missing [] none = refl
at_end id change missing (r ∷ rows) none = end_here (bytes_eq r.id id) r change rows missing (at_row id change missing rows) (has_row id rows) (at_end id change missing rows) none

map_end : (given : Values) (v : Text × Text) → found_rows given ++ found_row v ∷ [] ≡ found_rows (given ++ v ∷ [])
map_end [] v = refl
map_end (w ∷ given) v = ap (λ (rs : List Row). found_row w ∷ rs) (map_end given v)

pub value_added : (given : Values) (name text : Text) (rows : List Row) → rows ≡ found_rows given → has_row name (found_rows given) ≡ false
    → with_values name AsWritten CommandLine (text ∷ []) (without name rows) ≡ found_rows (given ++ (name, text) ∷ [])
value_added given name text rows is none =
    let whole : without name rows ≡ found_rows given = ap (without name) is ∙ (at_end name (λ _. []) [] (found_rows given) none ∙ append-nil (found_rows given)) in
    ap (λ (rs : List Row). with_values name AsWritten CommandLine (text ∷ []) rs) whole ∙ (at_end name (more_values CommandLine (text ∷ [])) (found_row (name, text) ∷ []) (found_rows given) none ∙ map_end given (name, text))

-- which names have rows
pub has_added : (given : Values) (name text id : Text) → has_row id (found_rows (given ++ (name, text) ∷ [])) ≡ (has_row id (found_rows given) || (bytes_eq name id || false))
has_added given name text id = ap (has_row id) (sym (map_end given (name, text))) ∙ list_any-append (λ (r : Row). bytes_eq r.id id) (found_rows given) (found_row (name, text) ∷ [])
