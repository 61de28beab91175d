-- The places of what has a key, as lists that rise, and tables of these lists by the keys.
use Rattle.std.specs.Prelude.{◌≡◌, ℕ, ◌+◌, ◌-◌, ◌^◌, Bool, cond, ltb, eqb, not, min, List, [], ◌∷◌, ◌++◌, map, filter, get_or, slice_set, Option, None, Some, Vec}
use Rattle.std.specs.declared.alloc.Global.{Global}
use Rattle.std.specs.List.{list_any}
use Rattle.std.specs.Option.{option_map}
use Rattle.indexmap.specs.IndexMap.{IndexMap, get}

-- where the elements that pass the test stand, counted from i on
abbrev pub places_from : {X : Type 0} → (X → Bool) → ℕ → List X → List ℕ
places_from test i [] = []
places_from test i (x ∷ xs) = cond (test x) (i ∷ places_from test (i + 1) xs) (places_from test (i + 1) xs)

abbrev pub places_where : {X : Type 0} → (X → Bool) → List X → List ℕ
places_where test xs = places_from test 0 xs

-- ---- lists of places
-- the list with the place i, which is put in before what is greater
abbrev pub placed : ℕ → List ℕ → List ℕ
placed i [] = i ∷ []
placed i (p ∷ ps) = cond (ltb p i) (p ∷ placed i ps) (cond (eqb p i) (p ∷ ps) (i ∷ p ∷ ps))

-- the first place that is not below i
abbrev pub first_from : ℕ → List ℕ → Option ℕ
first_from i [] = None
first_from i (p ∷ ps) = cond (ltb p i) (first_from i ps) (Some p)

-- a place after something was put in at i
abbrev pub lifted : ℕ → ℕ → ℕ
lifted i p = cond (ltb p i) p (min (p + 1) (2 ^ 64 - 1))

-- a place after what stood at i was taken out
abbrev pub lowered : ℕ → ℕ → ℕ
lowered i p = cond (ltb i p) (p - 1) p

abbrev pub opened : ℕ → List ℕ → List ℕ
opened i ps = map (lifted i) ps

abbrev pub closed : ℕ → List ℕ → List ℕ
closed i ps = map (lowered i) (filter (λ p. not (eqb p i)) ps)

-- ---- tables
-- a list that is not empty
abbrev pub some_places : List ℕ → Option (List ℕ)
some_places [] = None
some_places (p ∷ ps) = Some (p ∷ ps)

-- the table has as keys those of the rows, each with the places of its rows
pub record IsTable {K S : Type 0} (eq : K → K → Bool) (m : IndexMap K (Vec ℕ Global) S) (rows : List (List K)) : Type 0 where
  pub at : (k : K) → option_map (λ (v : Vec ℕ Global). v.items) (get eq m k) ≡ some_places (places_where (list_any (eq k)) rows)

-- the rows with a key more at a place
abbrev pub with_key : {K : Type 0} → List (List K) → ℕ → K → List (List K)
with_key rows i k = slice_set rows i (get_or rows i [] ++ k ∷ [])

-- the same with several keys
abbrev pub with_keys : {K : Type 0} → List (List K) → ℕ → List K → List (List K)
with_keys rows i ks = slice_set rows i (get_or rows i [] ++ ks)
