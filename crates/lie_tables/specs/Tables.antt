-- Tables of equations: the unknowns and the leads with their places.
use Rattle.std.specs.Prelude.{◌≡◌, ℕ, zero, suc, ◌<◌, ◌≤◌, Bool, false, ◌&&◌, nat_eq, MatchBool, Option, None, Some, List, [], ◌∷◌, map, length, get_or}
use Rattle.std.specs.Cmp.Lexicographic.{pointwise}
use Rattle.std.specs.List.{insert, list_any}
use Rattle.lie_math.specs.Counts.{Derivative}
use Rattle.lie_math.specs.LinearForm.{LinearForm, no_form}
use Rattle.lie_math.specs.Polynomial.{WholePolynomial}
use Rattle.lie_tables.specs.declared.lead.Lead.{Lead}
use Rattle.lie_tables.specs.declared.tables.Tables.{Tables}
use Rattle.lie_tables.specs.Places.{IsTable, with_keys}

-- ---- the keys of an equation
-- the unknowns that occur, one for each derivative
abbrev pub unknowns_in : LinearForm → List ℕ
unknowns_in E = map (λ (e : Derivative × WholePolynomial). (e.0).unknown) E.list

-- the first n counts of a list of which zeros at the end are left out
abbrev pub filled : ℕ → List ℕ → List ℕ
filled zero cs = []
filled (suc n) [] = zero ∷ filled n []
filled (suc n) (c ∷ cs) = c ∷ filled n cs

abbrev pub lead_of : Derivative → Lead
lead_of d = record { unknown = d.unknown; counts = filled 8 d.counts }

-- the lead, if the form is not empty: the greatest derivative stands first
abbrev pub leads_of : List (Derivative × WholePolynomial) → List Lead
leads_of [] = []
leads_of (e ∷ es) = lead_of e.0 ∷ []

abbrev pub leads_in : LinearForm → List Lead
leads_in E = leads_of E.list

abbrev pub lead_eq : Lead → Lead → Bool
lead_eq l m = nat_eq l.unknown m.unknown && pointwise nat_eq l.counts m.counts

-- E has d as its lead
abbrev pub leads : Derivative → LinearForm → Bool
leads d E = list_any (lead_eq (lead_of d)) (leads_in E)

-- ---- tables
-- the tables have these rows of unknowns and of leads
pub record HasRows (t : Tables) (us : List (List ℕ)) (ls : List (List Lead)) : Type 0 where
  pub unknowns : IsTable nat_eq t.by_unknown us
  pub leads : IsTable lead_eq t.by_lead ls

-- the tables have the unknowns that occur in the equations and the leads of these, each with its places
abbrev pub HasPlaces : Tables → List LinearForm → Type 0
HasPlaces t Es = HasRows t (map unknowns_in Es) (map leads_in Es)

-- the same, unless the tables are not kept
abbrev pub IsIndexOf : Tables → List LinearForm → Type 0
IsIndexOf t Es = MatchBool t.kept (HasPlaces t Es) (Unit {0})

-- tables of the equations, kept where the old ones are
abbrev pub Follows : Tables → Tables → List LinearForm → Type 0
Follows old new Es = (new.kept ≡ old.kept) × IsIndexOf new Es

-- ---- the next place
-- the place is one from i on, and no equation between passes the test; or there is none, and no equation from i on passes
abbrev pub IsNextPlace : (LinearForm → Bool) → List LinearForm → ℕ → Option ℕ → Type 0
IsNextPlace test Es i None = (j : ℕ) → i ≤ j → j < length Es → test (get_or Es j no_form) ≡ false
IsNextPlace test Es i (Some p) = (i ≤ p) × (p < length Es) × ((j : ℕ) → i ≤ j → j < p → test (get_or Es j no_form) ≡ false)

-- ---- an equation that is put in
-- the tables have a row of no keys at a place
abbrev pub IsOpened : Tables → List LinearForm → ℕ → Type 0
IsOpened t Es i = HasRows t (insert (map unknowns_in Es) i []) (insert (map leads_in Es) i [])

-- the tables have a row of some keys there
abbrev pub IsPartlyNoted : Tables → List LinearForm → ℕ → Type 0
IsPartlyNoted t Es i = (fs : List ℕ) × (ms : List Lead)
    × HasRows t (with_keys (insert (map unknowns_in Es) i []) i fs) (with_keys (insert (map leads_in Es) i []) i ms)
