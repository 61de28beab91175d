-- Lists of equations as steps change them, and general forms after an elimination.
use Rattle.std.specs.Prelude.{◌≡◌, ℕ, suc, ◌+◌, Bool, cond, ltb, not, List, [], ◌∷◌, filter}
use Rattle.lie_math.specs.LinearForm.{LinearForm}
use Rattle.lie_math.specs.LinearSystem.{Unknown, LinearSystem}
use Rattle.lie_systems.specs.Bulk.{triple_count_of_all}
use Rattle.lie_systems.specs.Works.{Made, Triples}
use Rattle.lie_steps.specs.Equations.{mentions}
use Rattle.lie_steps.specs.Replacement.{all_replaced, all_replaced_divided, unknowns_after, with_replaced}
use Rattle.lie_steps.specs.Tidying.{IsTidied}

-- the equations without the unknown f
abbrev pub unmentioned : ℕ → List LinearForm → List LinearForm
unmentioned f Es = filter (λ E. not (mentions f E)) Es

-- where the element at a place stands after others were put in at these places, one after the other
abbrev pub moved : ℕ → List ℕ → ℕ
moved k [] = k
moved k (i ∷ is) = moved (cond (ltb k i) k (suc k)) is

-- the triples of equations, tidied, and of general forms
abbrev pub TidiedMakes : List LinearForm → List LinearForm → Made → Type 0
TidiedMakes Es Gs b = (Ns : List LinearForm) × IsTidied Es Ns × (b ≡ Triples (triple_count_of_all Ns + triple_count_of_all Gs))

-- the general forms with W over L for f, divided or not
abbrev pub general_after : Bool → List Unknown → ℕ → LinearForm → ℕ → List LinearForm → List LinearForm
general_after divided us f W L Gs = cond divided (all_replaced_divided us f W L Gs) (all_replaced us f W L Gs)

-- what an elimination leaves, with the general forms divided or not
abbrev pub left_by : Bool → LinearSystem → ℕ → ℕ → LinearForm → ℕ → List Unknown → LinearSystem
left_by divided S i f W L fresh = with_replaced S i f W L fresh (general_after divided (unknowns_after S f fresh) f W L S.general)
