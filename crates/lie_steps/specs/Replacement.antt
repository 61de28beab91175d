-- An unknown f replaced by a form W over a whole number L.
use Rattle.std.specs.Prelude.{ℕ, ◌+◌, cond, eqb, not, List, [], ◌∷◌, ◌++◌, length, remove, filter, map, pos}
use Rattle.std.specs.List.{list_any, flat_map}
use Rattle.lie_math.specs.Monomial.{unit}
use Rattle.lie_math.specs.Polynomial.{constant, ◌*ᴾ◌}
use Rattle.lie_math.specs.LinearForm.{LinearForm, form_term, form_over, times_form}
use Rattle.lie_math.specs.LinearSystem.{Unknown, LinearSystem}
use Rattle.lie_systems.specs.Triples.{triples, sum_of_triples}
use Rattle.lie_systems.specs.Bulk.{triple_count_of_all}
use Rattle.lie_systems.specs.Works.{Made, AForm, ANumber, Triples, AnUnknown}
use Rattle.lie_systems.specs.Normalised.{content, divided}
use Rattle.lie_steps.specs.Equations.{mentions}
use Rattle.lie_steps.specs.Derivatives.{derivatives}
use Rattle.lie_steps.specs.Bulks.{absolute_form}

-- all other triples are multiplied by L, and each derivative of f is replaced by that of W
unfoldable pub put_in : List Unknown → ℕ → LinearForm → ℕ → LinearForm → LinearForm
put_in unknowns f W L E =
    form_over (λ d a. cond (eqb d.unknown f) (times_form a (derivatives unknowns d.counts W)) (form_term d (constant (pos L) *ᴾ a))) E

-- an equation without f stays
abbrev pub replaced : List Unknown → ℕ → LinearForm → ℕ → LinearForm → LinearForm
replaced unknowns f W L E = cond (mentions f E) (put_in unknowns f W L E) E

-- the general forms stay where none has f
abbrev pub all_replaced : List Unknown → ℕ → LinearForm → ℕ → List LinearForm → List LinearForm
all_replaced unknowns f W L Gs = cond (list_any (mentions f) Gs) (map (put_in unknowns f W L) Gs) Gs

-- each number divided by g
unfoldable pub divided_by : ℕ → LinearForm → LinearForm
divided_by g E = sum_of_triples (map (divided (pos 1) g unit) (triples E))

-- the forms divided by the greatest common divisor of all their numbers
abbrev pub without_divisor : List LinearForm → List LinearForm
without_divisor Gs = map (divided_by (content (flat_map triples Gs))) Gs

-- where one of the general forms has f, they are divided too
abbrev pub all_replaced_divided : List Unknown → ℕ → LinearForm → ℕ → List LinearForm → List LinearForm
all_replaced_divided unknowns f W L Gs = cond (list_any (mentions f) Gs) (without_divisor (map (put_in unknowns f W L) Gs)) Gs

-- the unknowns without f
abbrev pub without : ℕ → List Unknown → List Unknown
without f unknowns = filter (λ (u : Unknown). not (eqb u.number f)) unknowns

-- f goes, and the fresh ones come last
abbrev pub unknowns_after : LinearSystem → ℕ → List Unknown → List Unknown
unknowns_after S f fresh = without f S.unknowns ++ fresh

-- S with W over L for f, without the i-th equation
abbrev pub with_replaced : LinearSystem → ℕ → ℕ → LinearForm → ℕ → List Unknown → List LinearForm → LinearSystem
with_replaced S i f W L fresh general = record {
  unknowns = unknowns_after S f fresh;
  equations = map (replaced (unknowns_after S f fresh) f W L) (remove S.equations i);
  general = general;
  next = S.next + length fresh;
}

-- the same, and the general forms are not divided
abbrev pub eliminated : LinearSystem → ℕ → ℕ → LinearForm → ℕ → List Unknown → LinearSystem
eliminated S i f W L fresh = with_replaced S i f W L fresh (all_replaced (unknowns_after S f fresh) f W L S.general)

-- and here they are
abbrev pub eliminated_divided : LinearSystem → ℕ → ℕ → LinearForm → ℕ → List Unknown → LinearSystem
eliminated_divided S i f W L fresh = with_replaced S i f W L fresh (all_replaced_divided (unknowns_after S f fresh) f W L S.general)

-- ---- the actions
abbrev pub put_in_bulk : List Unknown → ℕ → LinearForm → ℕ → LinearForm → LinearForm
put_in_bulk unknowns f W L E = put_in unknowns f (absolute_form W) L (absolute_form E)

-- the numbers of fresh unknowns
abbrev pub fresh_made : List Unknown → List Made
fresh_made fresh = map (λ (u : Unknown). AnUnknown u.number) fresh

-- W over L: nothing is added up in it
abbrev pub solution_made : LinearForm → ℕ → List Made
solution_made W L = AForm (absolute_form W) ∷ ANumber L ∷ []

-- the equations that have f, each by itself
abbrev pub replaced_made : List Unknown → ℕ → LinearForm → ℕ → List LinearForm → List Made
replaced_made unknowns f W L Es = map (λ E. AForm (put_in_bulk unknowns f W L E)) (filter (mentions f) Es)

-- the general forms all at once, with their triples counted over all of them, where one has f
abbrev pub all_replaced_made : List Unknown → ℕ → LinearForm → ℕ → List LinearForm → List Made
all_replaced_made unknowns f W L Gs =
    cond (list_any (mentions f) Gs)
    (map (λ G. AForm (put_in_bulk unknowns f W L G)) Gs ++ Triples (triple_count_of_all (map (put_in_bulk unknowns f W L) Gs)) ∷ [])
    []

-- the other equations, and then the general forms
abbrev pub replacement_made : LinearSystem → ℕ → ℕ → LinearForm → ℕ → List Unknown → List Made
replacement_made S i f W L fresh =
    replaced_made (unknowns_after S f fresh) f W L (remove S.equations i) ++ all_replaced_made (unknowns_after S f fresh) f W L S.general
