-- The bulks of what the rules make: the same made with absolute values and plus signs.
use Rattle.std.specs.Prelude.{ℕ, zero, suc, List, [], ◌∷◌, ◌++◌}
use Rattle.std.specs.Fn.{iterate}
use Rattle.lie_math.specs.LinearForm.{LinearForm}
use Rattle.lie_math.specs.LinearSystem.{Unknown, LinearSystem}
use Rattle.lie_systems.specs.Triples.{triples}
use Rattle.lie_systems.specs.Bulk.{bulk, system_triple_count}
use Rattle.lie_systems.specs.Works.{Made, AForm, Triples}
use Rattle.lie_steps.specs.Derivatives.{derivative}

-- the form with the absolute values of its numbers
abbrev pub absolute_form : LinearForm → LinearForm
absolute_form E = bulk (triples E)

-- ---- derivatives, each made from the one before it
abbrev pub derivative_bulk : List Unknown → ℕ → LinearForm → LinearForm
derivative_bulk unknowns i E = derivative unknowns i (absolute_form E)

-- c derivatives by the i-th variable
abbrev pub derivatives_made_by : List Unknown → ℕ → ℕ → LinearForm → List Made
derivatives_made_by unknowns i zero E = []
derivatives_made_by unknowns i (suc c) E = AForm (derivative_bulk unknowns i E) ∷ derivatives_made_by unknowns i c (derivative unknowns i E)

-- derivatives by counts, by the first variable first
abbrev pub derivatives_made_from : List Unknown → ℕ → List ℕ → LinearForm → List Made
derivatives_made_from unknowns i [] E = []
derivatives_made_from unknowns i (c ∷ K) E = derivatives_made_by unknowns i c E
    ++ derivatives_made_from unknowns (suc i) K (iterate (derivative unknowns i) c E)

abbrev pub derivatives_made : List Unknown → List ℕ → LinearForm → List Made
derivatives_made unknowns K E = derivatives_made_from unknowns 0 K E

-- ---- the end of a step: the triples of the system that it leaves
abbrev pub system_made : LinearSystem → Made
system_made T = Triples (system_triple_count T)
