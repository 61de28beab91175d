-- The end of a step: what it leaves is tidied, and the triples of all of it are counted.
use Rattle.std.specs.Prelude.{◌≡◌, ℕ, ◌⊎◌, List}
use Rattle.std.specs.List.{Contains}
use Rattle.lie_math.specs.LinearForm.{LinearForm}
use Rattle.lie_math.specs.LinearSystem.{Unknown, LinearSystem}
use Rattle.lie_systems.specs.ValidSystems.{IsValid}
use Rattle.lie_systems.specs.Works.{Made}
use Rattle.lie_steps.specs.Bulks.{system_made}
use Rattle.lie_steps.specs.Replacement.{replacement_made}
use Rattle.lie_steps.specs.Tidying.{IsTidySystem}

-- the end of a step that leaves X, tidied: the triples of what is left
abbrev pub EndMakes : LinearSystem → Made → Type 0
EndMakes X b = (T : LinearSystem) × IsTidySystem X T × (b ≡ system_made T)

-- what is left of X is valid
abbrev pub StaysValid : ℕ → LinearSystem → Type 0
StaysValid n X = (T : LinearSystem) → IsTidySystem X T → IsValid n T

-- the actions of replacing the unknown f of S by W over L, without the i-th equation, and of the end, which leaves X
abbrev pub EliminationMakes : LinearSystem → ℕ → ℕ → LinearForm → ℕ → List Unknown → LinearSystem → Made → Type 0
EliminationMakes S i f W L fresh X b = Contains (replacement_made S i f W L fresh) b ⊎ EndMakes X b
