-- What trying a rule at a place means: what it makes, and what it leaves of a system.
use Rattle.std.specs.Prelude.{◌≡◌, ℕ, ◌⊎◌, Bool, MatchBool}
use Rattle.lie_math.specs.LinearSystem.{LinearSystem}
use Rattle.lie_systems.specs.Works.{Made}
use Rattle.lie_lin.specs.Systems.{SpaceSystem}
use Rattle.lie_steps.specs.Bulks.{system_made}
use Rattle.lie_steps.specs.Rules.{Rule, Place, Applies, After, Tries, Makes}

-- a rule that looks at one equation is at this place
abbrev pub at : ℕ → Place
at i = record { first = i; second = 0 }

-- the actions of trying a rule at a place: those of the test, and where the rule applies those of the step and of its end
abbrev pub TryMakes : Rule → LinearSystem → Place → Made → Type 0
TryMakes r S p b = Tries r S p b ⊎ ((T : LinearSystem) × After r S p T × (Makes r S p b ⊎ (b ≡ system_made T)))

-- the rule was tried: true, and it made the new system of the old one; or false, it does not apply, and nothing changed
abbrev pub IsTried : Rule → Place → SpaceSystem → SpaceSystem → Bool → Type 0
IsTried r p old new applies = (new.space ≡ old.space)
    × MatchBool applies (After r old.system p new.system) ((¬ (Applies r old.system p)) × (new.system ≡ old.system))
