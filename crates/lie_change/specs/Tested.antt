-- What testing a rule at a place means: whether it applies is told.
use Rattle.std.specs.Prelude.{Bool, MatchBool}
use Rattle.lie_math.specs.LinearSystem.{LinearSystem}
use Rattle.lie_steps.specs.Rules.{Rule, Place, Applies}

-- it was told whether the rule applies
abbrev pub IsTested : Rule → Place → LinearSystem → Bool → Type 0
IsTested r p S told = MatchBool told (Applies r S p) (¬ (Applies r S p))
