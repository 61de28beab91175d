-- What is done with a rule at a place, and what the search for the first rule that applies finds.
use Rattle.std.specs.Prelude.{◌≡◌, ℕ, suc, ◌<◌, Bool, MatchBool, Option, MatchOption}
use Rattle.lie_math.specs.LinearSystem.{LinearSystem}
use Rattle.lie_systems.specs.Works.{Made, IsWorkWithin}
use Rattle.lie_steps.specs.Rules.{Rule, rank, Place, Applies, Tries, Next, IsStuck, SearchMakes, NextMakes}
use Rattle.lie_lin.specs.Systems.{SpaceSystem}
use Rattle.lie_change.specs.Tested.{IsTested}
use Rattle.lie_change.specs.Tried.{IsTried, TryMakes}
use Rattle.lie_solve.specs.declared.attempts.Attempt.{Attempt}
use Rattle.lie_solve.specs.declared.attempts.Attempt.TheVariants.{Step, Test}
use Rattle.lie_solve.specs.declared.rules.RuleName.{RuleName}
use Rattle.lie_solve.specs.RuleNames.{rule_of}

-- ---- at a place
abbrev pub IsAttempted : Attempt → Rule → Place → SpaceSystem → SpaceSystem → Bool → Type 0
IsAttempted Step r p old new told = IsTried r p old new told
IsAttempted Test r p old new told = (new ≡ old) × IsTested r p old.system told

abbrev pub AttemptMakes : Attempt → Rule → LinearSystem → Place → Made → Type 0
AttemptMakes Step r S p b = TryMakes r S p b
AttemptMakes Test r S p b = Tries r S p b

-- ---- the search
-- no rule of a lesser rank applies, and the tests of these rules are within the limits
pub record IsPassed (S : LinearSystem) (bound : ℕ) : Type 0 where
  pub none : (r : Rule) (p : Place) → rank r < bound → ¬ (Applies r S p)
  pub within : (r : Rule) (p : Place) → rank r < bound → IsWorkWithin (Tries r S p)

-- the new system is the next one, by this rule
abbrev pub IsNextBy : Rule → SpaceSystem → SpaceSystem → Type 0
IsNextBy r old new = (new.space ≡ old.space) × ((next : Next old.system new.system) × (next.rule ≡ r))

-- the new system is the next one, by the rule that is told; or it is the old one, to which no rule applies
abbrev pub IsNextOrStuck : SpaceSystem → SpaceSystem → Option RuleName → Type 0
IsNextOrStuck old new found = MatchOption found ((new ≡ old) × IsStuck old.system) (λ rule. IsNextBy (rule_of rule) old new)

-- the first rule that applies was found
abbrev pub IsFound : Attempt → Rule → SpaceSystem → SpaceSystem → Type 0
IsFound Step r old new = IsNextBy r old new
IsFound Test r old new = (new ≡ old) × ((p : Place) × Applies r old.system p)

-- the first rule that applies was found, or none, and the system is the old one
abbrev pub IsSearched : Attempt → SpaceSystem → SpaceSystem → Option RuleName → Type 0
IsSearched attempt old new found = MatchOption found ((new ≡ old) × IsStuck old.system) (λ rule. IsFound attempt (rule_of rule) old new)

-- the actions of the search, and of the step that it finds
abbrev pub FindMakes : Attempt → LinearSystem → Made → Type 0
FindMakes Step S b = NextMakes S b
FindMakes Test S b = SearchMakes S b

-- the rule was found as the first one; or it applies nowhere, and the system is the old one
abbrev pub IsFoundOrPassed : Attempt → Rule → SpaceSystem → SpaceSystem → Bool → Type 0
IsFoundOrPassed attempt r old new found = MatchBool found
    (IsFound attempt r old new × IsWorkWithin (FindMakes attempt old.system))
    ((new ≡ old) × IsPassed old.system (suc (rank r)))
