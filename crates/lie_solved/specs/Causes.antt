-- Why an equation cannot be solved by itself.
use Rattle.std.specs.Prelude.{ℕ}
use Rattle.lie_geometry.specs.Coordinates.{Space}
use Rattle.lie_system.specs.Systems.{EquationRead}
use Rattle.lie_solved.specs.declared.solved.NotKind.TheVariants.{NoDerivative, LeadNotLinear, LeadRepeated, LeadInside}
use Rattle.lie_solved.specs.declared.rule.RuleFail.{RuleFail}
use Rattle.lie_solved.specs.declared.rule.RuleFail.TheVariants.{Not, NoMemory}
use Rattle.lie_solved.specs.declared.solved.SolveFormFail.{SolveFormFail}
use Rattle.lie_solved.specs.declared.solved.SolveFormFail.TheVariants as fails
use Rattle.lie_solved.specs.Leads.{HasNoDerivative}
use Rattle.lie_solved.specs.Refusals.{HasLeadNotLinear}

abbrev pub IsRuleCause : Space → EquationRead → RuleFail → Type 0
IsRuleCause S e (Not NoDerivative) = HasNoDerivative S e.diff
IsRuleCause S e (Not LeadNotLinear) = HasLeadNotLinear S e
IsRuleCause S e (Not LeadRepeated) = ⊥
IsRuleCause S e (Not LeadInside) = ⊥
IsRuleCause S e NoMemory = Unit {0}

-- the same of the k-th equation
abbrev pub failed_at : ℕ → RuleFail → SolveFormFail
failed_at k (Not kind) = fails.Not kind k
failed_at k NoMemory = fails.NoMemory
