-- The coordinates that occur in the equations of rules.
use Rattle.std.specs.Prelude.{ℕ, eqb, List, [], ◌∷◌, ◌++◌}
use Rattle.std.specs.List.{AllByRecursion as Every, list_any}
use Rattle.lie_math.specs.Variables.{IsIn}
use Rattle.lie_geometry.specs.Coordinates.{Space}
use Rattle.lie_geometry.specs.SolvedEquations.{difference}
use Rattle.lie_solved.specs.declared.solved.LeadRule.{LeadRule}
use Rattle.lie_solved.specs.Equations.{variables_of}
use Rattle.lie_solved.specs.SolvedForms.{solved_equations}
use Rattle.lie_reduce.specs.Applications.{lead_number}

-- the number of the lead, and those of the variables of the right side, one for each factor
abbrev pub numbers_of_rule : Space → LeadRule → List ℕ
numbers_of_rule S r = lead_number S r ∷ variables_of (r.right).list

-- each equation is one in coordinates that are among these numbers
abbrev pub AreAmong : Space → List LeadRule → List ℕ → Type 0
AreAmong S rules numbers = Every (λ r. IsIn (λ w. list_any (λ n. eqb n w) numbers) (difference r)) (solved_equations S rules)
