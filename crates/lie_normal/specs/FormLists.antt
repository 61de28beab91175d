-- Forms in derivatives of given unknowns.
use Rattle.std.specs.Prelude.{ℕ, ◌≤◌, List}
use Rattle.std.specs.List.{AllByRecursion as Every}
use Rattle.std.specs.List.Sorted.{IsStrictlySortedBy}
use Rattle.std.specs.Ordering.{nat_cmp, on}
use Rattle.lie_math.specs.LinearForm.{LinearForm}
use Rattle.lie_math.specs.LinearSystem.{Unknown}
use Rattle.lie_systems.specs.ValidSystems.{IsFormOf, HasVariablesBelow}

-- the unknowns rise, and each form is one in them and in at most 8 variables
pub record AreFormsOf (unknowns : List Unknown) (Es : List LinearForm) : Type 0 where
  pub variable_count : ℕ
  pub few : variable_count ≤ 8
  pub rising : IsStrictlySortedBy (on (λ (f : Unknown). f.number) nat_cmp) unknowns
  pub variables : Every (HasVariablesBelow variable_count) unknowns
  pub forms : Every (IsFormOf variable_count unknowns) Es
