-- The reduced conditions of the field whose components are unknown functions, and their actions.
use Rattle.std.specs.Prelude.{◌⊎◌, List, map}
use Rattle.lie_math.specs.LinearForm.{LinearForm}
use Rattle.lie_geometry.specs.Coordinates.{Space}
use Rattle.lie_geometry.specs.DeterminingEquations.{symbolic_reduced}
use Rattle.lie_geometry.specs.SolvedEquations.{SolvedEquation}
use Rattle.lie_geometry.specs.SymbolicProlongation.{symbolic_application}
use Rattle.lie_systems.specs.Bulk.{IsFormWithinLimits}
use Rattle.lie_systems.specs.Works.{IsWorkWithin, IsWorkPast}
use Rattle.lie_form.specs.FormLimits.{IsFormPast}
use Rattle.lie_ring.specs.declared.failures.PolyFail.{PolyFail}
use Rattle.lie_ring.specs.declared.failures.PolyFail.TheVariants.{Past, NoMemory}
use Rattle.lie_reduce.specs.Kinds.{limit_of}
use Rattle.lie_determining.specs.Openings.{ConditionsMake}
use Rattle.lie_determining.specs.SymbolicBulks.{symbolic_application_bulk, symbolic_reduction_bulk}

-- the prolonged field applied to an equation, and reduced
abbrev pub condition_of : Space → List SolvedEquation → SolvedEquation → LinearForm
condition_of S rs r = symbolic_reduced rs (symbolic_application S rs r)

abbrev pub conditions_of : Space → List SolvedEquation → List LinearForm
conditions_of S rs = map (condition_of S rs) rs

-- neither action of an equation is past a limit
pub record IsConditionWithin (S : Space) (rs : List SolvedEquation) (r : SolvedEquation) : Type 0 where
  pub application : IsFormWithinLimits (symbolic_application_bulk S rs r)
  pub reduction : IsFormWithinLimits (symbolic_reduction_bulk rs (symbolic_application S rs r))

-- the answer is for want of memory, or tells a limit that an action of the equation is past
abbrev pub IsConditionCause : Space → List SolvedEquation → SolvedEquation → PolyFail → Type 0
IsConditionCause S rs r (Past kind) = IsFormPast kind (symbolic_application_bulk S rs r)
    ⊎ IsFormPast kind (symbolic_reduction_bulk rs (symbolic_application S rs r))
IsConditionCause S rs r NoMemory = Unit {0}

-- no action is past a limit
abbrev pub AreFormActionsWithin : Space → List SolvedEquation → Type 0
AreFormActionsWithin S rs = IsWorkWithin (ConditionsMake S rs)

-- the answer is for want of memory, or tells a limit that an action is past
abbrev pub IsFormActionCause : Space → List SolvedEquation → PolyFail → Type 0
IsFormActionCause S rs (Past kind) = IsWorkPast (ConditionsMake S rs) (limit_of kind)
IsFormActionCause S rs NoMemory = Unit {0}
