-- The symmetries of a solved system, as they are told.
use Rattle.std.specs.Prelude.{◌+◌, ◌↔◌, List, Option, MatchOption}
use Rattle.lie_math.specs.LinearSystem.{LinearSystem, Gives}
use Rattle.lie_math.specs.VectorField.{VectorField}
use Rattle.lie_geometry.specs.Coordinates.{Space}
use Rattle.lie_geometry.specs.Invariance.{IsFieldOn, IsInvariant}
use Rattle.lie_geometry.specs.SolvedEquations.{SolvedEquation}
use Rattle.lie_spans.specs.Fields.{IsFieldBasis}
use Rattle.lie_steps.specs.Rules.{IsStuck}
use Rattle.lie_steps.specs.Runs.{IsFinite}
use Rattle.lie_brackets.specs.Tables.{IsTable}
use Rattle.lie_report.specs.Reports.{Found}

-- the reduced basis of the fields on the space that are in X, and the one combination of it that each commutator is
pub record IsAlgebra (S : Space) (X : VectorField → Type 0) (B : Found) : Type 0 where
  pub basis : IsFieldBasis (S.p + S.q) X B.fields
  pub table : IsTable S B.fields B.table

-- T tells the symmetries of the equations: a field on the space meets their condition of invariance exactly if T gives it, and no rule
-- applies to T; their reduced basis and its commutators are found exactly where T is finite
pub record IsSymmetries (S : Space) (rs : List SolvedEquation) (T : LinearSystem) (found : Option Found) : Type 0 where
  pub fields : (V : VectorField) → IsFieldOn S V → IsInvariant S rs V ↔ Gives T V
  pub stuck : IsStuck T
  pub algebra : MatchOption found (¬ (IsFinite T)) (λ B. IsFinite T × IsAlgebra S (IsInvariant S rs) B)
