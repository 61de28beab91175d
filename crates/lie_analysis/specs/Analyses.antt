-- The analysis of a solved system: the run from its opening system, and what is told of its end.
use Rattle.std.specs.Prelude.{◌≡◌, ℕ, ◌+◌, List, Option, MatchOption}
use Rattle.lie_math.specs.LinearSystem.{LinearSystem, Gives}
use Rattle.lie_geometry.specs.Coordinates.{Space}
use Rattle.lie_geometry.specs.SolvedEquations.{SolvedEquation}
use Rattle.lie_spans.specs.ClosedSystems.{closed_system}
use Rattle.lie_steps.specs.Runs.{Ends, IsFinite}
use Rattle.lie_determining.specs.Openings.{IsOpeningSystem}
use Rattle.lie_report.specs.Reports.{Found}
use Rattle.lie_analysis.specs.Symmetries.{IsAlgebra}

-- the run from an opening system of the equations ends after n steps at U
pub record OpeningEnds (S : Space) (rs : List SolvedEquation) (n : ℕ) (U : LinearSystem) : Type 0 where
  pub opening : LinearSystem
  pub opened : IsOpeningSystem S rs opening
  pub ends : Ends opening n U

-- of the end U of a run, U itself is told where it is not finite, and else the algebra of its fields, with the closed system of the basis
abbrev pub IsToldOf : Space → LinearSystem → LinearSystem → Option Found → Type 0
IsToldOf S U T found = MatchOption found ((¬ (IsFinite U)) × (T ≡ U))
    (λ B. IsFinite U × (T ≡ closed_system (S.p + S.q) B.fields) × IsAlgebra S (Gives U) B)

-- the analysis of the equations, by a run of n steps
pub record IsAnalysis (S : Space) (rs : List SolvedEquation) (n : ℕ) (T : LinearSystem) (found : Option Found) : Type 0 where
  pub last : LinearSystem
  pub ends : OpeningEnds S rs n last
  pub told : IsToldOf S last T found
