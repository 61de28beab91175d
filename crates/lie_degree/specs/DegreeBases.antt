-- The symmetries up to a degree.
use Rattle.std.specs.Prelude.{ℕ, ◌+◌, List}
use Rattle.lie_math.specs.VectorField.{VectorField}
use Rattle.lie_geometry.specs.Coordinates.{Space}
use Rattle.lie_geometry.specs.Invariance.{IsInvariant}
use Rattle.lie_geometry.specs.SolvedEquations.{SolvedEquation}
use Rattle.lie_spans.specs.Fields.{IsFieldBasis}
use Rattle.lie_spans.specs.Openings.{HasDegreeAtMost}

-- the reduced basis of all fields on the space that meet the condition of invariance of the equations and have no component with a term
-- of degree above d
abbrev pub IsDegreeBasis : Space → List SolvedEquation → ℕ → List VectorField → Type 0
IsDegreeBasis S rs d Vs = IsFieldBasis (S.p + S.q) (λ V. IsInvariant S rs V × HasDegreeAtMost d V) Vs
