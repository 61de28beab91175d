-- The bulk of a reduction: its defining formula with absolute values and plus signs.
use Rattle.std.specs.Prelude.{ℕ, List, map, pos, unsigned_abs}
use Rattle.lie_math.specs.Limits.{absolute}
use Rattle.lie_math.specs.Polynomial.{WholePolynomial}
use Rattle.lie_math.specs.Powers.{degree_in}
use Rattle.lie_geometry.specs.SolvedEquations.{SolvedEquation, reduced_by}

-- the equation with the absolute values of all coefficients
abbrev pub absolute_equation : SolvedEquation → SolvedEquation
absolute_equation r = record { lead = r.lead; factor = pos (unsigned_abs r.factor); right = absolute r.right }

abbrev pub absolute_equations : List SolvedEquation → List SolvedEquation
absolute_equations rs = map absolute_equation rs

-- of the reduction of P, by the exponents e
abbrev pub reduction_bulk_by : List SolvedEquation → (ℕ → ℕ) → WholePolynomial → WholePolynomial
reduction_bulk_by rs e P = reduced_by (absolute_equations rs) e (absolute P)

abbrev pub reduction_bulk : List SolvedEquation → WholePolynomial → WholePolynomial
reduction_bulk rs P = reduction_bulk_by rs (λ w. degree_in w P) P
