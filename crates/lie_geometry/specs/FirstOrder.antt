-- The equation u_x = h of order 1, for one independent and one dependent variable. The numbers of x, u and u_x are 0, 1 and 2.
use Rattle.std.specs.Prelude.{pos}
use Rattle.lie_math.specs.PartialDerivative.{partial}
use Rattle.lie_math.specs.Polynomial.{WholePolynomial, ◌+ᴾ◌, ◌*ᴾ◌, negᴾ}
use Rattle.lie_geometry.specs.Coordinates.{Space}
use Rattle.lie_geometry.specs.SolvedEquations.{SolvedEquation}

abbrev pub one_of_each : Space
one_of_each = record { p = 1; q = 1 }

abbrev pub first_order_equation : WholePolynomial → SolvedEquation
first_order_equation h = record { lead = 2; factor = pos 1; right = h }

-- f2_x + h*f2_u - h*f1_x - h^2*f1_u - h_u*f2 - h_x*f1
abbrev pub first_order_condition : WholePolynomial → WholePolynomial → WholePolynomial → WholePolynomial
first_order_condition h f1 f2 =
    partial 0 f2 +ᴾ h *ᴾ partial 1 f2 +ᴾ negᴾ (h *ᴾ partial 0 f1) +ᴾ negᴾ (h *ᴾ h *ᴾ partial 1 f1)
    +ᴾ negᴾ (partial 1 h *ᴾ f2) +ᴾ negᴾ (partial 0 h *ᴾ f1)
