-- The line of a check.
use Rattle.std.specs.Prelude.{ℕ, List, ◌++◌, codes, decimal}
use Rattle.lie_math.specs.Polynomial.{WholePolynomial}
use Rattle.lie_geometry.specs.Coordinates.{Space}
use Rattle.lie_print.specs.PrintedTerms.{polynomial_terms}
use Rattle.lie_print.specs.Printing.{sum_text}

-- every condition is met
abbrev pub yes_line : List ℕ
yes_line = codes "yes\n"

-- the condition of this equation is not met, and this polynomial remains of it
abbrev pub no_line : Space → List ℕ → ℕ → WholePolynomial → List ℕ
no_line S names k P = codes "no equation " ++ decimal k ++ codes " remainder " ++ sum_text S names (polynomial_terms P) ++ codes "\n"
