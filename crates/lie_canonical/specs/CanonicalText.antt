-- The canonical text of a system: five kinds of line, single blanks, and no comment.
use Rattle.std.specs.Prelude.{ℕ, List, ◌++◌, take, drop, codes, Some, None}
use Rattle.std.specs.declared.option.Option.{Option}
use Rattle.std.specs.List.{flat_map}
use Rattle.lie_math.specs.Polynomial.{WholePolynomial, variable, negᴾ, ◌+ᴾ◌}
use Rattle.lie_geometry.specs.Coordinates.{Space, Coordinate, number}
use Rattle.lie_system.specs.Systems.{EquationRead, SystemRead}
use Rattle.lie_print.specs.Printing.{names_line, coordinate_text, sum_text}
use Rattle.lie_print.specs.PrintedTerms.{polynomial_terms}

abbrev pub polynomial_text : Space → List ℕ → WholePolynomial → List ℕ
polynomial_text S names P = sum_text S names (polynomial_terms P)

-- the polynomial lead minus diff
abbrev pub right_side : Space → Coordinate → WholePolynomial → WholePolynomial
right_side S c diff = variable (number S c) +ᴾ negᴾ diff

-- a lead and what it equals; without a lead, a polynomial that is 0
abbrev pub sides_text : Space → List ℕ → Option Coordinate → WholePolynomial → List ℕ
sides_text S names (Some c) diff = coordinate_text S names c ++ codes " = " ++ polynomial_text S names (right_side S c diff)
sides_text S names None diff = polynomial_text S names diff ++ codes " = 0"

abbrev pub equation_text : Space → List ℕ → EquationRead → List ℕ
equation_text S names e = codes "eq " ++ sides_text S names e.lead e.diff ++ codes "\n"

unfoldable pub canonical_text : SystemRead → List ℕ
canonical_text s =
    codes "lie 1\n" ++ names_line (codes "vars") (take (s.space).p s.names) ++ names_line (codes "deps") (drop (s.space).p s.names)
    ++ flat_map (equation_text s.space s.names) s.equations ++ codes "end\n"
