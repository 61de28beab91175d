-- The terms of polynomials, as they are printed.
use Rattle.std.specs.Prelude.{List, map, option_map, None}
use Rattle.lie_math.specs.Counts.{trimmed}
use Rattle.lie_math.specs.Polynomial.{WholePolynomial}
use Rattle.lie_print.specs.declared.printed_term.Term.{Term}
use Rattle.lie_print.specs.declared.printed_term.LastFactor as kept
use Rattle.lie_print.specs.declared.printed_term.LastFactor.TheVariants.{Derivative, BaseVector}
use Rattle.lie_print.specs.Printing.{PrintedTerm, LastFactor, of_unknown, base_vector}

-- the last factor that a value of the program is; counts past the end of a list are 0
abbrev pub last_of : kept.LastFactor → LastFactor
last_of (Derivative n counts) = of_unknown (record { unknown = n; counts = trimmed counts })
last_of (BaseVector i) = base_vector i

-- the term that a value of the program is
abbrev pub printed : Term → PrintedTerm
printed t = (t.number, t.monomial, option_map last_of t.last)

-- of a polynomial, in print order
abbrev pub polynomial_terms : WholePolynomial → List PrintedTerm
polynomial_terms P = map (λ t. (t.1, t.0, None)) P.list
