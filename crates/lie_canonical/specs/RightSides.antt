-- The right side of an equation with a lead: lead minus diff, by its terms.
use Rattle.std.specs.Prelude.{◌≡◌, ◌≤◌, List, map, ℤ, pos, ◌+ℤ◌, neg_ℤ, Some, None, IfSome}
use Rattle.std.specs.declared.option.Option.{Option}
use Rattle.lie_math.specs.SortedSum.{add_at}
use Rattle.lie_math.specs.Integer.{coefficients}
use Rattle.lie_math.specs.Limits.{FitsNumber}
use Rattle.lie_math.specs.Monomial.{Monomial, monomial_cmp, single}
use Rattle.lie_math.specs.Polynomial.{WholePolynomial, coefficient}
use Rattle.lie_geometry.specs.Coordinates.{Space, Coordinate, IsCoordinate, order_of, number}
use Rattle.lie_system.specs.Systems.{EquationRead}
use Rattle.lie_print.specs.Printing.{PrintedTerm}
use Rattle.lie_jet.specs.Limits.{greatest_written_order}

-- a coordinate of a written order, which minus diff is within the limit of numbers
pub record HasRightSide (S : Space) (c : Coordinate) (diff : WholePolynomial) : Type 0 where
  pub coordinate : IsCoordinate S c
  pub low : order_of c ≤ greatest_written_order
  pub fits : FitsNumber (pos 1 +ℤ neg_ℤ (coefficient diff (single (number S c))))

-- an equation that has its text
abbrev pub IsPrintable : Space → EquationRead → Type 0
IsPrintable S e = IfSome e.lead (λ c. HasRightSide S c e.diff)

-- ---- terms
abbrev pub negated : List (Monomial × ℤ) → List (Monomial × ℤ)
negated es = map (λ e. (e.0, neg_ℤ e.1)) es

-- the terms with the other sign, and among them the lead where it is still to come
abbrev pub turned_terms : Option Monomial → List (Monomial × ℤ) → List (Monomial × ℤ)
turned_terms (Some lead) es = add_at monomial_cmp coefficients lead (pos 1) (negated es)
turned_terms None es = negated es

abbrev pub plain_terms : List (Monomial × ℤ) → List PrintedTerm
plain_terms es = map (λ t. (t.1, t.0, None)) es

-- 1 minus the number of a term with the lead is within the limit
abbrev pub Leaves : Monomial → Monomial × ℤ → Type 0
Leaves lead t = t.0 ≡ lead → FitsNumber (pos 1 +ℤ neg_ℤ t.1)
