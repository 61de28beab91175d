-- What the terms of an equation say of a column, and what is said of columns, as it is kept.
use Rattle.std.specs.Prelude.{List, [], ◌∷◌, ◌++◌, map, ℤ}
use Rattle.std.specs.List.{AllByRecursion as Every, Any}
use Rattle.lie_math.specs.Counts.{derived}
use Rattle.lie_math.specs.Limits.{IsWithinLimits, absolute}
use Rattle.lie_math.specs.LinearForm.{LinearForm}
use Rattle.lie_math.specs.Monomial.{Monomial}
use Rattle.lie_math.specs.Polynomial.{WholePolynomial, polynomials, coefficient, polynomial_of, ◌*ᴾ◌}
use Rattle.lie_math.specs.SortedSum.{sum_of_entries}
use Rattle.lie_ring.specs.Causes.{IsPast}
use Rattle.lie_ring.specs.declared.failures.PolyFail.{PolyFail}
use Rattle.lie_ring.specs.declared.failures.PolyFail.TheVariants.{Past, NoMemory}
use Rattle.lie_jet.specs.declared.derivative.Der.{Der}
use Rattle.lie_lin.specs.Forms.{coefficients_of}
use Rattle.lie_spans.specs.Conditions.{column_alone}
use Rattle.lie_spans.specs.Fields.{Column}
use Rattle.lie_spans.specs.Rows.{Row}
use Rattle.lie_degree.specs.Conditions.{said_bulk}
use Rattle.lie_degree.specs.declared.equations.Said.{Said}

-- ---- the terms of one equation
abbrev pub terms_say : List (Der × WholePolynomial) → Column → WholePolynomial
terms_say ts k = sum_of_entries polynomials (λ d a. a *ᴾ derived (column_alone k) d) (coefficients_of ts)

abbrev pub terms_bulk : List (Der × WholePolynomial) → Column → WholePolynomial
terms_bulk ts k = sum_of_entries polynomials (λ d a. absolute a *ᴾ derived (column_alone k) d) (coefficients_of ts)

-- the answer is for want of memory, or what an equation says of a column is past the limit
abbrev pub IsSaidCause : PolyFail → LinearForm → List Column → Type 0
IsSaidCause (Past kind) E ks = Any (λ k. IsPast kind (said_bulk E k)) ks
IsSaidCause NoMemory E ks = Unit {0}

-- the same of several equations
abbrev pub IsRowsCause : PolyFail → List Column → List LinearForm → Type 0
IsRowsCause (Past kind) ks Es = Any (λ E. IsSaidCause (Past kind) E ks) Es
IsRowsCause NoMemory ks Es = Unit {0}

-- what each equation says of each column is within the limits
abbrev pub AreRowsWithin : List Column → List LinearForm → Type 0
AreRowsWithin ks Es = Every (λ E. Every (λ k. IsWithinLimits (said_bulk E k)) ks) Es

-- ---- what is said of columns
abbrev pub said_lists : List Said → List (List (Monomial × ℤ))
said_lists ss = map (λ (s : Said). s.terms.items) ss

abbrev pub monomials_of : List (Monomial × ℤ) → List Monomial
monomials_of es = map (λ e. e.0) es

abbrev pub lists_monomials : List (List (Monomial × ℤ)) → List Monomial
lists_monomials [] = []
lists_monomials (es ∷ ess) = monomials_of es ++ lists_monomials ess

abbrev pub said_monomials : List Said → List Monomial
said_monomials ss = lists_monomials (said_lists ss)

-- the numbers at a monomial
abbrev pub row_said : List Said → Monomial → Row
row_said ss m = map (λ (es : List (Monomial × ℤ)). coefficient (polynomial_of es) m) (said_lists ss)
