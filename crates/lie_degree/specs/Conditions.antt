-- The conditions of equations on the fields of some columns: for each equation the monomials at which it says something of a column, and
-- the numbers that are added in them.
use Rattle.std.specs.Prelude.{◌≡◌, ◌↔◌, List, map, pos}
use Rattle.std.specs.List.{AllByRecursion as Every, Any, Contains}
use Rattle.std.specs.List.Sorted.{IsStrictlySortedBy}
use Rattle.lie_math.specs.Counts.{derived}
use Rattle.lie_math.specs.FiniteSum as finite
use Rattle.lie_math.specs.Limits.{absolute}
use Rattle.lie_math.specs.LinearForm.{LinearForm, forms, apply}
use Rattle.lie_math.specs.Monomial.{Monomial, monomial_cmp}
use Rattle.lie_math.specs.Polynomial.{WholePolynomial, polynomials, coefficient, ◌*ᴾ◌}
use Rattle.lie_spans.specs.Conditions.{column_alone}
use Rattle.lie_spans.specs.Fields.{Column}

-- what an equation says of the field that has one monomial in one component
abbrev pub said_of : LinearForm → Column → WholePolynomial
said_of E k = apply (column_alone k) E

-- the same with the absolute values of the numbers of the equation
abbrev pub said_bulk : LinearForm → Column → WholePolynomial
said_bulk E k = finite.sum_over forms polynomials (λ d a. absolute a *ᴾ derived (column_alone k) d) E

-- the monomials that occur in what an equation says of the columns, in print order
pub record AreConditionMonomials (ks : List Column) (E : LinearForm) (ms : List Monomial) : Type 0 where
  pub sorted : IsStrictlySortedBy monomial_cmp ms
  pub elements : (m : Monomial) → Contains ms m ↔ Any (λ k. ¬ (coefficient (said_of E k) m ≡ pos 0)) ks

-- the equations in order, each with these monomials
pub record AreConditions (ks : List Column) (Es : List LinearForm) (cs : List (LinearForm × List Monomial)) : Type 0 where
  pub equations : map (λ c. c.0) cs ≡ Es
  pub monomials : Every (λ (c : LinearForm × List Monomial). AreConditionMonomials ks c.0 c.1) cs
