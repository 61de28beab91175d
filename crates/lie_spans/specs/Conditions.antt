-- Linear conditions on fields: equations for their components, column by column and monomial by monomial.
use Rattle.std.specs.Prelude.{◌≡◌, ℕ, zero, suc, cond, eqb, List, [], ◌∷◌, ◌++◌, map, pos}
use Rattle.std.specs.List.{AllByRecursion as Every}
use Rattle.lie_math.specs.LinearForm.{LinearForm, apply}
use Rattle.lie_math.specs.Monomial.{Monomial}
use Rattle.lie_math.specs.Polynomial.{WholePolynomial, 0ᴾ, term, coefficient}
use Rattle.lie_math.specs.VectorField.{VectorField, component}
use Rattle.lie_spans.specs.Rows.{Row}
use Rattle.lie_spans.specs.Fields.{Column}

-- the first component is put in for the unknown 1, and so on
abbrev pub unknowns_of : VectorField → ℕ → WholePolynomial
unknowns_of W zero = 0ᴾ
unknowns_of W (suc s) = component W s

-- the monomial of a column is put in for the unknown of its component, and 0 for all others
abbrev pub column_alone : Column → ℕ → WholePolynomial
column_alone k zero = 0ᴾ
column_alone k (suc s) = cond (eqb k.0 s) (term k.1 (pos 1)) 0ᴾ

-- the numbers at the monomial m of what the equation says of each column
abbrev pub condition_row : List Column → LinearForm → Monomial → Row
condition_row ks E m = map (λ k. coefficient (apply (column_alone k) E) m) ks

-- of each equation, its rows at the monomials beside it
abbrev pub condition_rows : List Column → List (LinearForm × List Monomial) → List Row
condition_rows ks [] = []
condition_rows ks (c ∷ cs) = map (condition_row ks c.0) c.1 ++ condition_rows ks cs

-- no other monomial occurs in what the equation says of the columns
abbrev pub HasAllMonomials : List Column → LinearForm × List Monomial → Type 0
HasAllMonomials ks c = (m : Monomial) → Every (λ x. ¬ (x ≡ m)) c.1 → Every (λ k. coefficient (apply (column_alone k) c.0) m ≡ pos 0) ks

-- the components solve each equation
abbrev pub SolvesConditions : List (LinearForm × List Monomial) → VectorField → Type 0
SolvesConditions cs W = Every (λ c. apply (unknowns_of W) c.0 ≡ 0ᴾ) cs
