-- Lists of columns as they are gathered, and terms as they are read off a row.
use Rattle.std.specs.Prelude.{ℕ, suc, ◌<◌, ◌↔◌, not, List, [], ◌∷◌, ◌++◌, filter, map, get_or, length, ℤ}
use Rattle.std.specs.List.{AllByRecursion as Every, Contains}
use Rattle.std.specs.List.Sorted.{IsStrictlySortedBy}
use Rattle.std.specs.Coded.{Coded, coded×, coded_ℕ}
use Rattle.lie_math.specs.FiniteSum as finite
use Rattle.lie_math.specs.Integer.{is_zero_int}
use Rattle.lie_math.specs.Limits.{FitsNumber, HasLowExponents}
use Rattle.lie_math.specs.LinearForm.{LinearForm, forms, no_form}
use Rattle.lie_math.specs.Monomial.{Monomial}
use Rattle.lie_math.specs.MonomialOrder.{monomial_code}
use Rattle.lie_math.specs.Polynomial.{WholePolynomial, coefficient}
use Rattle.lie_ring.specs.declared.failures.PastKind.TheVariants.{Width}
use Rattle.lie_ring.specs.declared.failures.PolyFail.{PolyFail}
use Rattle.lie_ring.specs.declared.failures.PolyFail.TheVariants.{Past, NoMemory}
use Rattle.lie_systems.specs.Triples.{Triple, triples}
use Rattle.lie_systems.specs.Works.{greatest_column_count}
use Rattle.lie_spans.specs.Fields.{Column, column_cmp}
use Rattle.lie_spans.specs.FieldRows.{row_terms}
use Rattle.lie_spans.specs.Rows.{Row}

abbrev pub column_code : Coded Column
column_code = coded× coded_ℕ monomial_code

-- ---- the columns that are listed
-- of terms of the component s
abbrev pub term_columns : ℕ → List (Monomial × ℤ) → List Column
term_columns s es = map (λ e. (s, e.0)) es

-- of one form, for the component s
abbrev pub form_columns : ℕ → LinearForm → List Column
form_columns s E = map (λ (t : Triple). (s, t.1)) (triples E)

-- of forms for the components s and so on
abbrev pub listed_columns : ℕ → List LinearForm → List Column
listed_columns s [] = []
listed_columns s (E ∷ Es) = form_columns s E ++ listed_columns (suc s) Es

-- ks are the columns of a list, in order, each once
pub record AreColumnsOf (list ks : List Column) : Type 0 where
  pub sorted : IsStrictlySortedBy column_cmp ks
  pub elements : (k : Column) → Contains ks k ↔ Contains list k

-- for want of memory, or the list has too many columns
abbrev pub IsColumnsCause : PolyFail → List Column → Type 0
IsColumnsCause (Past Width) list = (ks : List Column) × AreColumnsOf list ks × (greatest_column_count < length ks)
IsColumnsCause (Past kind) list = ⊥
IsColumnsCause NoMemory list = Unit {0}

-- ---- numbers
-- the coefficient of the unknown without a derivative, in the form of a component
abbrev pub unknown_coefficient : List LinearForm → ℕ → ℕ → WholePolynomial
unknown_coefficient Es u s = finite.value forms (get_or Es s no_form) (record { unknown = u; counts = [] })

-- its number in a column
abbrev pub unknown_entry : List LinearForm → ℕ → Column → ℤ
unknown_entry Es u k = coefficient (unknown_coefficient Es u k.0) k.1

-- the terms of a row in a component that are not 0
abbrev pub nonzero_row_terms : ℕ → List Column → Row → List (Monomial × ℤ)
nonzero_row_terms s ks r = filter (λ t. not (is_zero_int t.1)) (row_terms s ks r)

-- the exponents and the numbers of terms are within the limits
abbrev pub AreLowTerms : List (Monomial × ℤ) → Type 0
AreLowTerms es = Every (λ (e : Monomial × ℤ). HasLowExponents e.0 × FitsNumber e.1) es
