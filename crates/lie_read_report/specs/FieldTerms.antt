-- The parts of a field, by its terms.
use Rattle.std.specs.Prelude.{ℕ, zero, suc, ◌+◌, ◌==◌, Bool, true, false, ℤ, List, [], ◌∷◌, ◌++◌, Some, None, if◌then◌else◌}
use Rattle.std.specs.declared.option.Option.{Option}
use Rattle.lie_math.specs.Monomial.{Monomial}
use Rattle.lie_math.specs.VectorField.{VectorField}
use Rattle.lie_print.specs.Printing.{PrintedTerm, LastFactor, of_unknown, base_vector}
use Rattle.lie_report.specs.Terms.{field_terms}

-- whether this is the base vector at the i-th variable
abbrev pub is_at : ℕ → Option LastFactor → Bool
is_at i None = false
is_at i (Some (of_unknown d)) = false
is_at i (Some (base_vector j)) = j == i

abbrev pub term_at : ℕ → PrintedTerm → List (Monomial × ℤ)
term_at i t = if is_at i t.2 then (t.1, t.0) ∷ [] else []

-- the terms with the base vector at the i-th variable
abbrev pub terms_at : ℕ → List PrintedTerm → List (Monomial × ℤ)
terms_at i [] = []
terms_at i (t ∷ ts) = term_at i t ++ terms_at i ts

-- those of each of n variables from the i-th on
abbrev pub parts_from : ℕ → ℕ → List PrintedTerm → List (List (Monomial × ℤ))
parts_from zero i ts = []
parts_from (suc n) i ts = terms_at i ts ∷ parts_from n (i + 1) ts

-- what is written of a field
abbrev pub written_field : VectorField → List PrintedTerm
written_field V = field_terms 0 V.parts
