-- The prolonged coefficients of the field whose components are the unknowns, at some coordinates.
use Rattle.std.specs.Prelude.{ℕ, cond, eqb, List, map}
use Rattle.std.specs.List.{list_any, range_with_len}
use Rattle.lie_math.specs.LinearForm.{LinearForm, no_form}
use Rattle.lie_geometry.specs.Coordinates.{Space, coordinate}
use Rattle.lie_geometry.specs.SymbolicProlongation.{symbolic_coefficient_at}

-- the coefficient at the coordinate with the number w, where that is one of the numbers; no form elsewhere
abbrev pub coefficient_among : Space → List ℕ → ℕ → LinearForm
coefficient_among S numbers w = cond (list_any (λ n. eqb n w) numbers) (symbolic_coefficient_at S (coordinate S w)) no_form

-- at the first coordinates, by their numbers
abbrev pub coefficients_among : Space → List ℕ → ℕ → List LinearForm
coefficients_among S numbers count = map (coefficient_among S numbers) (range_with_len 0 count)
