-- The bulk of a sum of triples, and which forms are past the limits of the work.
use Rattle.std.specs.Prelude.{ℕ, ◌+◌, ◌<◌, ◌≤◌, List, [], ◌∷◌, map, length, pos, unsigned_abs}
use Rattle.std.specs.List.{All, Any}
use Rattle.lie_math.specs.Monomial.{exponent}
use Rattle.lie_math.specs.Counts.{order}
use Rattle.lie_math.specs.LinearForm.{LinearForm}
use Rattle.lie_math.specs.LinearSystem.{LinearSystem}
use Rattle.lie_math.specs.Limits.{number_limit, greatest_exponent, greatest_term_count, FitsNumber, HasLowExponents}
use Rattle.lie_systems.specs.Triples.{Triple, triples, sum_of_triples}

-- the greatest order of a derivative of an unknown
abbrev pub greatest_form_order : ℕ
greatest_form_order = 64

-- the triples with the absolute values of their numbers
abbrev pub absolute_triples : List Triple → List Triple
absolute_triples ts = map (λ (t : Triple). (t.0, t.1, pos (unsigned_abs t.2))) ts

-- their sum, in which nothing cancels
abbrev pub bulk : List Triple → LinearForm
bulk ts = sum_of_triples (absolute_triples ts)

-- ---- past a limit
-- a number is past 2^127 - 1 in absolute value
abbrev pub HasWideNumber : LinearForm → Type 0
HasWideNumber E = Any (λ (t : Triple). number_limit ≤ unsigned_abs t.2) (triples E)

-- an exponent is past the greatest
abbrev pub HasHighExponent : LinearForm → Type 0
HasHighExponent E = Any (λ (t : Triple). (v : ℕ) × (greatest_exponent < exponent t.1 v)) (triples E)

-- there are too many triples
abbrev pub HasManyTriples : LinearForm → Type 0
HasManyTriples E = greatest_term_count < length (triples E)

-- an order is past the greatest
abbrev pub HasHighOrder : LinearForm → Type 0
HasHighOrder E = Any (λ (t : Triple). greatest_form_order < order t.0.counts) (triples E)

-- ---- within the limits on numbers, exponents, orders and triples
pub record IsFormWithinLimits (E : LinearForm) : Type 0 where
  pub numbers : All (λ (t : Triple). FitsNumber t.2) (triples E)
  pub exponents : All (λ (t : Triple). HasLowExponents t.1) (triples E)
  pub orders : All (λ (t : Triple). order t.0.counts ≤ greatest_form_order) (triples E)
  pub few : length (triples E) ≤ greatest_term_count

-- ---- the triples of a system
abbrev pub triple_count_of_all : List LinearForm → ℕ
triple_count_of_all [] = 0
triple_count_of_all (E ∷ Es) = length (triples E) + triple_count_of_all Es

-- those of the equations and of the general forms
abbrev pub system_triple_count : LinearSystem → ℕ
system_triple_count S = triple_count_of_all S.equations + triple_count_of_all S.general
