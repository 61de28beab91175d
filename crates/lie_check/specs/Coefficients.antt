-- The coefficients of a prolonged field one after the other, and when making them is past a limit.
use Rattle.std.specs.Prelude.{ℕ, ◌≤◌, ◌<◌, Bool, cond, eqb, List, [], ◌∷◌, filter, map}
use Rattle.std.specs.List.{list_any, range_with_len}
use Rattle.lie_math.specs.Polynomial.{WholePolynomial}
use Rattle.lie_geometry.specs.Coordinates.{Space, coordinate, coordinates_up_to}
use Rattle.lie_geometry.specs.Prolongation.{coefficient_at}
use Rattle.lie_ring.specs.Causes.{IsPast}
use Rattle.lie_ring.specs.declared.failures.PolyFail.{PolyFail}
use Rattle.lie_ring.specs.declared.failures.PolyFail.TheVariants.{Past, NoMemory}
use Rattle.lie_prolong.specs.Bulks.{bulk_at}

-- the number is one of these
abbrev pub is_among : List ℕ → ℕ → Bool
is_among numbers w = list_any (λ n. eqb n w) numbers

-- the coefficient of the prolonged field at the coordinate with the number w, with this number
abbrev pub numbered_coefficient : Space → (ℕ → WholePolynomial) → ℕ → ℕ × WholePolynomial
numbered_coefficient S V w = (w, coefficient_at S V (coordinate S w))

-- the coefficients at those of the first coordinates whose numbers are among these
abbrev pub coefficients_among : Space → (ℕ → WholePolynomial) → List ℕ → ℕ → List (ℕ × WholePolynomial)
coefficients_among S V numbers count = map (numbered_coefficient S V) (filter (is_among numbers) (range_with_len 0 count))

-- the coefficient where its number is among these, or nothing
abbrev pub where_among : List ℕ → ℕ × WholePolynomial → List (ℕ × WholePolynomial)
where_among numbers c = cond (is_among numbers c.0) (c ∷ []) []

-- the answer is for want of memory, or tells a limit that the bulk of a prolonged coefficient is past
abbrev pub IsProlongationCause : Space → (ℕ → WholePolynomial) → ℕ → PolyFail → Type 0
IsProlongationCause S V n (Past kind) = (w : ℕ) × (S.p ≤ w) × (w < coordinates_up_to S n) × IsPast kind (bulk_at S V (coordinate S w))
IsProlongationCause S V n NoMemory = Unit {0}
