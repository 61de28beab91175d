-- The parts of a derivation applied to an equation: coefficients times the derivatives by their coordinates.
use Rattle.std.specs.Prelude.{ℕ, List, [], ◌∷◌, map, ℤ, pos, unsigned_abs}
use Rattle.lie_math.specs.Limits.{absolute}
use Rattle.lie_math.specs.PartialDerivative.{partial}
use Rattle.lie_math.specs.Polynomial.{WholePolynomial, 0ᴾ, ◌+ᴾ◌, ◌*ᴾ◌, constant, variable}
use Rattle.lie_geometry.specs.Coordinates.{Space, number}
use Rattle.lie_jet.specs.Jets.{coordinate_of}
use Rattle.lie_solved.specs.declared.solved.LeadRule.{LeadRule}

-- a number times the variable w, and a sign times a polynomial
abbrev pub sides : ℕ → ℤ → ℤ → WholePolynomial → WholePolynomial
sides w c sign right = constant c *ᴾ variable w +ᴾ constant sign *ᴾ right

-- the sum of the coefficients times the derivatives by their coordinates
abbrev pub applied_to : List (ℕ × WholePolynomial) → WholePolynomial → WholePolynomial
applied_to [] P = 0ᴾ
applied_to (c ∷ cs) P = c.1 *ᴾ partial c.0 P +ᴾ applied_to cs P

-- the coefficients with absolute values
abbrev pub absolute_coefficients : List (ℕ × WholePolynomial) → List (ℕ × WholePolynomial)
absolute_coefficients cs = map (λ c. (c.0, absolute c.1)) cs

-- ---- the equation of a rule
-- the number of its lead
abbrev pub lead_number : Space → LeadRule → ℕ
lead_number S r = number S (coordinate_of S r.lead)

-- c times the lead w and a sign times the right side
abbrev pub rule_sides : ℕ → ℤ → LeadRule → WholePolynomial
rule_sides w sign r = sides w r.c sign r.right

-- both with absolute values and a plus sign
abbrev pub sides_bulk : ℕ → LeadRule → WholePolynomial
sides_bulk w r = sides w (pos (unsigned_abs r.c)) (pos 1) (absolute r.right)
