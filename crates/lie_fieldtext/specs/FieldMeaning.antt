-- What a field text says: terms, their least common denominator, and the field that is their sum.
use Rattle.std.specs.Prelude.{ℕ, ◌+◌, ◌*◌, ◌/◌, ◌^◌, ◌<◌, Bool, ◌==◌, ◌&&◌, List, [], ◌∷◌, ℤ, pos, ◌*ℤ◌, unsigned_abs, cond, if◌then◌else◌}
use Rattle.std.specs.Ordering.{eq_by_cmp}
use Rattle.lie_math.specs.Monomial.{Monomial, monomial_cmp}
use Rattle.lie_math.specs.Polynomial.{polynomial_of}
use Rattle.lie_math.specs.RationalPolynomial.{RationalPolynomial, IsSameRational}
use Rattle.lie_math.specs.VectorField.{VectorField, component}
use Rattle.lie_math.specs.CommonDivisors.{common_divisor}
use Rattle.lie_geometry.specs.Coordinates.{Space}
use Rattle.lie_jet.specs.ValidFields.{IsValidField}
use Rattle.lie_fieldtext.specs.declared.field_term.FieldTerm.{FieldTerm}

-- ---- the least common denominator
abbrev pub common_multiple : ℕ → ℕ → ℕ
common_multiple a b = a * (b / common_divisor a b)

-- of n and the denominators of terms
abbrev pub denominator_from : ℕ → List FieldTerm → ℕ
denominator_from n [] = n
denominator_from n (t ∷ ts) = denominator_from (common_multiple n t.over) ts

abbrev pub common_denominator : List FieldTerm → ℕ
common_denominator ts = denominator_from 1 ts

-- ---- over a denominator n
-- the absolute value of a term
abbrev pub amount_over : ℕ → FieldTerm → ℕ
amount_over n t = unsigned_abs t.number * (n / t.over)

-- the term has a place and a monomial
abbrev pub is_at : ℕ → Monomial → FieldTerm → Bool
is_at s m t = t.place == s && eq_by_cmp monomial_cmp m t.monomial

-- the sum of the absolute values of the terms like those at a place with a monomial
abbrev pub size_over : ℕ → ℕ → Monomial → List FieldTerm → ℕ
size_over n s m [] = 0
size_over n s m (t ∷ ts) = cond (is_at s m t) (amount_over n t) 0 + size_over n s m ts

-- the terms at a place
abbrev pub terms_over : ℕ → ℕ → List FieldTerm → List (Monomial × ℤ)
terms_over n s [] = []
terms_over n s (t ∷ ts) = if t.place == s then (t.monomial, t.number *ℤ pos (n / t.over)) ∷ terms_over n s ts else terms_over n s ts

-- ---- the sum of terms
-- the least common denominator, and over it the sums of the absolute values of like terms, are at most 2^127 - 1
pub record HaveSmallSums (ts : List FieldTerm) : Type 0 where
  pub denominator : common_denominator ts < 2 ^ 127
  pub sizes : (s : ℕ) (m : Monomial) → size_over (common_denominator ts) s m ts < 2 ^ 127

-- the component of the sum at the s-th variable
abbrev pub sum_at : ℕ → List FieldTerm → RationalPolynomial
sum_at s ts = record { over = common_denominator ts; whole = polynomial_of (terms_over (common_denominator ts) s ts) }

-- the field in lowest terms whose components are those of the sum
pub record IsSumOfTerms (S : Space) (ts : List FieldTerm) (V : VectorField) : Type 0 where
  pub valid : IsValidField S V
  pub same : (s : ℕ) → IsSameRational (record { over = V.denominator; whole = component V s }) (sum_at s ts)
