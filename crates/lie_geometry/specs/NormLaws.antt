-- What the functions of `norms` promise: norms, and that no symbolic prolonged coefficient is past the limits of the work.
use Rattle.std.specs.Prelude.{◌≡◌, ℕ, suc, ◌≤◌, List, ◌∷◌, length, unsigned_abs}
use Rattle.lie_math.specs.Counts.{Derivative, order}
use Rattle.lie_math.specs.FiniteSum as finite
use Rattle.lie_math.specs.Limits.{greatest_exponent, greatest_term_count, absolute, IsWithinLimits}
use Rattle.lie_math.specs.LinearForm.{forms, LinearForm, each_coefficient}
use Rattle.lie_math.specs.Monomial.{Monomial}
use Rattle.lie_math.specs.Polynomial.{WholePolynomial, coefficient}
use Rattle.lie_geometry.specs.CoordinateLaws.{IsSpace}
use Rattle.lie_geometry.specs.Coordinates.{Space}
use Rattle.lie_geometry.specs.FieldNorms.{IsBoundedBy, field_norm_bound, field_bulk_of_step}
use Rattle.lie_geometry.specs.Norms.{norm, form_norm, count_of_numbers}
use Rattle.lie_geometry.specs.Prolongation.{indices, prolonged_coefficient}
use Rattle.lie_geometry.specs.SymbolicNorms.{norm_bound, bulk_of_step, IsBoundedAt}
use Rattle.lie_geometry.specs.SymbolicProlongation.{symbolic_coefficient}

-- no number and no coefficient is greater than the norm, and there are no more numbers than it says
pub record NormIsBound : Type 0 where
  pub numbers : (p : WholePolynomial) (m : Monomial) → unsigned_abs (coefficient p m) ≤ norm p
  pub terms : (p : WholePolynomial) → length p.list ≤ norm p
  pub coefficients : (E : LinearForm) (d : Derivative) → norm (finite.value forms E d) ≤ form_norm E
  pub triples : (E : LinearForm) → count_of_numbers E ≤ form_norm E

-- the form with the absolute values has the same norm
abbrev pub AbsolutesHaveNorm : Type 0
AbsolutesHaveNorm = (E : LinearForm) → form_norm (each_coefficient absolute E) ≡ form_norm E

-- the symbolic coefficient at a jet of order k, and its bulk, are bounded as the order says
abbrev pub CoefficientsAreBounded : Type 0
CoefficientsAreBounded = (S : Space) → IsSpace S → (a : ℕ) (J : List ℕ) → length J ≡ S.p →
    IsBoundedAt S (order J) (symbolic_coefficient S a (indices J))
    × ((k : ℕ) (W : List ℕ) → indices J ≡ k ∷ W → IsBoundedAt S (order J) (bulk_of_step S a k W))

-- the prolonged coefficient of a field at a jet of order k, and its bulk, are bounded by the field's own numbers
abbrev pub FieldCoefficientsAreBounded : Type 0
FieldCoefficientsAreBounded = (S : Space) → IsSpace S → (M D : ℕ) (V : ℕ → WholePolynomial) → ((s : ℕ) → IsBoundedBy M D (V s)) →
    (a : ℕ) (J : List ℕ) → length J ≡ S.p →
    IsBoundedBy (field_norm_bound S M D (order J)) (suc D) (prolonged_coefficient S V a (indices J))
    × ((k : ℕ) (W : List ℕ) → indices J ≡ k ∷ W → IsBoundedBy (field_norm_bound S M D (order J)) (suc D) (field_bulk_of_step S V a k W))

-- where the bound is at most the greatest number of terms, nothing is past a limit
abbrev pub BoundedIsWithinLimits : Type 0
BoundedIsWithinLimits = (S : Space) (k : ℕ) → norm_bound S k ≤ greatest_term_count → k ≤ 64 → (E : LinearForm) → IsBoundedAt S k E →
    ((d : Derivative) → IsWithinLimits (finite.value forms E d)) × (count_of_numbers E ≤ greatest_term_count)

-- the same of a polynomial
abbrev pub BoundedPolynomialIsWithinLimits : Type 0
BoundedPolynomialIsWithinLimits = (b n : ℕ) (p : WholePolynomial) → b ≤ greatest_term_count → n ≤ greatest_exponent → IsBoundedBy b n p →
    IsWithinLimits p

-- with up to 4 variables of each kind, up to order 6, the bound of symbolic coefficients is at most that
abbrev pub BoundIsSmall : Type 0
BoundIsSmall = (S : Space) → S.p ≤ 4 → S.q ≤ 4 → (k : ℕ) → k ≤ 6 → norm_bound S k ≤ greatest_term_count
