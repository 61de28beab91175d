-- What the functions of `prolongation` promise: the recursion, the prolonged field, the commutator, the symbolic prolongation.
use Rattle.std.specs.Prelude.{◌≡◌, ℕ, ◌<◌, List, length, All}
use Rattle.lie_math.specs.Counts.{raise}
use Rattle.lie_math.specs.Derivation.{sum_of, numbers_below, bracket}
use Rattle.lie_math.specs.LinearForm.{apply}
use Rattle.lie_math.specs.Polynomial.{WholePolynomial, ◌+ᴾ◌, ◌*ᴾ◌}
use Rattle.lie_geometry.specs.Commutator.{commutator_component}
use Rattle.lie_geometry.specs.CoordinateLaws.{IsSpace}
use Rattle.lie_geometry.specs.Coordinates.{Space}
use Rattle.lie_geometry.specs.Invariance.{applied_prolongation}
use Rattle.lie_geometry.specs.Prolongation.{InZ, indices, jet_variable, total_derivative, prolonged_coefficient, prolonged_field}
use Rattle.lie_geometry.specs.SolvedEquations.{SolvedEquation, difference}
use Rattle.lie_geometry.specs.SymbolicProlongation.{symbolic_coefficient, symbolic_application, field_of}

-- the recursion holds for each index k, not the last variable alone
abbrev pub RecursionHolds : Type 0
RecursionHolds = (S : Space) → IsSpace S → (V : ℕ → WholePolynomial) (a k : ℕ) (J : List ℕ) → a < S.q → k < S.p → length J ≡ S.p →
    prolonged_coefficient S V a (indices (raise k J))
    +ᴾ sum_of (numbers_below S.p) (λ i. total_derivative S k (V i) *ᴾ jet_variable S a (raise i J))
    ≡ total_derivative S k (prolonged_coefficient S V a (indices J))

-- on the equations, the sum over the coordinates is the prolonged field
abbrev pub AppliedIsField : Type 0
AppliedIsField = (S : Space) → IsSpace S → (equations : List SolvedEquation) (V : ℕ → WholePolynomial) →
    All (λ equation. applied_prolongation S equations V equation ≡ prolonged_field S V (difference equation)) equations

-- the prolonged field and a total derivative: pr v (D_k P) + the sum of D_k xi^i times D_i P = D_k (pr v P)
abbrev pub FieldCrossesTotal : Type 0
FieldCrossesTotal = (S : Space) → IsSpace S → (V : ℕ → WholePolynomial) (k : ℕ) → k < S.p → (P : WholePolynomial) →
    prolonged_field S V (total_derivative S k P) +ᴾ sum_of (numbers_below S.p) (λ i. total_derivative S k (V i) *ᴾ total_derivative S i P)
    ≡ total_derivative S k (prolonged_field S V P)

-- the prolongation of a commutator is the commutator of the prolongations
abbrev pub CommutatorIsProlonged : Type 0
CommutatorIsProlonged = (S : Space) → IsSpace S → (V W : ℕ → WholePolynomial) → ((s : ℕ) → InZ S (V s)) → ((s : ℕ) → InZ S (W s)) →
    (P : WholePolynomial) → prolonged_field S (commutator_component V W) P ≡ bracket (prolonged_field S V) (prolonged_field S W) P

-- with functions of z put in for the unknowns, the symbolic prolongation is the prolongation of the field of them
abbrev pub SymbolicIsProlongation : Type 0
SymbolicIsProlongation = (S : Space) → IsSpace S → (F : ℕ → WholePolynomial) → ((n : ℕ) → InZ S (F n)) →
    ((a : ℕ) (W : List ℕ) → apply F (symbolic_coefficient S a W) ≡ prolonged_coefficient S (field_of F) a W)
    × ((equations : List SolvedEquation) (equation : SolvedEquation) →
    apply F (symbolic_application S equations equation) ≡ applied_prolongation S equations (field_of F) equation)
