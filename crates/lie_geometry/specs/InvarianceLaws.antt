-- What the functions of `invariance` and `determining` promise: reduction and the ideal, invariance, the determining equations, the
-- equation of order 1.
use Rattle.std.specs.Prelude.{◌≡◌, ℕ, ◌+◌, ◌<◌, Bool, List, [], ◌∷◌, ◌↔◌, All, ℤ, pos}
use Rattle.lie_math.specs.LinearForm.{LinearForm, apply}
use Rattle.lie_math.specs.LinearSystem.{Gives}
use Rattle.lie_math.specs.Monomial.{Monomial}
use Rattle.lie_math.specs.Polynomial.{WholePolynomial, 0ᴾ, ◌+ᴾ◌, ◌*ᴾ◌, constant}
use Rattle.lie_math.specs.Variables.{IsIn}
use Rattle.lie_math.specs.VectorField.{VectorField, component, IsSameField}
use Rattle.lie_geometry.specs.Commutator.{commutator}
use Rattle.lie_geometry.specs.CoordinateLaws.{IsSpace}
use Rattle.lie_geometry.specs.Coordinates.{Space}
use Rattle.lie_geometry.specs.DeterminingEquations.{part, determining_equation, IsDetermining, determining_system}
use Rattle.lie_geometry.specs.FirstOrder.{one_of_each, first_order_equation, first_order_condition}
use Rattle.lie_geometry.specs.Invariance.{AreInvariant, IsInvariant, IsFieldOn}
use Rattle.lie_geometry.specs.Prolongation.{InZ}
use Rattle.lie_geometry.specs.SolvedEquations.{SolvedEquation, IsSolved, HaveHighLeads, difference, factor_powers, reduced}
use Rattle.lie_geometry.specs.SymbolicProlongation.{field_of}

-- ---- reduction and the ideal of the equations
-- P is a sum of multiples of the differences
abbrev pub LiesInIdeal : List SolvedEquation → WholePolynomial → Type 0
LiesInIdeal [] P = P ≡ 0ᴾ
LiesInIdeal (equation ∷ equations) P =
    (p : WholePolynomial) × (Q : WholePolynomial) × LiesInIdeal equations Q × (P ≡ p *ᴾ difference equation +ᴾ Q)

-- a multiple of P by a number that is not 0 is such a sum
abbrev pub HasMultipleInIdeal : List SolvedEquation → WholePolynomial → Type 0
HasMultipleInIdeal equations P = (n : ℤ) × (¬ (n ≡ pos 0)) × LiesInIdeal equations (constant n *ᴾ P)

-- a power product of the factors, times P, is such a sum
abbrev pub HasPowerProductInIdeal : List SolvedEquation → WholePolynomial → Type 0
HasPowerProductInIdeal equations P = (e : ℕ → ℕ) × LiesInIdeal equations (constant (factor_powers equations e) *ᴾ P)

-- what reduces to 0 is what a power product of the factors takes into the ideal, and no other number takes more into it
abbrev pub ReducedIsInIdeal : Type 0
ReducedIsInIdeal = (equations : List SolvedEquation) → IsSolved equations → (P : WholePolynomial) →
    (reduced equations P ≡ 0ᴾ ↔ HasPowerProductInIdeal equations P) × (HasMultipleInIdeal equations P → HasPowerProductInIdeal equations P)

-- ---- invariance
-- components with multiples in common, by numbers that are not 0, are invariant together
abbrev pub MultiplesAreInvariant : Type 0
MultiplesAreInvariant = (S : Space) → IsSpace S → (equations : List SolvedEquation) → IsSolved equations →
    (m n : ℤ) → ¬ (m ≡ pos 0) → ¬ (n ≡ pos 0) → (V W : ℕ → WholePolynomial) →
    ((s : ℕ) → s < S.p + S.q → constant m *ᴾ V s ≡ constant n *ᴾ W s) →
    AreInvariant S equations V ↔ AreInvariant S equations W

-- a field is invariant in whatever way it is written as parts over a number
abbrev pub SameFieldsAreInvariant : Type 0
SameFieldsAreInvariant = (S : Space) → IsSpace S → (equations : List SolvedEquation) → IsSolved equations →
    (V W : VectorField) → 0 < V.denominator → 0 < W.denominator → IsSameField V W → IsInvariant S equations V ↔ IsInvariant S equations W

abbrev pub CommutatorIsInvariant : Type 0
CommutatorIsInvariant = (S : Space) → IsSpace S → (V W : VectorField) → IsFieldOn S V → IsFieldOn S W →
    IsFieldOn S (commutator S V W)
    × ((equations : List SolvedEquation) → IsSolved equations → IsInvariant S equations V → IsInvariant S equations W →
    IsInvariant S equations (commutator S V W))

-- a polynomial is 0 exactly if each of its parts is, and each part has variables of A alone
abbrev pub PartsAreZero : Type 0
PartsAreZero = (A : ℕ → Bool) (P : WholePolynomial) → (P ≡ 0ᴾ ↔ ((μ : Monomial) → part A μ P ≡ 0ᴾ)) × ((μ : Monomial) → IsIn A (part A μ P))

-- functions of z solve the determining equations exactly if the field of them is invariant
abbrev pub DeterminingIsInvariant : Type 0
DeterminingIsInvariant = (S : Space) → IsSpace S → (equations : List SolvedEquation) → IsSolved equations → HaveHighLeads S equations →
    (F : ℕ → WholePolynomial) → ((n : ℕ) → InZ S (F n)) →
    All (λ equation. (μ : Monomial) → apply F (determining_equation S equations equation μ) ≡ 0ᴾ) equations
    ↔ AreInvariant S equations (field_of F)

-- there is a finite list of the determining equations
abbrev pub DeterminingIsFinite : Type 0
DeterminingIsFinite = (S : Space) (equations : List SolvedEquation) → (forms : List LinearForm) × IsDetermining S equations forms

-- a field is invariant exactly if the determining system gives it
abbrev pub InvariantIsGiven : Type 0
InvariantIsGiven = (S : Space) → IsSpace S → (equations : List SolvedEquation) → IsSolved equations → HaveHighLeads S equations →
    (forms : List LinearForm) → IsDetermining S equations forms →
    (V : VectorField) → IsFieldOn S V → IsInvariant S equations V ↔ Gives (determining_system S forms) V

-- for u_x = h, the printed equation is the condition
abbrev pub FirstOrderIsInvariant : Type 0
FirstOrderIsInvariant = (h : WholePolynomial) (V : VectorField) → InZ one_of_each h → IsFieldOn one_of_each V →
    IsInvariant one_of_each (first_order_equation h ∷ []) V ↔ first_order_condition h (component V 0) (component V 1) ≡ 0ᴾ
