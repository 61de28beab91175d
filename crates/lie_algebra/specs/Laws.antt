-- The statements of laws that are longer than a line.
use Rattle.std.specs.Prelude.{◌≡◌, ℕ, ◌↔◌, List}
use Rattle.std.specs.List.{AllByRecursion as Every}
use Rattle.lie_math.specs.LinearSystem.{LinearSystem, Gives}
use Rattle.lie_math.specs.VectorField.{VectorField}
use Rattle.lie_systems.specs.ValidSystems.{IsValid}
use Rattle.lie_steps.specs.Runs.{IsFinite}
use Rattle.lie_spans.specs.ClosedSystems.{closed_system}
use Rattle.lie_spans.specs.ConstantSystems.{IsConstantSystem}
use Rattle.lie_spans.specs.Fields.{IsFieldIn, IsFieldBasis}

-- a valid finite system is one of constants
abbrev pub FiniteIsConstant : Type 0
FiniteIsConstant = (n : ℕ) (S : LinearSystem) → IsValid n S → IsFinite S → IsConstantSystem S

-- two reduced bases of the fields that a system gives are equal
abbrev pub SystemBasisIsUnique : Type 0
SystemBasisIsUnique = (n : ℕ) (S : LinearSystem) (Vs Ws : List VectorField)
    → IsFieldBasis n (Gives S) Vs → IsFieldBasis n (Gives S) Ws → Vs ≡ Ws

-- the closed form of a system's basis gives the same fields
abbrev pub ClosedFormGivesSameFields : Type 0
ClosedFormGivesSameFields = (n : ℕ) (S : LinearSystem) (Vs : List VectorField) → IsFieldBasis n (Gives S) Vs
    → (W : VectorField) → IsFieldIn n W → Gives (closed_system n Vs) W ↔ Gives S W

-- the closed system of fields is valid
abbrev pub ClosedSystemIsValid : Type 0
ClosedSystemIsValid = (n : ℕ) (Vs : List VectorField) → Every (IsFieldIn n) Vs → IsValid n (closed_system n Vs)
