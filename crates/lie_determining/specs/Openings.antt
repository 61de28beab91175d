-- The opening system of determining equations, the work of making it, and when that is past a limit.
use Rattle.std.specs.Prelude.{◌≡◌, ℕ, ◌≤◌, ◌<◌, ◌⊎◌, List, All}
use Rattle.std.specs.List.{Any, Contains, AllByRecursion as Every}
use Rattle.std.specs.List.Sorted.{IsStrictlySortedBy}
use Rattle.lie_math.specs.LinearForm.{LinearForm, no_form}
use Rattle.lie_math.specs.LinearSystem.{LinearSystem}
use Rattle.lie_math.specs.Monomial.{Monomial}
use Rattle.lie_geometry.specs.Coordinates.{Space, coordinates_up_to, coordinate}
use Rattle.lie_geometry.specs.DeterminingEquations.{determining_equation, determining_system}
use Rattle.lie_geometry.specs.Invariance.{greatest_order}
use Rattle.lie_geometry.specs.SolvedEquations.{SolvedEquation}
use Rattle.lie_geometry.specs.SymbolicProlongation.{symbolic_application}
use Rattle.lie_systems.specs.Bulk.{system_triple_count}
use Rattle.lie_systems.specs.EquationOrder.{equation_cmp}
use Rattle.lie_systems.specs.Normalised.{primitive}
use Rattle.lie_systems.specs.Works.{Made, AForm, Triples, IsWorkWithin, IsWorkPast}
use Rattle.lie_symbolic.specs.SymbolicBulks.{symbolic_bulk_at}
use Rattle.lie_ring.specs.declared.failures.PastKind.{PastKind}
use Rattle.lie_ring.specs.declared.failures.PolyFail.{PolyFail}
use Rattle.lie_ring.specs.declared.failures.PolyFail.TheVariants.{Past, NoMemory}
use Rattle.lie_reduce.specs.Kinds.{limit_of}
use Rattle.lie_determining.specs.SymbolicBulks.{symbolic_application_bulk, symbolic_reduction_bulk}

-- ---- the opening system
-- a form of the list is the normalised determining equation of an equation and a monomial, and is not empty
abbrev pub IsNormalisedEquation : Space → List SolvedEquation → LinearForm → Type 0
IsNormalisedEquation S rs e = Any (λ r. (μ : Monomial) × (¬ (determining_equation S rs r μ ≡ no_form))
    × (e ≡ primitive (determining_equation S rs r μ))) rs

-- the normalised equations of all determining equations that are not empty, each once and in order
pub record AreOpeningEquations (S : Space) (rs : List SolvedEquation) (es : List LinearForm) : Type 0 where
  pub all : All (λ r. (μ : Monomial) → (determining_equation S rs r μ ≡ no_form)
      ⊎ Contains es (primitive (determining_equation S rs r μ))) rs
  pub alone : Every (IsNormalisedEquation S rs) es
  pub ordered : IsStrictlySortedBy equation_cmp es

-- the system of these equations for the unknowns 1 to p + q, each of all variables z, one for each component
abbrev pub IsOpeningSystem : Space → List SolvedEquation → LinearSystem → Type 0
IsOpeningSystem S rs T = (es : List LinearForm) × AreOpeningEquations S rs es × (T ≡ determining_system S es)

-- ---- the work
-- what the actions make that give the conditions: a prolonged coefficient, made from the one before it, and for each equation the
-- prolonged field applied to it and the reduction of what that gives
pub data ConditionsMake (S : Space) (rs : List SolvedEquation) : Made → Type 0 where
  coefficient : (w : ℕ) → S.p ≤ w → w < coordinates_up_to S (greatest_order S rs)
      → ConditionsMake S rs (AForm (symbolic_bulk_at S (coordinate S w)))
  application : (r : SolvedEquation) → Contains rs r → ConditionsMake S rs (AForm (symbolic_application_bulk S rs r))
  reduction : (r : SolvedEquation) → Contains rs r
      → ConditionsMake S rs (AForm (symbolic_reduction_bulk rs (symbolic_application S rs r)))

-- these, and the opening system
pub data OpeningMakes (S : Space) (rs : List SolvedEquation) : Made → Type 0 where
  action : (b : Made) → ConditionsMake S rs b → OpeningMakes S rs b
  opened : (T : LinearSystem) → IsOpeningSystem S rs T → OpeningMakes S rs (Triples (system_triple_count T))

-- no action is past a limit, and the opening system has at most 1,000,000 triples
abbrev pub IsOpeningWithin : Space → List SolvedEquation → Type 0
IsOpeningWithin S rs = IsWorkWithin (OpeningMakes S rs)

-- an action, or the opening system, is past the limit of this kind
abbrev pub IsOpeningPast : Space → List SolvedEquation → PastKind → Type 0
IsOpeningPast S rs kind = IsWorkPast (OpeningMakes S rs) (limit_of kind)

-- the answer is for want of memory, or tells such a limit
abbrev pub IsOpeningCause : Space → List SolvedEquation → PolyFail → Type 0
IsOpeningCause S rs (Past kind) = IsOpeningPast S rs kind
IsOpeningCause S rs NoMemory = Unit {0}
