-- What is said of opening systems: there is one, it is valid and gives the invariant fields; its making is not both within its limits and
-- past one, and past none it is within them.
use Rattle.std.specs.Prelude.{◌≡◌, ◌+◌, ◌↔◌, List}
use Rattle.lie_math.specs.LinearSystem.{LinearSystem, Gives}
use Rattle.lie_math.specs.VectorField.{VectorField}
use Rattle.lie_geometry.specs.CoordinateLaws.{IsSpace}
use Rattle.lie_geometry.specs.Coordinates.{Space}
use Rattle.lie_geometry.specs.Invariance.{IsFieldOn, IsInvariant}
use Rattle.lie_geometry.specs.SolvedEquations.{SolvedEquation, IsSolved, HaveHighLeads}
use Rattle.lie_systems.specs.ValidSystems.{IsValid}
use Rattle.lie_ring.specs.declared.failures.PastKind.{PastKind}
use Rattle.lie_determining.specs.Openings.{IsOpeningSystem, IsOpeningWithin, IsOpeningPast}

-- equations have one opening system at most
abbrev pub OpeningIsUnique : Type 0
OpeningIsUnique = (S : Space) (rs : List SolvedEquation) (T U : LinearSystem) → IsOpeningSystem S rs T → IsOpeningSystem S rs U → T ≡ U

-- an opening system is valid
abbrev pub OpeningIsValid : Type 0
OpeningIsValid = (S : Space) → IsSpace S → (rs : List SolvedEquation) (T : LinearSystem) → IsOpeningSystem S rs T → IsValid (S.p + S.q) T

-- it gives the fields that meet the condition of invariance
abbrev pub OpeningGivesInvariant : Type 0
OpeningGivesInvariant = (S : Space) → IsSpace S → (rs : List SolvedEquation) → IsSolved rs → HaveHighLeads S rs
    → (T : LinearSystem) → IsOpeningSystem S rs T → (V : VectorField) → IsFieldOn S V → IsInvariant S rs V ↔ Gives T V

-- an opening within its limits is past none
abbrev pub OpeningIsNotWithinAndPast : Type 0
OpeningIsNotWithinAndPast = (S : Space) (rs : List SolvedEquation) (kind : PastKind) → IsOpeningWithin S rs → ¬ (IsOpeningPast S rs kind)

-- an opening that is past no limit is within its limits
abbrev pub OpeningPastNoneIsWithin : Type 0
OpeningPastNoneIsWithin = (S : Space) (rs : List SolvedEquation) → ((kind : PastKind) → ¬ (IsOpeningPast S rs kind)) → IsOpeningWithin S rs
