-- The work that makes the basis up to a degree.
use Rattle.std.specs.Prelude.{◌≡◌, ℕ, ◌+◌, ◌<◌, ◌⊎◌, List, length}
use Rattle.std.specs.List.{Contains}
use Rattle.lie_math.specs.LinearForm.{LinearForm}
use Rattle.lie_math.specs.LinearSystem.{LinearSystem}
use Rattle.lie_math.specs.Monomial.{Monomial}
use Rattle.lie_geometry.specs.Coordinates.{Space}
use Rattle.lie_geometry.specs.SolvedEquations.{SolvedEquation}
use Rattle.lie_systems.specs.Works.{Made, APolynomial, ABasis, OnWidth, IsWorkWithin, IsWorkPast, IsFirstPast}
use Rattle.lie_ring.specs.declared.failures.PastKind.{PastKind}
use Rattle.lie_ring.specs.declared.failures.PastKind.TheVariants.{Width}
use Rattle.lie_ring.specs.declared.failures.PolyFail.{PolyFail}
use Rattle.lie_ring.specs.declared.failures.PolyFail.TheVariants as fails
use Rattle.lie_reduce.specs.Kinds.{limit_of}
use Rattle.lie_determining.specs.Openings.{OpeningMakes, IsOpeningSystem}
use Rattle.lie_spans.specs.Bulks.{KernelMakes}
use Rattle.lie_spans.specs.Conditions.{condition_rows}
use Rattle.lie_spans.specs.Fields.{Column}
use Rattle.lie_spans.specs.Openings.{AreDegreeColumns}
use Rattle.lie_degree.specs.Conditions.{said_bulk, AreConditions}
use Rattle.lie_degree.specs.declared.bases.DegreeStop.{DegreeStop}
use Rattle.lie_degree.specs.declared.bases.DegreeStop.TheVariants.{Past, NoMemory}

-- the first action: a basis of n unknowns and the columns up to degree d
abbrev pub WidthMakes : ℕ → ℕ → Made → Type 0
WidthMakes n d b = (ks : List Column) × AreDegreeColumns n d ks × (b ≡ ABasis n (length ks))

-- the rows of an equation: what it says of a column, with absolute values
abbrev pub RowsMake : ℕ → ℕ → LinearSystem → Made → Type 0
RowsMake n d T b = (ks : List Column) × AreDegreeColumns n d ks
    × ((E : LinearForm) × Contains T.equations E × ((k : Column) × Contains ks k × (b ≡ APolynomial (said_bulk E k))))

-- the elimination of the rows of all conditions, and their solutions
abbrev pub SolutionsMake : ℕ → ℕ → LinearSystem → Made → Type 0
SolutionsMake n d T b = (ks : List Column) × AreDegreeColumns n d ks
    × ((cs : List (LinearForm × List Monomial)) × AreConditions ks T.equations cs × KernelMakes (length ks) (condition_rows ks cs) b)

-- the rows, and then the elimination and the solutions
abbrev pub NumbersMake : ℕ → ℕ → LinearSystem → Made → Type 0
NumbersMake n d T b = RowsMake n d T b ⊎ SolutionsMake n d T b

-- no action is past a limit
pub record IsBasisWithin (n d : ℕ) (T : LinearSystem) : Type 0 where
  pub width : IsWorkWithin (WidthMakes n d)
  pub numbers : IsWorkWithin (NumbersMake n d T)

-- the basis is past this limit; the width goes before all else
abbrev pub IsBasisPast : ℕ → ℕ → LinearSystem → PastKind → Type 0
IsBasisPast n d T Width = IsWorkPast (WidthMakes n d) OnWidth
IsBasisPast n d T kind = IsWorkWithin (WidthMakes n d) × IsWorkPast (NumbersMake n d T) (limit_of kind)

-- the answer is for want of memory, or tells the limit that the basis is past
abbrev pub IsBasisCause : ℕ → ℕ → LinearSystem → PolyFail → Type 0
IsBasisCause n d T (fails.Past kind) = IsBasisPast n d T kind
IsBasisCause n d T fails.NoMemory = Unit {0}

-- the answer for a failure in the step of this number
abbrev pub stop_at : ℕ → PolyFail → DegreeStop
stop_at step (fails.Past kind) = Past step kind
stop_at step fails.NoMemory = NoMemory

-- what the actions of a step make: step 0 is the making of the determining equations; step 1 is the basis, first its width, and then its
-- numbers where that is within the limits
pub data DegreeMakes (S : Space) (rs : List SolvedEquation) (d : ℕ) : ℕ → Made → Type 0 where
  opening : (b : Made) → OpeningMakes S rs b → DegreeMakes S rs d 0 b
  width : (b : Made) → WidthMakes (S.p + S.q) d b → DegreeMakes S rs d 1 b
  numbers : IsWorkWithin (WidthMakes (S.p + S.q) d) → (T : LinearSystem) → IsOpeningSystem S rs T → (b : Made)
      → NumbersMake (S.p + S.q) d T b → DegreeMakes S rs d 1 b

-- no action is past a limit
abbrev pub IsDegreeWithin : Space → List SolvedEquation → ℕ → Type 0
IsDegreeWithin S rs d = (step : ℕ) → IsWorkWithin (DegreeMakes S rs d step)

-- why there is no basis: an action is past a limit, in the first step that has such an action; or for want of memory
abbrev pub IsDegreeStop : Space → List SolvedEquation → ℕ → DegreeStop → Type 0
IsDegreeStop S rs d (Past step what) = IsFirstPast (DegreeMakes S rs d) step (limit_of what)
IsDegreeStop S rs d NoMemory = Unit {0}

-- of works done one after the other, this one is the first that is not within the limits
pub record IsFirstOutside (makes : ℕ → Made → Type 0) (step : ℕ) : Type 0 where
  pub before : (k : ℕ) → k < step → IsWorkWithin (makes k)
  pub outside : ¬ (IsWorkWithin (makes step))
