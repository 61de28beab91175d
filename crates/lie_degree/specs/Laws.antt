-- The statements of laws.
use Rattle.std.specs.Prelude.{◌≡◌, ℕ, ◌+◌, List}
use Rattle.lie_math.specs.VectorField.{VectorField}
use Rattle.lie_geometry.specs.Coordinates.{Space}
use Rattle.lie_geometry.specs.SolvedEquations.{SolvedEquation}
use Rattle.lie_systems.specs.Works.{Limit, OnWidth, IsWorkPast, IsFirstPast}
use Rattle.lie_degree.specs.DegreeBases.{IsDegreeBasis}
use Rattle.lie_degree.specs.Works.{WidthMakes, DegreeMakes, IsDegreeWithin, IsFirstOutside}

-- equations have one basis up to a degree
abbrev pub DegreeBasisIsUnique : Type 0
DegreeBasisIsUnique = (S : Space) (rs : List SolvedEquation) (d : ℕ) (Vs Ws : List VectorField)
    → IsDegreeBasis S rs d Vs → IsDegreeBasis S rs d Ws → Vs ≡ Ws

-- of the answers one holds at most: no action is past a limit, or one is, in one step; and where the width is past its limit, no other is
pub record AnswersDiffer : Type 0 where
  pub within_or_past : (S : Space) (rs : List SolvedEquation) (d step : ℕ) (limit : Limit) → IsDegreeWithin S rs d
      → ¬ (IsFirstPast (DegreeMakes S rs d) step limit)
  pub one_step : (S : Space) (rs : List SolvedEquation) (d step first : ℕ) (limit : Limit)
      → IsFirstPast (DegreeMakes S rs d) step limit → IsFirstOutside (DegreeMakes S rs d) first → step ≡ first
  pub width_first : (S : Space) (rs : List SolvedEquation) (d : ℕ) (limit : Limit) → IsWorkPast (WidthMakes (S.p + S.q) d) OnWidth
      → IsWorkPast (DegreeMakes S rs d 1) limit → limit ≡ OnWidth

-- one of them is due: not none is
abbrev pub SomeAnswerIsDue : Type 0
SomeAnswerIsDue = (S : Space) (rs : List SolvedEquation) (d : ℕ) → ¬ (IsDegreeWithin S rs d)
    → ((step : ℕ) → ¬ (IsFirstOutside (DegreeMakes S rs d) step)) → ⊥
