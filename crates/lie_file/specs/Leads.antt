-- The derivative that is the left side of an equation, where it is one alone.
use Rattle.std.specs.Prelude.{ℕ, Bool, true, false, ◌==◌, List, [], ◌∷◌, if◌then◌else◌, Some, None, Ok, Err}
use Rattle.std.specs.declared.option.Option.{Option}
use Rattle.std.specs.declared.result.Result.{Result}
use Rattle.lie_geometry.specs.Coordinates.{Space, Coordinate, independent, jet}
use Rattle.lie_scan.specs.declared.stop.Stop.{Stop}
use Rattle.lie_scan.specs.Runs.{after_blanks}
use Rattle.lie_scan.specs.Tokens.{coordinate_at}

-- some count is not 0
abbrev pub not_zeros : List ℕ → Bool
not_zeros [] = false
not_zeros (c ∷ J) = if c == 0 then not_zeros J else true

-- the coordinate is a derivative
abbrev pub derivative_in : Coordinate → Option Coordinate
derivative_in (independent i) = None
derivative_in (jet a J) = if not_zeros J then Some (jet a J) else None

-- the sign `=` is behind
abbrev pub before_equal : Option Coordinate → List ℕ → Option Coordinate
before_equal o [] = None
before_equal o (c ∷ cs) = if c == 61 then o else None

abbrev pub lead_by : Result (Coordinate × List ℕ) Stop → Option Coordinate
lead_by (Err e) = None
lead_by (Ok x) = before_equal (derivative_in x.0) (after_blanks x.1)

unfoldable pub lead_of : Space → List ℕ → List ℕ → Option Coordinate
lead_of S names text = lead_by (coordinate_at S names (after_blanks text))
