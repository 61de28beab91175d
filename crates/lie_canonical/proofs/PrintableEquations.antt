-- The equations of a written system have their texts.
use Rattle.std.specs.Prelude.{ℕ, ◌+◌, ◌^◌, ◌≤◌, ◌<◌, length, List, [], ◌∷◌, pos, ◌+ℤ◌, neg_ℤ, unsigned_abs, Option, Some, None, IfSome}
use Rattle.std.specs.List.{AllByRecursion as Every}
use Rattle.std.proofs.Common.{arith}
use Rattle.lie_math.specs.Monomial.{single}
use Rattle.lie_math.specs.Polynomial.{WholePolynomial, coefficient}
use Rattle.lie_geometry.specs.Coordinates.{Space, Coordinate, number}
use Rattle.lie_system.specs.Systems.{EquationRead, SystemRead}
use Rattle.lie_system.specs.Written.{IsLow, IsWritten, HasRoomBeside, HasWrittenSides, IsWrittenSystem}
use Rattle.lie_canonical.specs.RightSides.{HasRightSide, IsPrintable}

room_fits : (n : ℕ) → 1 + n < 2 ^ 127 → n < 2 ^ 127
room_fits n h = omega arith

sides_printable : (S : Space) (P : WholePolynomial) (o : Option Coordinate) → IfSome o (IsLow S) → IfSome o (HasRoomBeside S P)
    → IfSome o (λ c. HasRightSide S c P)
sides_printable S P None low room = tt
sides_printable S P (Some c) low room = record {
  coordinate = low.coordinate;
  low = low.low;
  fits = room_fits (unsigned_abs (pos 1 +ℤ neg_ℤ (coefficient P (single (number S c))))) room;
}

all_printable : (S : Space) (es : List EquationRead) → Every (IsWritten S) es → Every (HasWrittenSides S) es → Every (IsPrintable S) es
all_printable S [] w h = tt
all_printable S (e ∷ es) w h = (sides_printable S e.diff e.lead (w.0).lead (h.0).lead, all_printable S es w.1 h.1)

pub system_printable : (s : SystemRead) → IsWrittenSystem s → ((s.space).p ≤ length s.names) × Every (IsPrintable s.space) s.equations
system_printable s h = let n = h.named in ((omega arith), all_printable s.space s.equations (h.written).equations h.sides)
