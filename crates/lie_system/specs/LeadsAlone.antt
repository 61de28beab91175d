-- The system that its canonical text spells.
use Rattle.std.specs.Prelude.{ℕ, List, [], ◌∷◌, map, ℤ, pos, negsuc, Bool, false, ◌+◌, ◌==◌, nat_lt, Some, None, if◌then◌else◌}
use Rattle.std.specs.declared.option.Option.{Option}
use Rattle.lie_math.specs.Monomial.{Monomial}
use Rattle.lie_geometry.specs.Coordinates.{Space, Coordinate, coordinate}
use Rattle.lie_system.specs.Systems.{EquationRead, SystemRead}

-- a derivative of order 1 or more, with the exponent 1 alone
abbrev pub derivative_alone : Space → List (ℕ × ℕ) → Option Coordinate
derivative_alone S [] = None
derivative_alone S (p ∷ []) = if nat_lt p.0 (S.p + S.q) then None else (if p.1 == 1 then Some (coordinate S p.0) else None)
derivative_alone S (p ∷ r ∷ ps) = None

abbrev pub is_one : ℤ → Bool
is_one (pos n) = n == 1
is_one (negsuc n) = false

-- a polynomial that is one such derivative with the number 1
abbrev pub lead_alone : Space → List (Monomial × ℤ) → Option Coordinate
lead_alone S [] = None
lead_alone S (t ∷ []) = if is_one t.1 then derivative_alone S (t.0).list else None
lead_alone S (t ∷ u ∷ ts) = None

-- the lead as it is, and otherwise the derivative that the polynomial is
abbrev pub lead_or : Option Coordinate → Option Coordinate → Option Coordinate
lead_or (Some c) other = Some c
lead_or None other = other

abbrev pub with_lead : Space → EquationRead → EquationRead
with_lead S e = record { lead = lead_or e.lead (lead_alone S (e.diff).list); diff = e.diff }

abbrev pub with_leads : SystemRead → SystemRead
with_leads s = record { space = s.space; names = s.names; equations = map (with_lead s.space) s.equations }
