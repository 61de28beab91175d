-- Terms of linear forms, those of one derivative together.
use Rattle.std.specs.Prelude.{ℕ, ◌≡◌, ◌+◌, ◌^◌, Ok, Err, nat_lt, ltb, cond, true, ℤ, List, [], ◌∷◌, ◌++◌, map, Some, None, if◌then◌else◌}
use Rattle.std.specs.declared.option.Option.{Option}
use Rattle.std.specs.declared.result.Result.{Result}
use Rattle.std.specs.Global.{Vec}
use Rattle.std.specs.Ordering.{eq_by_cmp}
use Rattle.lie_math.specs.Counts.{Derivative, derivative_cmp}
use Rattle.lie_math.specs.LinearForm.{LinearForm}
use Rattle.lie_math.specs.LinearSystem.{LinearSystem}
use Rattle.lie_math.specs.Monomial.{Monomial}
use Rattle.lie_math.specs.Polynomial.{WholePolynomial}
use Rattle.lie_systems.specs.Triples.{Triple, triples}
use Rattle.lie_jet.specs.declared.derivative.Der.{Der}
use Rattle.lie_jet.specs.Derivatives.{derivative_of}
use Rattle.lie_lin.specs.Systems.{SpaceSystem}
use Rattle.lie_print.specs.Printing.{PrintedTerm, LastFactor, of_unknown, base_vector}
use Rattle.lie_report.specs.Reports.{Named}
use Rattle.lie_geometry.specs.Coordinates.{Space}
use Rattle.lie_systems.specs.ValidSystems.{IsValid}
use Rattle.lie_readback.specs.declared.unread.Unread.{Unread}
use Rattle.lie_readback.specs.declared.unread.Unread.TheVariants.{Other, NoMemory}
use Rattle.lie_readback.specs.Readings.{◌>>=◌}
use Rattle.lie_readback.specs.SystemDrafts.{Draft}

-- ---- what is written of forms
-- a triple as a term
abbrev pub written_term : Triple → PrintedTerm
written_term t = (t.2, t.1, Some (of_unknown t.0))

abbrev pub written_terms : LinearForm → List PrintedTerm
written_terms E = map written_term (triples E)

-- what is written of a system with names
abbrev pub drafted : Named × LinearSystem → Draft
drafted s = record {
  named = s.0;
  unknowns = s.1.unknowns;
  general = map written_terms s.1.general;
  equations = map written_terms s.1.equations;
}

-- names and a system of the program
abbrev pub system_seen : List ℕ × SpaceSystem → Named × LinearSystem
system_seen s = (record { space = s.1.space; names = s.0 }, s.1.system)

-- the system over the space was made, or it is not valid
abbrev pub IsMade : Space → LinearSystem → Result SpaceSystem Unread → Type 0
IsMade S T (Ok made) = (made.space ≡ S) × (made.system ≡ T)
IsMade S T (Err Other) = ¬ (IsValid (S.p + S.q) T)
IsMade S T (Err NoMemory) = Unit {0}

-- ---- groups
-- a derivative, and terms of its coefficient
abbrev pub Group : Type 0
Group = Derivative × List (Monomial × ℤ)

abbrev pub group_seen : Der × Vec (Monomial × ℤ) → Group
group_seen g = (derivative_of g.0, g.1.items)

-- the derivative of a term
abbrev pub derivative_in : Option LastFactor → Option Derivative
derivative_in None = None
derivative_in (Some (of_unknown d)) = if nat_lt d.unknown (2 ^ 32) then Some d else None
derivative_in (Some (base_vector i)) = None

-- a term joins the last group where that has its derivative, and begins one elsewhere
abbrev pub joined : List Group → Derivative → Monomial × ℤ → List Group
joined [] d e = (d, e ∷ []) ∷ []
joined (g ∷ []) d e = cond (eq_by_cmp derivative_cmp g.0 d) ((g.0, g.1 ++ e ∷ []) ∷ []) (g ∷ (d, e ∷ []) ∷ [])
joined (g ∷ h ∷ gs) d e = g ∷ joined (h ∷ gs) d e

-- groups, and further terms
abbrev pub grouped : List Group → List PrintedTerm → Option (List Group)
grouped gs [] = Some gs
grouped gs (t ∷ ts) = derivative_in t.2 >>= λ d. grouped (joined gs d (t.1, t.0)) ts

-- the groups of coefficients
abbrev pub parts_of : List (Derivative × WholePolynomial) → List Group
parts_of es = map (λ e. (e.0, e.1.list)) es
