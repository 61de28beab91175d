-- Equations and systems as they are kept and as lists see them.
use Rattle.std.specs.Prelude.{List, [], ◌∷◌, map, option_map, Option, Some, None, IfSome}
use Rattle.std.proofs.Common.{arith}
use Rattle.std.specs.List.{AllByRecursion as Every}
use Rattle.std.proofs.lemmas.List.{length-take-le, length-map}
use Rattle.lie_geometry.specs.Coordinates.{Space}
use Rattle.lie_jet.specs.Jets.{coordinate_of, IsJet}
use Rattle.lie_jet.specs.declared.jet.Jet.{Jet}
use Rattle.lie_system.specs.declared.equation.Equation.{Equation}
use Rattle.lie_system.specs.declared.system.System.{System}
use Rattle.lie_system.specs.Equations.{equation_read, HasJet, IsLowJet, IsKept, AreKept}
use Rattle.lie_system.specs.KeptSystems.{system_read}
use Rattle.lie_system.specs.Written.{IsLow, IsWritten, AreWritten, IsWrittenSystem}

-- ---- jets
jet_low : (S : Space) (j : Jet) → IsLowJet S j → IsLow S (coordinate_of S j)
jet_low S j h = let g = h.jet in let s = g.space in let f = s.few_p in let n = g.four in record { coordinate = (g.dependent, length-take-le S.p j.counts (omega arith)); some = h.some; low = g.low }

low_jet : (S : Space) (j : Jet) → IsJet S 12 j → IsLow S (coordinate_of S j) → IsLowJet S j
low_jet S j g h = record { jet = record { space = g.space; dependent = g.dependent; four = g.four; rest = g.rest; low = h.low }; some = h.some }

lead_low : (S : Space) (o : Option Jet) → IfSome o (IsLowJet S) → IfSome (option_map (coordinate_of S) o) (IsLow S)
lead_low S None h = tt
lead_low S (Some j) h = jet_low S j h

low_lead : (S : Space) (o : Option Jet) → IfSome o (IsJet S 12) → IfSome (option_map (coordinate_of S) o) (IsLow S) → IfSome o (IsLowJet S)
low_lead S None g h = tt
low_lead S (Some j) g h = low_jet S j g h

-- ---- equations
pub equation_written : (S : Space) (e : Equation) → IsKept S e → IsWritten S (equation_read S e)
equation_written S e h = record { lead = lead_low S e.lead h.lead; diff = h.diff }

-- what is read is kept, where the leads are jets
equation_kept : (S : Space) (e : Equation) → HasJet S e → IsWritten S (equation_read S e) → IsKept S e
equation_kept S e g h = record { lead = low_lead S e.lead g h.lead; diff = h.diff }

equations_written : (S : Space) (es : List Equation) → Every (IsKept S) es → Every (IsWritten S) (map (equation_read S) es)
equations_written S [] h = tt
equations_written S (e ∷ es) h = (equation_written S e h.0, equations_written S es h.1)

equations_kept : (S : Space) (es : List Equation) → Every (HasJet S) es → Every (IsWritten S) (map (equation_read S) es) → Every (IsKept S) es
equations_kept S [] g h = tt
equations_kept S (e ∷ es) g h = (equation_kept S e g.0 h.0, equations_kept S es g.1 h.1)

pub kept_written : (S : Space) (es : List Equation) → AreKept S es → AreWritten S (map (equation_read S) es)
kept_written S es h = let n = length-map es (equation_read S) in let f = h.few in record { few = omega arith; equations = equations_written S es h.equations }

pub written_kept : (S : Space) (es : List Equation) → Every (HasJet S) es → AreWritten S (map (equation_read S) es) → AreKept S es
written_kept S es g h = let n = length-map es (equation_read S) in let f = h.few in record { few = omega arith; equations = equations_kept S es g h.equations }

-- ---- systems
pub system_written : (s : System) → IsWrittenSystem (system_read s)
system_written s = record {
  small = s.small;
  named = s.named;
  letters = s.letters;
  some = let n = length-map s.equations.items (equation_read s.space) in let k = s.some in omega arith;
  written = kept_written s.space s.equations.items s.kept;
  sides = s.sides;
}
