use Rattle.std.proofs.Common.{◌≡◌, ◌-◌, drop, map, length, []}
use Rattle.std.specs.List.{AllByRecursion as Every}
use Rattle.lie_file.specs.Files.{equations_from}
use Rattle.lie_system.specs.Equations.{equation_read, HasJet}
use Rattle.lie_file.proofs.equations.equations_of.Given as goal

abbrev pub decreases-loop-i : goal.decreases-loop-i
decreases-loop-i l = length l.lines - l.i

abbrev pub invariant-loop-i : goal.invariant-loop-i
invariant-loop-i l = (equations_from l.space l.names [] (map (λ x. x.now) l.lines) ≡ equations_from l.space l.names (map (equation_read l.space) l.equations.items) (map (λ x. x.now) (drop l.i l.lines))) × Every (HasJet l.space) l.equations.items
