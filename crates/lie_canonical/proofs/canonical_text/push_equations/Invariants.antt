use Rattle.std.proofs.Common.{◌≡◌, ◌++◌, map, take}
use Rattle.std.specs.List.{flat_map}
use Rattle.lie_system.specs.Equations.{equation_read}
use Rattle.lie_canonical.specs.CanonicalText.{equation_text}
use Rattle.lie_canonical.proofs.canonical_text.push_equations.Given as goal

abbrev pub invariant-loop-equation : goal.invariant-loop-equation
invariant-loop-equation l = l.text.items ≡ l.fn.text.items ++ flat_map (equation_text l.printer.space l.printer.names.now) (map (equation_read l.printer.space) (take l.equation-index l.equations))
