use Rattle.std.proofs.Common.{◌≡◌, ◌++◌, ◌∷◌, map, take}
use Rattle.std.specs.List.{flat_map}
use Rattle.lie_print.specs.Printing.{power_text}
use Rattle.lie_print.proofs.printer.Printer.push_further_powers.Given as goal

abbrev pub invariant-loop-power : goal.invariant-loop-power
invariant-loop-power l = l.text.items ≡ l.fn.text.items ++ flat_map (λ g. 42 ∷ g) (map (power_text l.self.space l.self.names.now) (take l.power-index l.powers))
