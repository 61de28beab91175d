use Rattle.std.proofs.Common.{◌≡◌, ◌++◌, map, take, true}
use Rattle.std.specs.List.{flat_map}
use Rattle.lie_print.specs.Printing.{signed_text}
use Rattle.lie_print.specs.PrintedTerms.{printed}
use Rattle.lie_print.proofs.printer.Printer.push_further.Given as goal

abbrev pub invariant-loop-term : goal.invariant-loop-term
invariant-loop-term l = l.text.items ≡ l.fn.text.items ++ flat_map (signed_text l.self.space l.self.names.now true) (map printed (take l.term-index l.terms))
