use Rattle.std.proofs.Common.{◌≡◌, ◌++◌}
use Rattle.lie_print.specs.Printing.{repeated}
use Rattle.lie_print.proofs.name_texts.push_repeated.Given as goal

abbrev pub invariant-loop : goal.invariant-loop
invariant-loop l = l.text.items ≡ l.fn.text.items ++ repeated l.counter l.piece
