use Rattle.std.proofs.Common.{◌≡◌, ◌++◌, drop}
use Rattle.lie_print.specs.Printing.{letters_from}
use Rattle.lie_print.proofs.name_texts.push_letters.Given as goal

abbrev pub invariant-loop-i : goal.invariant-loop-i
invariant-loop-i l = l.text.items ++ letters_from l.names l.i (drop l.i l.counts) ≡ l.fn.text.items ++ letters_from l.names 0 l.counts
