-- The lines of the names so far.
use Rattle.std.proofs.Common.{◌≡◌, take}
use Rattle.lie_desk.specs.Lines.{names_text}
use Rattle.lie_desk.proofs.lines.names_text.Given as goal

abbrev pub invariant-loop-name : goal.invariant-loop-name
invariant-loop-name l = l.text.items ≡ names_text (take l.name-index l.names)
