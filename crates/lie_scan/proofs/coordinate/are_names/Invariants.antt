use Rattle.std.proofs.Common.{◌≡◌, drop}
use Rattle.lie_scan.specs.Tokens.{are_names}
use Rattle.lie_scan.proofs.coordinate.are_names.Given as goal

abbrev pub invariant-loop-letter : goal.invariant-loop-letter
invariant-loop-letter l = are_names l.names l.word ≡ are_names l.names (drop l.letter-index l.word)
