use Rattle.std.proofs.Common.{◌≡◌, drop}
use Rattle.lie_scan.specs.Names.{place_from}
use Rattle.lie_scan.proofs.coordinate.place_of.Given as goal

abbrev pub invariant-loop-place : goal.invariant-loop-place
invariant-loop-place l = place_from 0 l.names l.letter ≡ place_from l.place (drop l.place l.names) l.letter
