use Rattle.std.proofs.Common.{◌≡◌, drop, map}
use Rattle.lie_file.specs.Places.{last_from}
use Rattle.lie_file.proofs.reading.last_length.Given as goal

abbrev pub invariant-loop-line : goal.invariant-loop-line
invariant-loop-line l = last_from 0 (map (λ x. x.now) l.lines) ≡ last_from l.last (map (λ x. x.now) (drop l.line-index l.lines))
