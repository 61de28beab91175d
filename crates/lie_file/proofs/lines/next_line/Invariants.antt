use Rattle.std.proofs.Common.{◌≡◌, ◌-◌, drop, map, length}
use Rattle.lie_file.specs.Places.{next_line}
use Rattle.lie_file.proofs.lines.next_line.Given as goal

abbrev pub decreases-loop-i : goal.decreases-loop-i
decreases-loop-i l = length l.lines - l.i

abbrev pub invariant-loop-i : goal.invariant-loop-i
invariant-loop-i l = next_line (map (λ x. x.now) l.lines) ≡ next_line (map (λ x. x.now) (drop l.i l.lines))
