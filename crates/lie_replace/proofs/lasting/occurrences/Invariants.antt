use Rattle.std.proofs.Common.{◌≡◌, ◌≤◌, ◌+◌, length, drop}
use Rattle.lie_replace.specs.Replacing.{occurrences}
use Rattle.lie_replace.proofs.lasting.occurrences.Given as goal

abbrev pub invariant-loop-i : goal.invariant-loop-i
invariant-loop-i l = record {
  inside : l.i ≤ length l.vars;
  count : l.count ≡ occurrences l.var (drop l.i l.vars);
  bound : l.count + l.i ≤ length l.vars;
}

abbrev pub decreases-loop-i : goal.decreases-loop-i
decreases-loop-i l = l.i
