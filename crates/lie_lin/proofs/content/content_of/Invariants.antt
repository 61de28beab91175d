use Rattle.std.proofs.Common.{◌≡◌, ◌≤◌, drop, length}
use Rattle.std.specs.Prelude.{pos}
use Rattle.lie_systems.specs.Normalised.{content}
use Rattle.lie_lin.specs.Forms.{triples_of}
use Rattle.lie_lin.proofs.content.content_of.Given as goal

abbrev pub decreases-loop-i : goal.decreases-loop-i
decreases-loop-i l = l.i

abbrev pub invariant-loop-i : goal.invariant-loop-i
invariant-loop-i l = record {
  divisor : l.divisor ≡ pos (content (triples_of (drop l.i l.list)));
  bound : l.i ≤ length l.list;
}
