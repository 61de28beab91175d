use Rattle.std.proofs.Common.{◌≡◌, ◌-◌, drop, map, length}
use Rattle.lie_readback.specs.Sums.{read_words, sum_seen}
use Rattle.lie_readback.proofs.sums.read_words.Given as goal

abbrev pub decreases-loop-i : goal.decreases-loop-i
decreases-loop-i l = length l.words - l.i

abbrev pub invariant-loop-i : goal.invariant-loop-i
invariant-loop-i l = read_words l.names (sum_seen l.fn.sum) (map (λ x. x.now) l.words) ≡ read_words l.names (sum_seen l.sum) (map (λ x. x.now) (drop l.i l.words))
