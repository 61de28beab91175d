use Rattle.std.proofs.Common.{◌≡◌, drop, ◌∷◌, []}
use Rattle.lie_scan.specs.Names.{counts_from}
use Rattle.lie_scan.specs.Variables.{AreCounts}
use Rattle.lie_scan.proofs.coordinate.letter_counts.Given as goal

abbrev pub invariant-loop-letter : goal.invariant-loop-letter
invariant-loop-letter l = record {
  same : counts_from l.independent (0 ∷ 0 ∷ 0 ∷ 0 ∷ []) l.word ≡ counts_from l.independent l.counts (drop l.letter-index l.word);
  counts : AreCounts l.independent l.letter-index l.counts;
}
