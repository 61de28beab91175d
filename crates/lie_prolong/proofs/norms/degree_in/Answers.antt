use Rattle.std.specs.Prelude.{ℕ, suc, take, get_or}
use Rattle.lie_math.specs.Limits.{greatest_exponent}
use Rattle.lie_math.specs.Natural.{naturals}
use Rattle.lie_math.specs.SortedSum.{sum_of_entries}
use Rattle.lie_prolong.proofs.FieldNumbers.{entries_more, sum_more}
use Rattle.lie_prolong.proofs.norms.degree_in.Goals as goal

pub loop-pair-preserved : goal.loop-pair-preserved
loop-pair-preserved c =
    let ps = c.args.pairs.now in
    let i = c.loop-pair.pair-index in
    sum_more (sum_of_entries naturals (λ (v e : ℕ). e) (take i ps)) (get_or ps i (0, 0)).1 _ c.loop-pair.degree c.from.result c.min-degree.result (suc greatest_exponent)
    (entries_more naturals (λ (v e : ℕ). e) ps i (0, 0) c.loop-pair-test.true) c.loop-pair.invariant c.from.ensures c.min-degree.ensures
