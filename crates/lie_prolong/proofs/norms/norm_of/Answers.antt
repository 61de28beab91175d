use Rattle.std.specs.Prelude.{suc, take, get_or, ℤ, unsigned_abs}
use Rattle.std.proofs.Common.{ap, ◌∙◌}
use Rattle.lie_math.specs.Limits.{greatest_term_count}
use Rattle.lie_math.specs.Monomial.{Monomial}
use Rattle.lie_math.specs.Natural.{naturals}
use Rattle.lie_math.specs.SortedSum.{sum_of_entries}
use Rattle.lie_prolong.proofs.FieldNumbers.{entries_more, sum_more}
use Rattle.lie_prolong.proofs.norms.norm_of.Goals as goal

pub loop-term-preserved : goal.loop-term-preserved
loop-term-preserved c =
    let ts = c.args.terms.now in
    let i = c.loop-term.term-index in
    let x = c.term-item.result in
    sum_more (sum_of_entries naturals (λ (m : Monomial) (a : ℤ). unsigned_abs a) (take i ts)) (unsigned_abs (get_or ts i x).1) _ c.loop-term.norm c.size.result c.min-norm.result (suc greatest_term_count)
    (entries_more naturals (λ (m : Monomial) (a : ℤ). unsigned_abs a) ts i x c.loop-term-test.true) c.loop-term.invariant (c.size.ensures.size ∙ ap (λ (t : Monomial × ℤ). unsigned_abs t.1) c.term-item.is) c.min-norm.ensures
