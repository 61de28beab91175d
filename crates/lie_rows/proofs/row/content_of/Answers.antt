use Rattle.std.proofs.Common.{◌≡◌, ◌+◌, ◌-◌, ◌<◌, ◌^◌, ◌∙◌, ap, sym, subst, arith, drop}
use Rattle.lie_spans.specs.Content.{row_content}
use Rattle.lie_math.specs.CommonDivisors.{common_divisor}
use Rattle.lie_rows.proofs.RowLoops.{content_step, common_divisor_below}
use Rattle.lie_rows.proofs.row.content_of.Goals as goal

pub loop-left-preserved : goal.loop-left-preserved
loop-left-preserved c =
    let one : c.loop-left.left ≡ c.loop-left.left - 1 + 1 = omega arith in
    record {
      within = omega arith;
      value = c.common_divisor_of-found.ensures ∙ ap (λ n. common_divisor n c.loop-left.found) c.size.ensures.size
          ∙ content_step c.args.row.now (c.loop-left.left - 1) c.index-row-left.result c.loop-left.found (omega arith) c.index-row-left.is (c.loop-left.invariant.value ∙ ap (λ n. row_content (drop n c.args.row.now)) one);
      small = subst (λ n. n < 2 ^ 127) (sym c.common_divisor_of-found.ensures) (common_divisor_below c.size.result c.loop-left.found (2 ^ 127) (omega arith) (subst (λ n. n < 2 ^ 127) (sym c.size.ensures.size) c.size.ensures.fits) c.loop-left.invariant.small);
    }
