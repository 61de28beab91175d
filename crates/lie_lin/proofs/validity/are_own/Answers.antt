use Rattle.std.proofs.Common.{◌≡◌, arith, true, get_or, true≢false, sym, ◌∙◌, length}
use Rattle.lie_lin.specs.Systems.{has_bit}
use Rattle.lie_lin.proofs.DecidingParts.{below_more, within_eight}
use Rattle.lie_lin.proofs.validity.are_own.Goals as goal

pub loop-i-init : goal.loop-i-init
loop-i-init c = λ v lt. absurd (omega arith)

pub returns-then-is_foreign : goal.returns-then-is_foreign
returns-then-is_foreign c = λ h. true≢false (sym (h c.loop-i.i c.if-is_foreign.ensures.0).1 ∙ c.if-is_foreign.ensures.1)

pub loop-i-preserved : goal.loop-i-preserved
loop-i-preserved c = below_more (λ v. ¬ (get_or c.args.counts.now v 0 ≡ 0) → has_bit c.args.bits v ≡ true) c.loop-i.i c.loop-i.invariant c.if-is_foreign.ensures

pub returns : goal.returns
returns c =
    let eight : length c.args.counts.now ≡ 8 = omega arith in
    λ v n. let lt = within_eight c.args.counts.now v eight n in (lt, c.loop-i.invariant v (omega arith) n)
