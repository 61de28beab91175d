use Rattle.std.proofs.Common.{◌≡◌, ◌≤◌, length, sym, refl, arith, true≢false}
use Rattle.lie_normal.proofs.CountsUnder.{under_at, all_under}
use Rattle.lie_normal.proofs.leads.divides.Goals as goal

pub returns-then-lead-i : goal.returns-then-lead-i
returns-then-lead-i c = (λ e. absurd (true≢false (sym e)), λ h. let k = under_at c.args.lead.now c.args.der.now h c.loop-i.i in let t = c.if-lead-i.true in absurd (omega arith))

pub returns : goal.returns
returns c =
    let u : c.args.lead.now.unknown ≡ c.args.der.now.unknown = omega arith in
    let n : length c.args.lead.now.counts ≤ 8 = omega arith in
    (λ e. all_under c.args.lead.now c.args.der.now u n (λ v lt. c.loop-i.invariant v (omega (arith, c.loop-i-test.false))), λ h. refl)
