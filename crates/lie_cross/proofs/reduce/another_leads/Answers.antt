use Rattle.std.proofs.Common.{◌≡◌, ◌+◌, true≢false, sym, refl, arith}
use Rattle.lie_jet.specs.Derivatives.{derivative_of}
use Rattle.lie_cross.proofs.OtherEquations.{leads_among, led_at, not_led_at, none_before_next, none_leads_more}
use Rattle.lie_cross.proofs.reduce.another_leads.Goals as goal
use Rattle.lie_cross.proofs.reduce.another_leads.Goals.{else-at-place-via-then-at-place+else-leads, else-at-place-via-else-at-place}

pub returns-then-leads : goal.returns-then-leads
returns-then-leads c =
    let d = derivative_of c.args.der.now in
    leads_among d c.args.equations.now c.args.place c.in-Some.at c.in-Some.ensures.1 c.if-at-place.true
    (led_at d c.args.equations.now c.in-Some.at c.index-equations-at.result c.in-Some.ensures.1 c.index-equations-at.is (c.if-leads.ensures.0 refl))

pub loop-at-preserved : goal.loop-at-preserved
loop-at-preserved c =
    let d = derivative_of c.args.der.now in
    let at = c.in-Some.at in
    let lt = c.in-Some.ensures.1 in
    record {
      within = omega arith;
      none =
          none_before_next d c.args.equations.now c.args.place c.loop-at.from at (at + 1) refl c.loop-at.invariant.none c.in-Some.ensures
          (elim c.else-at-place.branch [
            | else-at-place-via-then-at-place+else-leads w ↦ λ n.
                not_led_at d c.args.equations.now at w.index-equations-at.result lt w.index-equations-at.is
                (λ r. true≢false (sym (w.if-leads.ensures.1 r)))
            | else-at-place-via-else-at-place w ↦ λ n. absurd (n (omega (arith, w.if-at-place.false)))
          ]);
    }

pub returns : goal.returns
returns c =
    none_leads_more (derivative_of c.args.der.now) c.args.equations.now c.args.place c.loop-at.from c.loop-at.invariant.none c.in_default.ensures
