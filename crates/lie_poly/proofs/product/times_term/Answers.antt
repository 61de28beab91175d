use Rattle.std.proofs.Common.{◌≡◌, ◌≤◌, sym, subst, ◌∙◌, arith, length, take}
use Rattle.std.proofs.lemmas.List.{length-take-le}
use Rattle.std.proofs.lemmas.Result.{err_from_is_err_and}
use Rattle.lie_ring.specs.Entries.{entries}
use Rattle.lie_poly.proofs.SumSteps.{from_empty}
use Rattle.lie_poly.proofs.TermLists.{entries_more, length-entries}
use Rattle.lie_poly.proofs.TimesSteps.{Multiplied, multiplied_start, multiplied_length, multiplied_more, multiplied_end, times_zero, factor_cause, never_full}
use Rattle.lie_poly.proofs.product.times_term.Goals as goal
use Rattle.lie_ring.proofs.Fronts.{all_taken}

pub returns-then-size-eq0-clause-product : goal.returns-then-size-eq0-clause-product
returns-then-size-eq0-clause-product g c =
    from_empty g.C.Ring.value c.new-out.result.items _ _ c.new-out.ensures.items (times_zero g.C.Ring.value c.args.mono.now (g.C.Ring.value c.args.c.now) (entries g.C.Ring.value c.args.terms.now) (sym c.size.ensures.size ∙ c.if-size-eq0.true))

pub loop-factor-init : goal.loop-factor-init
loop-factor-init g c = subst (Multiplied g.C.Ring.value c.args.mono.now (g.C.Ring.value c.args.c.now) _) (sym c.new-out.ensures.items) (multiplied_start g.C.Ring.value c.args.mono.now (g.C.Ring.value c.args.c.now))

pub returns-in_err-product-clause-past : goal.returns-in_err-product-clause-past
returns-in_err-product-clause-past g c =
    let p = err_from_is_err_and c.from_residual.result c.from_residual.ensures.1 in
    rw (p.1, p.2)
    (factor_cause g.C.Ring.value _ c.args.mono.now (g.C.Ring.value c.args.c.now) c.args.terms.now c.loop-factor.factor-index c.factor-item.result (omega arith) c.factor-item.is (λ e. c.if-size-eq0.false (c.size.ensures.size ∙ e)) c.requires c.in_err-product.ensures.past)

pub returns-in_err-push-clause-past : goal.returns-in_err-push-clause-past
returns-in_err-push-clause-past g c =
    let p = err_from_is_err_and c.from_residual-in_err-push.result c.from_residual-in_err-push.ensures.1 in
    let value = g.C.Ring.value in
    let many : length (entries value c.args.terms.now) ≤ 1000000 = c.requires.few in
    let here : length c.loop-factor.out.items ≡ length (entries value (take c.loop-factor.factor-index c.args.terms.now)) = multiplied_length value c.args.mono.now (value c.args.c.now) _ c.loop-factor.out.items c.loop-factor.invariant in
    rw (p.1, p.2)
    (never_full _ (length c.loop-factor.out.items) _ (omega (arith, length-entries value c.args.terms.now, length-entries value (take c.loop-factor.factor-index c.args.terms.now), length-take-le c.loop-factor.factor-index c.args.terms.now (omega arith))) c.in_err-push.ensures.full)

pub loop-factor-preserved : goal.loop-factor-preserved
loop-factor-preserved g c =
    let value = g.C.Ring.value in
    subst (λ es. Multiplied value c.args.mono.now (value c.args.c.now) es c.push.new.to.items) (sym (entries_more value c.args.terms.now c.loop-factor.factor-index c.factor-item.result (omega arith) c.factor-item.is))
    (multiplied_more value c.args.mono.now (value c.args.c.now) (entries value (take c.loop-factor.factor-index c.args.terms.now)) c.loop-factor.out.items c.push.new.to.items (c.factor-item.result.0, value c.factor-item.result.1) c.in_ok-product.product c.loop-factor.invariant
    c.in_ok-product.ensures.mono c.in_ok-product.ensures.sum c.in_ok-product.ensures.bulk c.in_ok-product.ensures.fits c.in_ok-product.ensures.low c.in_ok-push.ensures.items)

pub returns-clause-product : goal.returns-clause-product
returns-clause-product g c =
    let value = g.C.Ring.value in
    multiplied_end value c.args.mono.now (value c.args.c.now) (entries value c.args.terms.now) c.loop-factor.out.items c.reverse.new.self.items
    (subst (λ xs. Multiplied value c.args.mono.now (value c.args.c.now) (entries value xs) c.loop-factor.out.items) (all_taken c.args.terms.now c.loop-factor.factor-index (omega arith)) c.loop-factor.invariant)
    (λ e. c.if-size-eq0.false (c.size.ensures.size ∙ e)) c.requires c.reverse.ensures.items
