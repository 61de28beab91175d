use Rattle.std.proofs.Common.{arith, refl, sym, ◌∙◌, true≢false}
use Rattle.std.proofs.lemmas.Result.{err_from_is_err_and}
use Rattle.lie_lin.specs.Forms.{triples_of}
use Rattle.lie_lin.proofs.FormLimits.{cause_of_part, high_of_part}
use Rattle.lie_lin.proofs.Steps.{sum_step, count_step, within_step, many_at, within_at}
use Rattle.lie_lin.proofs.sum.coefficients.Goals as goal

pub loop-der-preserved : goal.loop-der-preserved
loop-der-preserved c = record {
  sum = sum_step _ _ c.args.ders.now (triples_of c.args.list.now) c.loop-der.der-index _ c.in_ok-coefficient.coefficient (omega arith) c.in_ok-push_unless_zero.ensures c.loop-der.invariant.sum c.in_ok-coefficient.ensures.value;
  count = count_step c.loop-der.count c.in_ok-coefficient.size c.args.ders.now (triples_of c.args.list.now) c.loop-der.der-index _ (omega arith) c.loop-der.invariant.count c.in_ok-coefficient.ensures.size;
  small = omega (arith, c.in_ok-coefficient.ensures.size, c.in_ok-coefficient.ensures.fits.terms);
  within = within_step c.args.ders.now (triples_of c.args.list.now) c.loop-der.der-index _ (omega arith) c.loop-der.invariant.within (c.in_ok-coefficient.ensures.fits, λ n. c.if-is_high.ensures.low (λ e. true≢false (sym e)) (λ z. n (sym c.in_ok-coefficient.ensures.size ∙ z)));
}

pub returns-in_err-coefficient-clause-past : goal.returns-in_err-coefficient-clause-past
returns-in_err-coefficient-clause-past c =
    let p = err_from_is_err_and c.from_residual.result c.from_residual.ensures.1 in
    rw (p.1, p.2) (cause_of_part _ (triples_of c.args.list.now) _ c.in_err-coefficient.ensures.past)

pub returns-then-is_high-clause-past : goal.returns-then-is_high-clause-past
returns-then-is_high-clause-past c =
    let high = c.if-is_high.ensures.high refl in
    high_of_part _ (triples_of c.args.list.now) (λ z. high.0 (c.in_ok-coefficient.ensures.size ∙ z)) high.1

pub returns-then-count-gt-MAX_TRIPLES-clause-past : goal.returns-then-count-gt-MAX_TRIPLES-clause-past
returns-then-count-gt-MAX_TRIPLES-clause-past c = many_at c.args.ders.now (triples_of c.args.list.now) c.requires c.loop-der.der-index c.loop-der.count (omega arith) c.loop-der.invariant.count (omega arith)

pub returns-clause-fits : goal.returns-clause-fits
returns-clause-fits c = within_at c.args.ders.now (triples_of c.args.list.now) c.requires c.loop-der.der-index c.loop-der.count (omega arith) c.loop-der.invariant.count (omega arith) c.loop-der.invariant.within
