use Rattle.std.proofs.Common.{map, unsigned_abs, subst, arith, List}
use Rattle.std.specs.List.{Contains}
use Rattle.std.proofs.lemmas.Result.{err_from_is_err_and}
use Rattle.lie_math.specs.LinearForm.{LinearForm}
use Rattle.lie_systems.specs.Works.{IsWorkWithin}
use Rattle.lie_lin.specs.Systems.{unknown_of}
use Rattle.lie_ring.proofs.Fronts.{all_taken}
use Rattle.lie_steps.specs.Replacement.{replaced_made}
use Rattle.lie_change.proofs.ReplacedWorks.{made_cause, put_more, made_within_more}
use Rattle.lie_change.proofs.replacing.push_all_replaced.Goals as goal

pub returns-in_err-push_replaced-clause-past : goal.returns-in_err-push_replaced-clause-past
returns-in_err-push_replaced-clause-past c =
    let p = err_from_is_err_and c.from_residual.result c.from_residual.ensures.1 in
    rw (p.1, p.2) (made_cause (map unknown_of c.args.unknowns.now) c.args.number c.args.form.now
    (unsigned_abs c.args.divisor) c.args.equations.now c.loop-eq.eq-index c.eq-item.result c.loop-eq-test.true c.eq-item.is
    c.in_err-push_replaced.field-0.0 c.in_err-push_replaced.ensures.past)

pub loop-eq-preserved : goal.loop-eq-preserved
loop-eq-preserved c = record {
  put = put_more (map unknown_of c.args.unknowns.now) c.args.number c.args.form.now
      (unsigned_abs c.args.divisor) c.args.equations.now c.loop-eq.eq-index c.eq-item.result c.loop-eq-test.true c.eq-item.is
      c.args.out.now.items c.loop-eq.out.items c.push_replaced.new.out.items c.in_ok-push_replaced.ensures.put c.loop-eq.invariant.put;
  fits = made_within_more (map unknown_of c.args.unknowns.now) c.args.number c.args.form.now
      (unsigned_abs c.args.divisor) c.args.equations.now c.loop-eq.eq-index c.eq-item.result c.loop-eq-test.true c.eq-item.is
      c.loop-eq.invariant.fits c.in_ok-push_replaced.ensures.fits;
}

pub returns-clause-fits : goal.returns-clause-fits
returns-clause-fits c =
    subst (λ (es : List LinearForm). IsWorkWithin (Contains (replaced_made
    (map unknown_of c.args.unknowns.now) c.args.number c.args.form.now (unsigned_abs c.args.divisor) es)))
    (all_taken c.args.equations.now c.loop-eq.eq-index (omega (arith, c.loop-eq-test.false))) c.loop-eq.invariant.fits
