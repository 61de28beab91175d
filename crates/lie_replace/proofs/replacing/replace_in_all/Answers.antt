use Rattle.std.proofs.Common.{◌≡◌, ◌<◌, ◌≤◌, ℕ, arith, map, unsigned_abs, ◌+◌}
use Rattle.std.proofs.lemmas.Result.{err_from_is_err_and}
use Rattle.lie_lin.specs.Systems.{unknown_of}
use Rattle.lie_steps.specs.Replacement.{put_in, put_in_bulk}
use Rattle.lie_replace.proofs.JointForms.{all_more, count_more, within_more, taken_few, joint_cause}
use Rattle.lie_replace.proofs.replacing.replace_in_all.Goals as goal

pub returns-in_err-made-clause-past : goal.returns-in_err-made-clause-past
returns-in_err-made-clause-past c =
    let p = err_from_is_err_and c.from_residual.result c.from_residual.ensures.1 in
    rw (p.1, p.2) (joint_cause c.in_err-made.field-0.0 (put_in_bulk (map unknown_of c.args.unknowns.now) c.args.number c.args.form.now (unsigned_abs c.args.divisor)) c.args.forms.now c.loop-eq.eq-index c.eq-item.result c.loop-eq-test.true c.eq-item.is c.in_err-made.ensures.past)

pub returns-then-count-gt-MAX_TRIPLES-clause-past : goal.returns-then-count-gt-MAX_TRIPLES-clause-past
returns-then-count-gt-MAX_TRIPLES-clause-past c =
    let b = put_in_bulk (map unknown_of c.args.unknowns.now) c.args.number c.args.form.now (unsigned_abs c.args.divisor) in
    let e = count_more b b c.args.forms.now c.loop-eq.eq-index c.eq-item.result c.loop-eq-test.true c.eq-item.is c.loop-eq.count c.in_ok-made.size c.in_ok-made.ensures.count c.loop-eq.invariant.count in
    let l = taken_few b c.args.forms.now (c.loop-eq.eq-index + 1) in
    let h = c.if-count-gt-MAX_TRIPLES.true in
    more c.loop-eq.count c.in_ok-made.size _ _ h e l
  where
    more : (m n t u : ℕ) → 1000000 < m + n → m + n ≡ t → t ≤ u → 1000000 < u
    more m n t u h e l = omega arith

pub loop-eq-preserved : goal.loop-eq-preserved
loop-eq-preserved c =
    let b = put_in_bulk (map unknown_of c.args.unknowns.now) c.args.number c.args.form.now (unsigned_abs c.args.divisor) in
    let m = put_in (map unknown_of c.args.unknowns.now) c.args.number c.args.form.now (unsigned_abs c.args.divisor) in
    record {
      all = all_more m b c.args.forms.now c.loop-eq.eq-index c.eq-item.result c.loop-eq-test.true c.eq-item.is c.loop-eq.all.items c.push.new.self.items c.in_ok-made.made c.in_ok-push.ensures.items c.in_ok-made.ensures.replaced c.loop-eq.invariant.all;
      count = count_more m b c.args.forms.now c.loop-eq.eq-index c.eq-item.result c.loop-eq-test.true c.eq-item.is c.loop-eq.count c.in_ok-made.size c.in_ok-made.ensures.count c.loop-eq.invariant.count;
      few = c.if-count-gt-MAX_TRIPLES.false;
      within = within_more m b c.args.forms.now c.loop-eq.eq-index c.eq-item.result c.loop-eq-test.true c.eq-item.is c.in_ok-made.ensures.fits c.loop-eq.invariant.within;
    }
