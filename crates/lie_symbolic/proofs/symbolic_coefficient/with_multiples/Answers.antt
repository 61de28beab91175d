use Rattle.std.specs.Prelude.{negsuc}
use Rattle.std.proofs.Common.{◌≡◌, ◌<◌, refl, ap, subst, arith, take}
use Rattle.std.proofs.lemmas.Result.{err_from_is_err_and}
use Rattle.lie_geometry.specs.Coordinates.{Space}
use Rattle.lie_geometry.specs.SymbolicProlongation.{symbolic_total}
use Rattle.lie_symbolic.proofs.SymbolicSteps.{none_put, more_put, all_put, totals_cause, put_multiple_cause}
use Rattle.lie_symbolic.proofs.symbolic_coefficient.with_multiples.Goals as goal

pub returns-in_err-sum-clause-past : goal.returns-in_err-sum-clause-past
returns-in_err-sum-clause-past c =
    let S = c.args.space in
    let p = err_from_is_err_and c.from_residual.result c.from_residual.ensures.1 in
    rw (p.1, p.2) (totals_cause S c.args.k c.args.jet.now.dep (take S.p c.args.jet.now.counts) (negsuc 0) c.requires.jet.space c.requires.within c.args.before.now _ c.in_err-sum.ensures.past)

pub loop-i-init : goal.loop-i-init
loop-i-init c = none_put c.args.space c.args.k c.args.jet.now.dep (take c.args.space.p c.args.jet.now.counts) (negsuc 0) (symbolic_total c.args.space c.args.k c.args.before.now) c.in_ok-sum.sum c.in_ok-sum.ensures.total

pub returns-in_err-put_multiple-clause-past : goal.returns-in_err-put_multiple-clause-past
returns-in_err-put_multiple-clause-past c =
    let S = c.args.space in
    let p = err_from_is_err_and c.from_residual-in_err-put_multiple.result c.from_residual-in_err-put_multiple.ensures.1 in
    rw (p.1, p.2) (put_multiple_cause S c.args.k c.args.jet.now.dep (take S.p c.args.jet.now.counts) (negsuc 0) c.requires.jet.space c.requires.within c.args.before.now _ refl c.loop-i.sum c.loop-i.i (subst (λ (s : Space). c.loop-i.i < s.p) c.space.view_is c.loop-i-test.true) c.loop-i.invariant c.in_err-put_multiple.ensures.past)

pub loop-i-preserved : goal.loop-i-preserved
loop-i-preserved c = more_put c.args.space c.args.k c.args.jet.now.dep (take c.args.space.p c.args.jet.now.counts) (negsuc 0) (symbolic_total c.args.space c.args.k c.args.before.now) c.loop-i.sum c.put_multiple.new.sum c.loop-i.i c.loop-i.invariant c.in_ok-put_multiple.ensures.sum

pub returns-clause-value : goal.returns-clause-value
returns-clause-value c =
    let p : c.space.inside.p ≡ c.args.space.p = ap (λ (s : Space). s.p) c.space.view_is in
    all_put c.args.space c.args.k c.args.jet.now.dep (take c.args.space.p c.args.jet.now.counts) (negsuc 0) (symbolic_total c.args.space c.args.k c.args.before.now) c.loop-i.sum c.loop-i.i c.loop-i.invariant (omega arith)
