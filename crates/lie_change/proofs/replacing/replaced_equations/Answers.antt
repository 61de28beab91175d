use Rattle.std.proofs.Common.{map, unsigned_abs}
use Rattle.std.proofs.lemmas.Result.{err_from_is_err_and}
use Rattle.lie_lin.specs.Systems.{unknown_of}
use Rattle.lie_change.proofs.ReplacedWorks.{behind_cause, removed_within}
use Rattle.lie_change.proofs.replacing.replaced_equations.Goals as goal

pub returns-in_err-push_all_replaced-2-clause-past : goal.returns-in_err-push_all_replaced-2-clause-past
returns-in_err-push_all_replaced-2-clause-past c =
    let p = err_from_is_err_and c.from_residual-in_err-push_all_replaced-2.result c.from_residual-in_err-push_all_replaced-2.ensures.1 in
    rw (p.1, p.2) (behind_cause (map unknown_of c.args.unknowns.now) c.args.number c.args.form.now
    (unsigned_abs c.args.divisor) c.args.equations.now c.args.place c.in_err-push_all_replaced-2.field-0.0
    c.in_err-push_all_replaced-2.ensures.past)

pub returns-clause-fits : goal.returns-clause-fits
returns-clause-fits c =
    removed_within (map unknown_of c.args.unknowns.now) c.args.number c.args.form.now
    (unsigned_abs c.args.divisor) c.args.equations.now c.args.place c.in_ok-push_all_replaced.ensures.fits
    c.in_ok-push_all_replaced-2.ensures.fits
