use Rattle.std.proofs.Common.{map, unsigned_abs, sym}
use Rattle.std.proofs.lemmas.Result.{err_from_is_err_and}
use Rattle.lie_lin.specs.Systems.{unknown_of}
use Rattle.lie_change.proofs.ReplacedWorks.{replaced_cause}
use Rattle.lie_change.proofs.replacing.push_replaced.Goals as goal

pub returns-in_err-replace-clause-past : goal.returns-in_err-replace-clause-past
returns-in_err-replace-clause-past c =
    let p = err_from_is_err_and c.from_residual.result c.from_residual.ensures.1 in
    rw (p.1, p.2) (replaced_cause (map unknown_of c.args.unknowns.now) c.args.number c.args.form.now
    (unsigned_abs c.args.divisor) c.args.eq.now c.in_err-replace.field-0.0 (sym c.if-mentions.ensures) c.in_err-replace.ensures.past)
