use Rattle.std.proofs.Common.{map, unsigned_abs}
use Rattle.std.proofs.lemmas.Result.{err_from_is_err_and}
use Rattle.lie_lin.specs.Systems.{unknown_of}
use Rattle.lie_change.proofs.ReplacedWorks.{general_cause, general_within}
use Rattle.lie_change.proofs.replacing.replaced_general.Goals as goal

pub returns-in_err-after-clause-past : goal.returns-in_err-after-clause-past
returns-in_err-after-clause-past c =
    let p = err_from_is_err_and c.from_residual.result c.from_residual.ensures.1 in
    rw (p.1, p.2) (general_cause (map unknown_of c.args.unknowns.now) c.args.number c.args.form.now
    (unsigned_abs c.args.divisor) c.args.general.now c.in_err-after.field-0.0 c.requires.some c.in_err-after.ensures.past)

pub returns-then-divided-clause-fits : goal.returns-then-divided-clause-fits
returns-then-divided-clause-fits c =
    general_within (map unknown_of c.args.unknowns.now) c.args.number c.args.form.now
    (unsigned_abs c.args.divisor) c.args.general.now c.requires.some c.in_ok-after.ensures.fits

pub returns-clause-fits : goal.returns-clause-fits
returns-clause-fits c =
    general_within (map unknown_of c.args.unknowns.now) c.args.number c.args.form.now
    (unsigned_abs c.args.divisor) c.args.general.now c.requires.some c.in_ok-after.ensures.fits
