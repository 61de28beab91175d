use Rattle.std.proofs.Common.{◌∙◌, sym, subst, map}
use Rattle.std.proofs.lemmas.Result.{err_from_is_err_and}
use Rattle.lie_math.specs.LinearForm.{LinearForm}
use Rattle.lie_systems.specs.Bulk.{IsFormWithinLimits}
use Rattle.lie_lin.specs.Systems.{unknown_of}
use Rattle.lie_cross.specs.Isolate.{IsEarliestPart}
use Rattle.lie_cross.proofs.IsolatedForms.{first_cause, rest_cause, freed_is, freed_fits, part_fits}
use Rattle.lie_cross.proofs.isolate.part_of_derivative.Goals as goal

pub returns-in_err-derived-clause-past : goal.returns-in_err-derived-clause-past
returns-in_err-derived-clause-past c =
    let us = map unknown_of c.args.unknowns.now in
    let p = err_from_is_err_and c.from_residual.result c.from_residual.ensures.1 in
    rw (p.1, p.2) (first_cause us c.args.equation.now c.args.var c.in_err-derived.field-0.0 c.in_err-derived.ensures.past)

pub returns-in_err-freed-clause-past : goal.returns-in_err-freed-clause-past
returns-in_err-freed-clause-past c =
    let us = map unknown_of c.args.unknowns.now in
    let p = err_from_is_err_and c.from_residual-in_err-freed.result c.from_residual-in_err-freed.ensures.1 in
    rw (p.1, p.2)
    (rest_cause us c.args.equation.now c.args.var c.args.degree c.requires.degree c.in_ok-derived.derived
    c.in_ok-derived.ensures.derivative
    c.in_err-freed.field-0.0 c.in_err-freed.ensures.past)

pub first_single_part-requires : goal.first_single_part-requires
first_single_part-requires c =
    let us = map unknown_of c.args.unknowns.now in
    subst IsFormWithinLimits
    (sym (c.in_ok-freed.ensures.derivative
    ∙ freed_is us c.args.equation.now c.args.var c.args.degree c.requires.degree c.in_ok-derived.derived
    c.in_ok-derived.ensures.derivative))
    (freed_fits us c.args.equation.now c.args.var c.args.degree c.requires.degree c.in_ok-derived.derived
    c.in_ok-derived.ensures.derivative c.in_ok-derived.ensures.fits c.in_ok-freed.ensures.fits)

pub returns-clause-found : goal.returns-clause-found
returns-clause-found c =
    let us = map unknown_of c.args.unknowns.now in
    subst (λ (D : LinearForm). IsEarliestPart us D c.in_ok-first_single_part.field-0)
    (c.in_ok-freed.ensures.derivative
    ∙ freed_is us c.args.equation.now c.args.var c.args.degree c.requires.degree c.in_ok-derived.derived
    c.in_ok-derived.ensures.derivative)
    c.in_ok-first_single_part.ensures

pub returns-clause-fits : goal.returns-clause-fits
returns-clause-fits c =
    let us = map unknown_of c.args.unknowns.now in
    part_fits us c.args.equation.now c.args.var c.args.degree c.requires.degree c.in_ok-derived.derived c.in_ok-derived.ensures.derivative
    c.in_ok-derived.ensures.fits c.in_ok-freed.ensures.fits
