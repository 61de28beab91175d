use Rattle.std.proofs.Common.{◌∙◌}
use Rattle.lie_cross.proofs.ReducibleForms.{equation_is}
use Rattle.lie_cross.proofs.ForeignForms.{leadless_is_not_foreign, leadless_fits}
use Rattle.lie_cross.proofs.foreign.foreign_form.Goals as goal

pub returns-in-None-clause-found : goal.returns-in-None-clause-found
returns-in-None-clause-found c =
    leadless_is_not_foreign c.args.system.now.system c.args.place
    (equation_is c.args.system.now.system c.equations.result.now c.args.place c.index-equations-place.result c.equations.ensures c.requires
    c.index-equations-place.is ∙ c.in-None.ensures)

pub returns-in-None-clause-fits : goal.returns-in-None-clause-fits
returns-in-None-clause-fits c =
    leadless_fits c.args.system.now.system c.args.place
    (equation_is c.args.system.now.system c.equations.result.now c.args.place c.index-equations-place.result c.equations.ensures c.requires
    c.index-equations-place.is ∙ c.in-None.ensures)
