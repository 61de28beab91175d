use Rattle.std.proofs.Common.{sym, ap, ◌∙◌, List}
use Rattle.lie_math.specs.LinearSystem.{Unknown}
use Rattle.lie_jet.specs.Derivatives.{derivative_of}
use Rattle.lie_steps.specs.Equations.{depends}
use Rattle.lie_cross.proofs.ForeignForms.{foreign_match}
use Rattle.lie_cross.proofs.foreign.form_by.Goals as goal

pub returns-clause-found : goal.returns-clause-found
returns-clause-found c =
    let S = c.args.system.now.system in
    foreign_match _ S c.system_is_valid.ensures.valid c.args.place c.requires.place c.args.var
    (derivative_of c.args.lead.now) c.requires.leads
    (ap (λ (us : List Unknown). depends us c.args.lead.now.unknown c.args.var) (sym c.unknowns.ensures) ∙ sym c.depends.ensures
    ∙ c.if-depends.false)
    c.in_ok-form.form c.in_ok-form.ensures.normal c.unless_empty.result c.unless_empty.ensures
