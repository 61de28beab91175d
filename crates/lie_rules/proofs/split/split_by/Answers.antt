use Rattle.std.proofs.Common.{◌∙◌, ◌+◌}
use Rattle.std.proofs.lemmas.Result.{IfErr-weaker, err_from_is_err_and, on_ok_weaker}
use Rattle.lie_rules.proofs.SplitSteps.{apart_by, cause_by, leaves_by, part_past, stays_by, within_by}
use Rattle.lie_rules.proofs.split.split_by.Goals as goal

pub exchange_forms-requires-clause-apart : goal.exchange_forms-requires-clause-apart
exchange_forms-requires-clause-apart c =
    apart_by (c.args.system.now.space.p + c.args.system.now.space.q) c.args.system.now.system c.system_is_valid.ensures.valid c.args.place
    c.args.var c.requires.is c.from.result c.equation_at.result.now c.as_slice.result.now
    c.from.ensures c.equation_at.ensures.equation (c.as_slice.ensures.value ∙ c.in_ok-parts.ensures.parts)

pub exchange_forms-requires-clause-valid : goal.exchange_forms-requires-clause-valid
exchange_forms-requires-clause-valid c =
    stays_by (c.args.system.now.space.p + c.args.system.now.space.q) c.args.system.now.system c.system_is_valid.ensures.valid c.args.place
    c.args.var c.requires.is c.from.result c.equation_at.result.now c.as_slice.result.now
    c.from.ensures c.equation_at.ensures.equation (c.as_slice.ensures.value ∙ c.in_ok-parts.ensures.parts)

pub returns-in_err-parts-clause-past : goal.returns-in_err-parts-clause-past
returns-in_err-parts-clause-past c =
    let p = err_from_is_err_and c.from_residual.result c.from_residual.ensures.1 in
    rw (p.1, p.2) (part_past c.args.system.now.system c.args.place c.args.var c.requires.is c.from.result c.equation_at.result.now
    c.from.ensures c.equation_at.ensures.equation _ c.in_err-parts.ensures.past)

pub returns-clause-after : goal.returns-clause-after
returns-clause-after c =
    on_ok_weaker c.exchange_forms.result (leaves_by
    (c.args.system.now.space.p + c.args.system.now.space.q) c.args.system.now.system c.system_is_valid.ensures.valid c.args.place
    c.args.var c.requires.is c.from.result c.equation_at.result.now c.as_slice.result.now
    c.from.ensures c.equation_at.ensures.equation
    (c.as_slice.ensures.value ∙ c.in_ok-parts.ensures.parts) c.exchange_forms.new.system.system)
    c.exchange_forms.ensures.tidied

pub returns-clause-fits : goal.returns-clause-fits
returns-clause-fits c =
    on_ok_weaker c.exchange_forms.result (within_by
    (c.args.system.now.space.p + c.args.system.now.space.q) c.args.system.now.system c.system_is_valid.ensures.valid c.args.place
    c.args.var c.requires.is c.from.result c.equation_at.result.now c.as_slice.result.now
    c.from.ensures c.equation_at.ensures.equation (c.as_slice.ensures.value ∙ c.in_ok-parts.ensures.parts) c.in_ok-parts.ensures.fits)
    c.exchange_forms.ensures.fits

pub returns-clause-past : goal.returns-clause-past
returns-clause-past c =
    IfErr-weaker c.exchange_forms.result _ _ (cause_by
    (c.args.system.now.space.p + c.args.system.now.space.q) c.args.system.now.system c.system_is_valid.ensures.valid c.args.place
    c.args.var c.requires.is c.from.result c.equation_at.result.now c.as_slice.result.now
    c.from.ensures c.equation_at.ensures.equation (c.as_slice.ensures.value ∙ c.in_ok-parts.ensures.parts))
    c.exchange_forms.ensures.past
