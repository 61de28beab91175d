use Rattle.std.proofs.Common.{sym, subst}
use Rattle.std.proofs.lemmas.Result.{err_from_is_err_and}
use Rattle.lie_form.specs.FormLimits.{HasJetsUpTo, HasOrdersUpTo}
use Rattle.lie_form.proofs.FormCauses.{coefficient_cause}
use Rattle.lie_form.proofs.FormSteps.{jets_absolute, orders_absolute, of_absolute}
use Rattle.lie_jet.proofs.TotalSteps.{if_err}
use Rattle.lie_form.proofs.form_totals.total_sym.Goals as goal

pub sum_of_totals-requires-clause-jets : goal.sum_of_totals-requires-clause-jets
sum_of_totals-requires-clause-jets c = subst (HasJetsUpTo c.args.space 11) (sym c.in_ok-absolute.ensures.absolute) (jets_absolute c.args.space 11 c.args.form.now c.requires.jets)

pub sum_of_totals-requires-clause-orders : goal.sum_of_totals-requires-clause-orders
sum_of_totals-requires-clause-orders c = subst (HasOrdersUpTo 63) (sym c.in_ok-absolute.ensures.absolute) (orders_absolute 63 c.args.form.now c.requires.orders)

pub returns-in_err-bulk-clause-past : goal.returns-in_err-bulk-clause-past
returns-in_err-bulk-clause-past c =
    let p = err_from_is_err_and c.from_residual-in_err-bulk.result c.from_residual-in_err-bulk.ensures.1 in
    rw (p.1, p.2) (coefficient_cause _ _ (of_absolute c.args.space c.args.i _ c.args.form.now c.in_ok-absolute.absolute c.in_ok-absolute.ensures.absolute c.in_err-bulk.ensures.past))

pub returns-clause-past : goal.returns-clause-past
returns-clause-past c = if_err c.sum_of_totals-2.result (λ fail h. coefficient_cause fail _ h) c.sum_of_totals-2.ensures.past
