use Rattle.std.proofs.Common.{◌∙◌, ◌∷◌, [], arith, ap, subst, sym}
use Rattle.lie_math.specs.LinearForm.{LinearForm, no_form, ◌+ᶠ◌, form_term}
use Rattle.lie_jet.specs.Derivatives.{derivative_of}
use Rattle.lie_jet.specs.declared.derivative.Der.{Der}
use Rattle.lie_form.specs.FormLimits.{HasJetsUpTo, HasOrdersUpTo}
use Rattle.lie_form.proofs.FormKept.{jets_none, jets_sum, jets_term, orders_none, orders_sum, orders_term}
use Rattle.lie_form.proofs.tests.form_total.Goals as goal

abbrev second : Der
second = record { unknown = 2; counts = 0 ∷ 0 ∷ 0 ∷ 0 ∷ 0 ∷ 0 ∷ 0 ∷ 0 ∷ [] }

pub total_sym-requires-clause-jets : goal.total_sym-requires-clause-jets
total_sym-requires-clause-jets c =
    subst (HasJetsUpTo (record { p = 1; q = 1 }) 11) (sym (c.in_ok-put.ensures.sum ∙ ap (λ (E : LinearForm). E +ᶠ form_term (derivative_of second) c.args.p) c.zero-form.ensures))
    (jets_sum (record { p = 1; q = 1 }) 11 no_form (form_term (derivative_of second) c.args.p) (jets_none (record { p = 1; q = 1 }) 11) (jets_term (record { p = 1; q = 1 }) 11 (derivative_of second) c.args.p c.requires))

pub total_sym-requires-clause-orders : goal.total_sym-requires-clause-orders
total_sym-requires-clause-orders c =
    subst (HasOrdersUpTo 63) (sym (c.in_ok-put.ensures.sum ∙ ap (λ (E : LinearForm). E +ᶠ form_term (derivative_of second) c.args.p) c.zero-form.ensures))
    (orders_sum 63 no_form (form_term (derivative_of second) c.args.p) (orders_none 63) (orders_term 63 (derivative_of second) c.args.p (omega arith)))
