use Rattle.std.proofs.Common.{◌∙◌, sym, subst}
use Rattle.std.specs.Prelude.{Option}
use Rattle.lie_math.specs.LinearForm.{LinearForm}
use Rattle.lie_cross.specs.Isolate.{IsEarliest}
use Rattle.lie_cross.proofs.EarliestForms.{derivative_count, not_counted, only_one}
use Rattle.lie_cross.proofs.parts.earlier_single.Goals as goal

pub returns-then-terms-ne1 : goal.returns-then-terms-ne1
returns-then-terms-ne1 c = λ Ps h. not_counted Ps c.args.next c.args.first
    (λ s. c.if-terms-ne1.true (derivative_count c.args.next c.terms.result.now c.terms.ensures.list ∙ s)) h

pub returns-in-None : goal.returns-in-None
returns-in-None c =
    λ Ps h. only_one Ps c.args.next (sym (derivative_count c.args.next c.terms.result.now c.terms.ensures.list) ∙ c.if-terms-ne1.false)
    (subst (λ (found : Option LinearForm). IsEarliest Ps found) c.in-None.is h)

pub returns-in-Some : goal.returns-in-Some
returns-in-Some c = λ Ps h. c.earlier.ensures Ps (subst (λ (found : Option LinearForm). IsEarliest Ps found) c.in-Some.is h)
    (sym (derivative_count c.args.next c.terms.result.now c.terms.ensures.list) ∙ c.if-terms-ne1.false)
