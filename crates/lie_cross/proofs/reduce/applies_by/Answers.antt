use Rattle.std.proofs.Common.{arith, sym, subst, remove}
use Rattle.lie_math.specs.LinearForm.{no_form}
use Rattle.lie_normal.proofs.LeadOrder.{every_taken, got}
use Rattle.lie_cross.specs.Normal.{SomeIsReducible}
use Rattle.lie_cross.proofs.ReducibleForms.{IsNotReducible, reducible_at, none_reducible}
use Rattle.lie_cross.proofs.reduce.applies_by.Goals as goal

pub returns-then-another_leads : goal.returns-then-another_leads
returns-then-another_leads c =
    let Ls = remove c.args.equations.now c.args.place in
    let L = c.index-equations-place.result in
    subst (SomeIsReducible Ls) (sym (got c.args.equations.now c.args.place L no_form c.requires.place c.index-equations-place.is))
    (reducible_at Ls L c.terms-term-items.result.now c.terms-term-items.ensures.list c.loop-term.term-index
    c.term-item.result c.loop-term-test.true c.term-item.is c.if-another_leads.ensures)

pub loop-term-preserved : goal.loop-term-preserved
loop-term-preserved c =
    every_taken
    (IsNotReducible (remove c.args.equations.now c.args.place)) c.terms-term-items.result.now c.loop-term.term-index c.term-item.result
    c.loop-term-test.true c.term-item.is c.loop-term.invariant c.if-another_leads.ensures

pub returns : goal.returns
returns c =
    let Ls = remove c.args.equations.now c.args.place in
    let L = c.index-equations-place.result in
    subst (λ E. ¬ (SomeIsReducible Ls E)) (sym (got c.args.equations.now c.args.place L no_form c.requires.place c.index-equations-place.is))
    (none_reducible Ls L c.terms-term-items.result.now c.terms-term-items.ensures.list c.loop-term.term-index
    (omega (arith, c.loop-term-test.false)) c.loop-term.invariant)
