use Rattle.std.proofs.Common.{arith}
use Rattle.lie_normal.proofs.LeadOrder.{every_taken}
use Rattle.lie_cross.proofs.ReducibleForms.{IsNotReducible, reducible_at, none_reducible}
use Rattle.lie_cross.proofs.normal.is_reducible.Goals as goal

pub returns-then-some_leads : goal.returns-then-some_leads
returns-then-some_leads c =
    reducible_at c.args.list.now c.args.form.now c.terms-term-items.result.now c.terms-term-items.ensures.list c.loop-term.term-index
    c.term-item.result c.loop-term-test.true c.term-item.is c.if-some_leads.ensures

pub loop-term-preserved : goal.loop-term-preserved
loop-term-preserved c =
    every_taken
    (IsNotReducible c.args.list.now) c.terms-term-items.result.now c.loop-term.term-index c.term-item.result c.loop-term-test.true
    c.term-item.is c.loop-term.invariant c.if-some_leads.ensures

pub returns : goal.returns
returns c =
    none_reducible c.args.list.now c.args.form.now c.terms-term-items.result.now c.terms-term-items.ensures.list c.loop-term.term-index
    (omega (arith, c.loop-term-test.false)) c.loop-term.invariant
