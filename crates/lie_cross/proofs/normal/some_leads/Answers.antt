use Rattle.std.proofs.Common.{true≢false, sym, arith, refl}
use Rattle.lie_jet.specs.Derivatives.{derivative_of}
use Rattle.lie_normal.proofs.LeadOrder.{every_taken}
use Rattle.lie_cross.proofs.ReducibleForms.{IsNotLed, some_leads_at, none_leads}
use Rattle.lie_cross.proofs.normal.some_leads.Goals as goal

pub returns-then-leads : goal.returns-then-leads
returns-then-leads c =
    some_leads_at
    (derivative_of c.args.der.now) c.args.list.now c.loop-equation.equation-index c.equation-item.result c.loop-equation-test.true
    c.equation-item.is (c.if-leads.ensures.0 refl)

pub loop-equation-preserved : goal.loop-equation-preserved
loop-equation-preserved c =
    every_taken
    (IsNotLed
    (derivative_of c.args.der.now)) c.args.list.now c.loop-equation.equation-index c.equation-item.result c.loop-equation-test.true
    c.equation-item.is c.loop-equation.invariant
    (λ r. true≢false (sym (c.if-leads.ensures.1 r)))

pub returns : goal.returns
returns c = none_leads (derivative_of c.args.der.now) c.args.list.now c.loop-equation.equation-index
    (omega (arith, c.loop-equation-test.false)) c.loop-equation.invariant
