use Rattle.std.proofs.Common.{true≢false, sym}
use Rattle.std.specs.Prelude.{IsTrue}
use Rattle.lie_jet.specs.Derivatives.{derivative_of}
use Rattle.lie_cross.proofs.ReducibleForms.{led_by_lead, none_led}
use Rattle.lie_cross.proofs.normal.leads.Goals as goal

pub returns-in-Some : goal.returns-in-Some
returns-in-Some c = led_by_lead (derivative_of c.args.der.now) c.args.equation.now (derivative_of c.in-Some.lead)
    (IsTrue c.divides.result) c.in-Some.ensures c.divides.ensures

pub returns-in-None : goal.returns-in-None
returns-in-None c =
    (λ t. absurd (true≢false (sym t)), λ r. absurd (none_led (derivative_of c.args.der.now) c.args.equation.now c.in-None.ensures r))
