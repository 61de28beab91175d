use Rattle.lie_cross.proofs.ReducibleForms.{lead_apart}
use Rattle.lie_cross.proofs.cross.leads_of_one.Goals as goal

pub returns-in_default-2 : goal.returns-in_default-2
returns-in_default-2 c = λ l m are. lead_apart c.args.other.now m are.other c.in_default.ensures'

pub returns-in_default-3 : goal.returns-in_default-3
returns-in_default-3 c = λ l m are. lead_apart c.args.equation.now l are.lead (rw c.in_default.is-0 at c.lead.ensures)
