use Rattle.lie_solved.proofs.AlikeEquations.{leads_keep_refusal}
use Rattle.lie_solved.proofs.laws.leads_keep_refusal.Goals as goal

pub returns : goal.returns
returns c = leads_keep_refusal
