use Rattle.lie_steps.proofs.NormalFormWork.{no_work}
use Rattle.lie_steps.proofs.normal_forms.no_reduction_no_work.Goals as goal

pub returns : goal.returns
returns c unknowns Ls E b f h = no_work f h
