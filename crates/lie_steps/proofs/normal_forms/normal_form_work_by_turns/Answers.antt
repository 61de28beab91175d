use Rattle.lie_steps.proofs.NormalFormWork.{work_by_turns}
use Rattle.lie_steps.proofs.normal_forms.normal_form_work_by_turns.Goals as goal

pub returns : goal.returns
returns c unknowns Ls E d j l r b = work_by_turns d j l r b
