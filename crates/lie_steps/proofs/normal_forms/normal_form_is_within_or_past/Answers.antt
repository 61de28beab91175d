use Rattle.lie_steps.proofs.NormalFormWork.{normal_form_within_or_past}
use Rattle.lie_steps.proofs.NormalFormExists as found
use Rattle.lie_steps.proofs.normal_forms.normal_form_is_within_or_past.Goals as goal

pub returns : goal.returns
returns c n S Ls E v list form = normal_form_within_or_past ((found.normal_form_exists n S.unknowns v.rising v.variables Ls list E form).1)
