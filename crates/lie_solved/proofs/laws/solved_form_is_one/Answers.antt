use Rattle.lie_solved.proofs.OneForm.{solved_form_is_one}
use Rattle.lie_solved.proofs.laws.solved_form_is_one.Goals as goal

pub returns : goal.returns
returns c = solved_form_is_one
