use Rattle.lie_solved.proofs.OneForm.{refused_has_no_form}
use Rattle.lie_solved.proofs.laws.refused_has_no_form.Goals as goal

pub returns : goal.returns
returns c = refused_has_no_form
