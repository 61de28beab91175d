use Rattle.lie_solved.proofs.OneRefusal.{refusal_is_one}
use Rattle.lie_solved.proofs.laws.refusal_is_one.Goals as goal

pub returns : goal.returns
returns c = refusal_is_one
