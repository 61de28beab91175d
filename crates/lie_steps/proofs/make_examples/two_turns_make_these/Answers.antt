use Rattle.lie_steps.proofs.MakeValues.{two_turns_make_these}
use Rattle.lie_steps.proofs.make_examples.two_turns_make_these.Goals as goal

pub returns : goal.returns
returns c = two_turns_make_these
