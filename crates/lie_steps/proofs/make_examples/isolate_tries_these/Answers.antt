use Rattle.lie_steps.proofs.SearchValues.{isolate_tries_these}
use Rattle.lie_steps.proofs.make_examples.isolate_tries_these.Goals as goal

pub returns : goal.returns
returns c = isolate_tries_these
