use Rattle.lie_steps.proofs.SearchValues.{search_makes_this}
use Rattle.lie_steps.proofs.make_examples.search_makes_this.Goals as goal

pub returns : goal.returns
returns c = search_makes_this
