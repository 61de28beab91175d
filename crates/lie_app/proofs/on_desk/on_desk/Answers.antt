-- What a command of the desk leaves is what its call leaves.
use Rattle.lie_app.proofs.on_desk.on_desk.Goals as goal

pub returns-in-Study-clause-out : goal.returns-in-Study-clause-out
returns-in-Study-clause-out g c = rw c.in-Study.is c.study.ensures.out
