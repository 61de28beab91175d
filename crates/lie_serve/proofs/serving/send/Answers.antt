-- The answer is the one that was made.
use Rattle.lie_serve.proofs.serving.send.Goals as goal

pub returns-in-Ok : goal.returns-in-Ok
returns-in-Ok g c = rw c.in-Ok.is c.send_answer.ensures
