-- Connection by connection.
use Rattle.lie_service.proofs.Entries.{closed_log}
use Rattle.lie_service.proofs.laws.closed_connections_are_answers.Goals as goal

pub returns : goal.returns
returns c = closed_log
