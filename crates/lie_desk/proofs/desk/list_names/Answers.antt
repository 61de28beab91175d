-- All names are listed.
use Rattle.lie_desk.proofs.KeeperAnswers.{all_listed}
use Rattle.lie_desk.proofs.desk.list_names.Goals as goal

pub returns-in-Ok-clause-rows : goal.returns-in-Ok-clause-rows
returns-in-Ok-clause-rows g c = all_listed _ _ c.in-Ok.names c.in-Ok.ensures.kept c.in-Ok.ensures.rows c.in-Ok.ensures.content
