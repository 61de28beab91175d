-- No row has a name for which none is got.
use Rattle.lie_desk.proofs.KeeperAnswers.{not_got}
use Rattle.lie_desk.proofs.desk.show_report.Goals as goal

pub returns-in-Ok-None-clause-cause : goal.returns-in-Ok-None-clause-cause
returns-in-Ok-None-clause-cause g c = not_got c.args.name.now _ (rw c.in-Ok-None.field-0-is at c.in-Ok-None.ensures.content)
