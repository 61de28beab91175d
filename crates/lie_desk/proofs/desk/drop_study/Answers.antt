-- No row has a name of which none is dropped, and what is left of honest rows is honest.
use Rattle.std.specs.Prelude.{Ok}
use Rattle.lie_desk.proofs.KeeperAnswers.{not_dropped}
use Rattle.lie_desk.proofs.HonestRows.{drop_keeps_honest}
use Rattle.lie_desk.proofs.desk.drop_study.Goals as goal

pub returns-in-Ok-true-clause-honest : goal.returns-in-Ok-true-clause-honest
returns-in-Ok-true-clause-honest g c = drop_keeps_honest c.args.name.now _ _ (Ok (tt {0})) (rw c.in-Ok-true.field-0-test at c.in-Ok-true.ensures.content)

pub returns-in-Ok-false-clause-cause : goal.returns-in-Ok-false-clause-cause
returns-in-Ok-false-clause-cause g c = not_dropped c.args.name.now _ _ (rw c.in-Ok-false.field-0-test at c.in-Ok-false.ensures.content)
