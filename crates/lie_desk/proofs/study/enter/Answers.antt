-- A keeper that tells its rows never says that a free name is taken.
use Rattle.lie_desk.proofs.KeeperAnswers.{never_taken, never_full}
use Rattle.lie_desk.proofs.study.enter.Goals as goal

pub returns-in-Err-Taken-clause-cause : goal.returns-in-Err-Taken-clause-cause
returns-in-Err-Taken-clause-cause g c =
    never_taken (Unit {0}) c.args.row _ _ _ c.empty.ensures c.requires (rw c.in-Err-Taken.field-0-is at c.in-Err-Taken.ensures.content)

pub returns-in-Err-Full-clause-cause : goal.returns-in-Err-Full-clause-cause
returns-in-Err-Full-clause-cause g c = never_full (Unit {0}) c.args.row _ _ (rw c.in-Err-Full.field-0-is at c.in-Err-Full.ensures.content)
