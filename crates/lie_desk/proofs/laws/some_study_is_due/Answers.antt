-- Some work on the file is due, and a row has the name or none has.
use Rattle.lie_desk.proofs.SomeStudyDue.{some_study}
use Rattle.lie_desk.proofs.laws.some_study_is_due.Goals as goal

pub returns : goal.returns
returns c = some_study c.some_work_is_due.ensures
