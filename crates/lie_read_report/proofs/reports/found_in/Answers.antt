use Rattle.lie_read_report.proofs.Reported.{none_found}
use Rattle.lie_read_report.proofs.reports.found_in.Goals as goal

pub returns-in-Some-clause-value : goal.returns-in-Some-clause-value
returns-in-Some-clause-value c = rw c.in-Some.is c.found_some.ensures.value

pub returns-in-None-clause-value : goal.returns-in-None-clause-value
returns-in-None-clause-value c = rw c.in-None.is (none_found c.args.size)
