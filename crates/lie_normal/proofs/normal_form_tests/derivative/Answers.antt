use Rattle.std.proofs.Common.{slice_index_or}
use Rattle.lie_normal.proofs.WorkedForms.{first_owned, second_owned}
use Rattle.lie_normal.proofs.normal_form_tests.derivative.Goals as goal

pub returns-then-is_second : goal.returns-then-is_second
returns-then-is_second c = second_owned (slice_index_or c.args.by 0 0) (slice_index_or c.args.by 1 0)

pub returns : goal.returns
returns c = first_owned (slice_index_or c.args.by 0 0) (slice_index_or c.args.by 1 0)
