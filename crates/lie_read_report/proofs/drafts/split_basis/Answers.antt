use Rattle.std.proofs.Common.{◌+◌}
use Rattle.lie_readback.proofs.DraftSteps.{map_take}
use Rattle.lie_read_report.proofs.DraftLines.{rest_lines}
use Rattle.lie_read_report.proofs.drafts.split_basis.Goals as goal

pub returns-then-place-lines-clause-system : goal.returns-then-place-lines-clause-system
returns-then-place-lines-clause-system c = map_take (c.args.place + 2) c.args.lines.now

pub returns-then-place-lines-clause-basis : goal.returns-then-place-lines-clause-basis
returns-then-place-lines-clause-basis c = rest_lines c.args.lines.now c.args.place

pub returns-else-place-lines-clause-basis : goal.returns-else-place-lines-clause-basis
returns-else-place-lines-clause-basis c = rest_lines c.args.lines.now c.args.place
