use Rattle.lie_file.proofs.ShortLines.{content_short}
use Rattle.lie_file.proofs.equations.equations_of.Goals as goal

pub line_of-requires-clause-short : goal.line_of-requires-clause-short
line_of-requires-clause-short c = content_short c.args.lines.now c.loop-i.i _ c.split_run.result.0.now c.loop-i-test.true c.requires.short c.split_run.ensures.front
