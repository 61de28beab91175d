use Rattle.lie_readback.proofs.SumTexts.{parted_mapped}
use Rattle.lie_readback.proofs.sums.parted.Goals as goal

pub returns-in-Some : goal.returns-in-Some
returns-in-Some c = parted_mapped c.args.factors.now c.in-Some.front.now c.in-Some.last.now c.in-Some.ensures.cases.0
