use Rattle.lie_readback.proofs.DraftSteps.{free_within, front_free, back_free}
use Rattle.lie_readback.proofs.drafts.split_free.Goals as goal

pub split_at-requires : goal.split_at-requires
split_at-requires c = free_within c.args.lines.now c.count_free-count.result c.count_free-count.ensures

pub returns-clause-front : goal.returns-clause-front
returns-clause-front c = front_free c.args.lines.now _ c.count_free-count.result c.count_free-count.ensures c.split_at.ensures.front

pub returns-clause-back : goal.returns-clause-back
returns-clause-back c = back_free c.args.lines.now _ c.count_free-count.result c.count_free-count.ensures c.split_at.ensures.back
