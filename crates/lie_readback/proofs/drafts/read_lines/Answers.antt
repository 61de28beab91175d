use Rattle.lie_readback.proofs.DraftSteps.{few_letters}
use Rattle.lie_readback.proofs.drafts.read_lines.Goals as goal

pub read_system-requires : goal.read_system-requires
read_system-requires c = few_letters _ _ _ c.in_ok-names-in-len3-up.ensures
