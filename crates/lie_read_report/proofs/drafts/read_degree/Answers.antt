use Rattle.std.proofs.Common.{subst, sym, length, ◌≤◌}
use Rattle.lie_readback.proofs.DraftSteps.{few_letters}
use Rattle.lie_read_report.proofs.drafts.read_degree.Goals as goal

pub read_fields-requires : goal.read_fields-requires
read_fields-requires c = subst (λ l. length l ≤ 8) (sym c.as_slice.ensures.value) (few_letters _ _ _ c.in_ok-names-in-len5-up.ensures)
