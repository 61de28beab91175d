use Rattle.std.proofs.Common.{subst, sym, length, ◌≤◌}
use Rattle.lie_readback.specs.DraftViews.{draft_seen}
use Rattle.lie_read_report.proofs.DraftLines.{place_within, drafted_few}
use Rattle.lie_read_report.proofs.drafts.read_symmetries.Goals as goal

pub split_basis-requires : goal.split_basis-requires
split_basis-requires c = place_within 103 c.args.lines.now c.in_ok-place.place c.in_ok-place.ensures

pub read_basis-requires : goal.read_basis-requires
read_basis-requires c = subst (λ l. length l ≤ 8) (sym c.as_slice.ensures.value) (drafted_few _ (draft_seen c.in_ok-draft.draft) c.in_ok-draft.ensures)
