use Rattle.std.proofs.Common.{◌≡◌, ◌-◌, drop, map, length, []}
use Rattle.lie_readback.specs.Readings.{read_each}
use Rattle.lie_readback.specs.DraftViews.{terms_seen}
use Rattle.lie_readback.specs.SystemDrafts.{read_component}
use Rattle.lie_readback.proofs.drafts.read_components.Given as goal

abbrev pub decreases-loop-i : goal.decreases-loop-i
decreases-loop-i l = length l.lines - l.i

abbrev pub invariant-loop-i : goal.invariant-loop-i
invariant-loop-i l = read_each (read_component l.names) [] (map (λ x. x.now) l.lines) ≡ read_each (read_component l.names) (map terms_seen l.components.items) (map (λ x. x.now) (drop l.i l.lines))
