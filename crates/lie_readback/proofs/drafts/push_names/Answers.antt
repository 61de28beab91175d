use Rattle.std.proofs.Common.{ap, ◌∙◌, ◌++◌}
use Rattle.std.specs.Prelude.{filter, not, ◌==◌}
use Rattle.lie_readback.proofs.DraftSteps.{names_more, names_done}
use Rattle.lie_readback.proofs.drafts.push_names.Goals as goal

pub loop-byte-preserved : goal.loop-byte-preserved
loop-byte-preserved c = names_more c.behind-letters.result.now c.loop-byte.byte-index c.loop-byte.names.items c.push_name.new.names.items _ c.loop-byte-test.true c.in_ok-push_name.ensures c.loop-byte.invariant

pub returns : goal.returns
returns c =
    names_done c.behind-letters.result.now c.loop-byte.byte-index c.loop-byte.names.items _ c.loop-byte-test.false c.loop-byte.invariant
    ∙ ap (λ l. c.args.names.now.items ++ filter (λ b. not (b == 32)) l) c.behind-letters.ensures
