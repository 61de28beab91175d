use Rattle.std.proofs.Common.{◌∙◌}
use Rattle.lie_system.specs.KeptSystems.{system_read}
use Rattle.lie_system.proofs.KeptEquations.{system_written}
use Rattle.lie_canonical.proofs.CanonicalFiles.{text_is_file, text_is_ascii}
use Rattle.lie_canonical.proofs.canonical_text.canonical.Goals as goal

pub unreachable-requires : goal.unreachable-requires
unreachable-requires c =
    (rw c.in-None.is at c.in_ok-text.ensures)
    (text_is_ascii (system_read c.args.system.now) c.as_slice.result.now (system_written c.args.system.now) (c.as_slice.ensures.value ∙ c.in_ok-bytes.ensures))

pub returns-clause-file : goal.returns-clause-file
returns-clause-file c =
    text_is_file (system_read c.args.system.now) c.in-Some.text (system_written c.args.system.now)
    ((rw c.in-Some.is at c.in_ok-text.ensures).0 ∙ c.as_slice.ensures.value ∙ c.in_ok-bytes.ensures)
