-- A file has one system.
use Rattle.lie_desk.proofs.CanonicalReports.{text_is_one}
use Rattle.lie_desk.proofs.laws.canonical_text_is_one.Goals as goal

pub returns : goal.returns
returns c = text_is_one
