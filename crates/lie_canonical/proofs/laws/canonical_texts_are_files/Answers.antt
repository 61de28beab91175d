use Rattle.lie_canonical.proofs.CanonicalFiles.{written_is_file}
use Rattle.lie_canonical.proofs.laws.canonical_texts_are_files.Goals as goal

pub returns : goal.returns
returns c = written_is_file
