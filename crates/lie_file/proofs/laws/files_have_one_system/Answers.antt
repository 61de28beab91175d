use Rattle.lie_file.proofs.FileLaws.{one_system}
use Rattle.lie_file.proofs.laws.files_have_one_system.Goals as goal

pub returns : goal.returns
returns c = one_system
