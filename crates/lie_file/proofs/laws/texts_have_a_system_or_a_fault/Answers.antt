use Rattle.lie_file.proofs.FileFaults.{system_or_fault}
use Rattle.lie_file.proofs.laws.texts_have_a_system_or_a_fault.Goals as goal

pub returns : goal.returns
returns c = system_or_fault
