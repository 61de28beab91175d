use Rattle.lie_file.proofs.FileFaults.{one_fault}
use Rattle.lie_file.proofs.laws.texts_have_one_fault.Goals as goal

pub returns : goal.returns
returns c = one_fault
