use Rattle.lie_file.proofs.FileLaws.{file_names}
use Rattle.lie_file.proofs.laws.systems_name_each_variable.Goals as goal

pub returns : goal.returns
returns c = file_names
