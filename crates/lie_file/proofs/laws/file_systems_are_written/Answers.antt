use Rattle.lie_file.proofs.FileEquations.{file_is_written}
use Rattle.lie_file.proofs.laws.file_systems_are_written.Goals as goal

pub returns : goal.returns
returns c = file_is_written
