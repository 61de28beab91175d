use Rattle.lie_geometry.proofs.WorkedValues.{jet_numbers}
use Rattle.lie_geometry.proofs.examples.jet_numbers.Goals as goal

pub returns : goal.returns
returns c = jet_numbers
