use Rattle.lie_file.proofs.FaultPlaces.{faults_have_places}
use Rattle.lie_file.proofs.laws.faults_have_places.Goals as goal

pub returns : goal.returns
returns c = faults_have_places
