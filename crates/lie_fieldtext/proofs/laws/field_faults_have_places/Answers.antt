use Rattle.lie_fieldtext.proofs.FieldPlaces.{faults_have_places}
use Rattle.lie_fieldtext.proofs.laws.field_faults_have_places.Goals as goal

pub returns : goal.returns
returns c = faults_have_places
