use Rattle.lie_fieldtext.proofs.FieldLaws.{one_field}
use Rattle.lie_fieldtext.proofs.laws.texts_have_one_field.Goals as goal

pub returns : goal.returns
returns c = one_field
