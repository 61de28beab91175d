use Rattle.lie_fieldtext.proofs.FieldLaws.{field_or_fault}
use Rattle.lie_fieldtext.proofs.laws.texts_have_a_field_or_a_fault.Goals as goal

pub returns : goal.returns
returns c = field_or_fault
