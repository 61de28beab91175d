use Rattle.lie_fieldtext.proofs.FieldLaws.{one_field_fault}
use Rattle.lie_fieldtext.proofs.laws.field_texts_have_one_fault.Goals as goal

pub returns : goal.returns
returns c = one_field_fault
