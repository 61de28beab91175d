use Rattle.lie_readback.proofs.Grouping.{sum_found, sum_fails}
use Rattle.lie_readback.proofs.forms.sum_of.Goals as goal

pub returns-in-Ok : goal.returns-in-Ok
returns-in-Ok c = λ P within told. sum_found c.args.terms.now c.in-Ok.sum P c.in-Ok.ensures.sum told

pub returns-in-Err-Past : goal.returns-in-Err-Past
returns-in-Err-Past c = λ P within told. sum_fails c.args.terms.now c.in-Err-Past.field-0-0 P (rw c.in-Err-Past.field-0-is at c.in-Err-Past.ensures.past) within told
