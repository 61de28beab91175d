use Rattle.std.proofs.Common.{subst}
use Rattle.lie_fieldtext.specs.FieldAnswers.{IsSized}
use Rattle.lie_fieldtext.proofs.FieldSizes.{past_before}
use Rattle.lie_fieldtext.proofs.field_terms.with_sizes.Goals as goal

pub returns-in-None : goal.returns-in-None
returns-in-None c = past_before c.args.common c.args.terms.now c.args.term.now (subst (IsSized c.args.common c.args.terms.now) c.in-None.is c.in_ok-begun.ensures)
