use Rattle.std.proofs.Common.{refl}
use Rattle.lie_readback.proofs.DraftSteps.{general_lines, equation_lines}
use Rattle.lie_readback.proofs.drafts.split_forms.Goals as goal

pub returns-clause-general : goal.returns-clause-general
returns-clause-general c = general_lines c.args.lines.now c.args.count

pub returns-clause-equations : goal.returns-clause-equations
returns-clause-equations c = equation_lines c.args.lines.now c.args.count _ refl
