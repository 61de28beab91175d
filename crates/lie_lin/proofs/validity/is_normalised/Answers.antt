use Rattle.std.proofs.Common.{sym, ◌∙◌}
use Rattle.lie_lin.proofs.SystemSteps.{not_empty}
use Rattle.lie_lin.proofs.ValidParts.{empty_not_normalised, primitive_is, primitive_less, primitive_greater}
use Rattle.lie_lin.proofs.validity.is_normalised.Goals as goal

pub returns-then-terms-eq0 : goal.returns-then-terms-eq0
returns-then-terms-eq0 c = empty_not_normalised c.args.eq.now c.terms.result.now c.terms.ensures.list c.if-terms-eq0.true

pub returns-in-Equal : goal.returns-in-Equal
returns-in-Equal c = primitive_is c.args.eq.now c.in_ok-made.made (not_empty c.args.eq.now c.terms.result.now c.terms.ensures.list c.if-terms-eq0.false) c.in_ok-made.ensures (sym c.in_ok-compare_equations.ensures ∙ c.in-Equal.is)

pub returns-in-Less : goal.returns-in-Less
returns-in-Less c = primitive_less c.args.eq.now c.in_ok-made.made c.in_ok-made.ensures (sym c.in_ok-compare_equations.ensures ∙ c.in-Less.is)

pub returns : goal.returns
returns c = primitive_greater c.args.eq.now c.in_ok-made.made c.in_ok-made.ensures (sym c.in_ok-compare_equations.ensures ∙ c.in-Greater.is)
