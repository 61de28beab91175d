use Rattle.std.proofs.Common.{sym, ◌∙◌}
use Rattle.lie_cross.proofs.EarliestForms.{comes_before, comes_behind, not_less_equal, not_less_greater}
use Rattle.lie_cross.proofs.parts.earlier.Goals as goal

pub returns-in-Less : goal.returns-in-Less
returns-in-Less c = λ Ps h s. comes_before Ps c.args.next s c.args.first h (sym c.in_ok-compare_equations.ensures ∙ c.in-Less.is)

pub returns-in-Equal : goal.returns-in-Equal
returns-in-Equal c = λ Ps h s. comes_behind Ps c.args.next s c.args.first h
    (not_less_equal c.args.next c.args.first (sym c.in_ok-compare_equations.ensures ∙ c.in-Equal.is))

pub returns-in-Greater : goal.returns-in-Greater
returns-in-Greater c = λ Ps h s. comes_behind Ps c.args.next s c.args.first h
    (not_less_greater c.args.next c.args.first (sym c.in_ok-compare_equations.ensures ∙ c.in-Greater.is))
