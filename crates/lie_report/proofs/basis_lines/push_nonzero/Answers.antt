use Rattle.std.proofs.Common.{sym, ap, ◌∙◌, ◌++◌}
use Rattle.lie_report.proofs.PairSteps.{left_out, put_first}
use Rattle.lie_report.proofs.basis_lines.push_nonzero.Goals as goal

pub returns-then-is_zero : goal.returns-then-is_zero
returns-then-is_zero c = λ rest. ap (λ l. c.args.text.now.items ++ l) (sym (left_out c.args.further c.args.number c.args.ratio rest (sym c.is_zero.ensures ∙ c.if-is_zero.true)))

pub returns : goal.returns
returns c = λ rest. put_first c.args.further c.args.number c.args.ratio rest c.args.text.now.items _ (sym c.is_zero.ensures ∙ c.if-is_zero.false) c.in_ok-push_multiple.ensures
