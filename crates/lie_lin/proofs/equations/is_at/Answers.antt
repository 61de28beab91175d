use Rattle.std.proofs.Common.{sym, ◌∙◌}
use Rattle.lie_lin.proofs.EquationTies.{tie_at, less_at, greater_at}
use Rattle.lie_lin.proofs.equations.is_at.Goals as goal

pub returns-in-Equal : goal.returns-in-Equal
returns-in-Equal c = tie_at c.args.equations.now c.args.place c.args.eq.now c.index-equations-place.result c.requires c.index-equations-place.is (sym c.in_ok-compare_equations.ensures ∙ c.in-Equal.is)

pub returns-in-Less : goal.returns-in-Less
returns-in-Less c = less_at c.args.equations.now c.args.place c.args.eq.now c.index-equations-place.result c.requires c.index-equations-place.is (sym c.in_ok-compare_equations.ensures ∙ c.in-Less.is)

pub returns-in-Greater : goal.returns-in-Greater
returns-in-Greater c = greater_at c.args.equations.now c.args.place c.args.eq.now c.index-equations-place.result c.requires c.index-equations-place.is (sym c.in_ok-compare_equations.ensures ∙ c.in-Greater.is)
