use Rattle.std.proofs.Common.{sym, subst, ◌∙◌}
use Rattle.std.specs.List.{AllByRecursion as Every}
use Rattle.lie_math.specs.Limits.{HasLowExponents}
use Rattle.lie_jet.proofs.TotalParts.{entries_same}
use Rattle.lie_algebra.proofs.ColumnLists.{terms_low}
use Rattle.lie_algebra.proofs.columns.low_terms.Goals as goal

pub returns-clause-list : goal.returns-clause-list
returns-clause-list c = sym (entries_same c.in_ok-terms.terms.items) ∙ c.in_ok-terms.ensures

pub returns-clause-low : goal.returns-clause-low
returns-clause-low c =
    subst (Every (λ t. HasLowExponents t.0)) (sym (sym (entries_same c.in_ok-terms.terms.items) ∙ c.in_ok-terms.ensures))
    (terms_low c.args.coefficient.now c.is_within_limits.ensures)
