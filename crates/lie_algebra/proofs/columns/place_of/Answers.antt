use Rattle.std.proofs.Common.{rules, ◌≡◌}
use Rattle.std.proofs.lemmas.Fn.{always_returns_same}
use Rattle.lie_spans.specs.Fields.{Column, column_cmp}
use Rattle.lie_algebra.proofs.ColumnLists.{column_searched}
use Rattle.lie_algebra.proofs.columns.place_of.Goals as goal

pub returns : goal.returns
returns c =
    column_searched c.args.column.now c.args.columns.now c.binary_search_by.result c.requires c.binary_search_by.ensures.bound
    (c.binary_search_by.ensures.position (λ (k : Column). column_cmp k c.args.column.now)
    (always_returns_same _ (λ a r. r ≡ column_cmp a.0.now c.args.column.now) _ (λ a r f' k. search rules)))
