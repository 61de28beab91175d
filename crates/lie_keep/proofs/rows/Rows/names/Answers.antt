-- The names are those of a window of the rows.
use Rattle.std.proofs.Common.{◌≡◌, ◌-◌, sym, ap, subst, ◌∙◌, IfOk, take, drop, map, min}
use Rattle.lie_outer.specs.Rows.{name_of_row}
use Rattle.lie_keep.proofs.Windows.{window}
use Rattle.lie_keep.proofs.rows.Rows.names.Goals as goal

pub returns : goal.returns
returns c =
    let rows = c.deref.ensures.value ∙ c.self.view_is in
    let start = c.min-start.ensures ∙ ap (λ k. min c.args.from k) (c.len.ensures ∙ sym c.deref.ensures.len) in
    let count = c.min-count.ensures ∙ ap (λ k. min c.args.n (k - c.min-start.result)) (c.len-2.ensures ∙ sym c.deref.ensures.len) in
    subst (λ l. IfOk c.copied_names.result (λ names. names.items ≡ l)) (window name_of_row c.deref.result.now c.args.from c.args.n c.min-start.result c.min-count.result start count ∙ ap (λ l. take c.args.n (drop c.args.from (map name_of_row l))) rows) c.copied_names.ensures
