use Rattle.std.proofs.Common.{◌≡◌, ◌<◌, [], ◌∷◌, ◌++◌, ◌∙◌, ap, sym, subst, subst₂, arith, length, pos}
use Rattle.std.proofs.lemmas.Result.{err_from_is_err_and}
use Rattle.lie_spans.specs.Bulks.{clearing_bulks, kept_with_bulks}
use Rattle.lie_spans.specs.Elimination.{cleared_rows}
use Rattle.lie_spans.specs.KeptRows.{last_column}
use Rattle.lie_spans.specs.Rows.{entry, HaveLength}
use Rattle.lie_rows.specs.Causes.{AreWithin}
use Rattle.lie_rows.specs.Rows.{rows_of}
use Rattle.lie_rows.proofs.Causes.{cause_of}
use Rattle.lie_rows.proofs.Keeping.{leftover_inside, leftover_counts, leftover_lengths, leftover_items, leftover_ends, leftover_fits, leftover_part}
use Rattle.lie_rows.proofs.RowLists.{rows_of_append}
use Rattle.lie_rows.proofs.kept.kept_with.Goals as goal

pub cleared_rows-requires-clause-inside : goal.cleared_rows-requires-clause-inside
cleared_rows-requires-clause-inside c = subst₂ (λ j p. j < length p) (sym (c.last_column-column.ensures ∙ ap last_column c.deref.ensures.value)) (sym c.deref-2.ensures.value) (leftover_inside c.args.columns c.args.kept.rows.items c.args.left.items c.remove-row.result (omega (arith, c.remove-row.ensures.len, c.args.left.ok.0)) c.remove-row.ensures.value c.requires.left_over)

pub cleared_rows-requires-clause-pivot_entry : goal.cleared_rows-requires-clause-pivot_entry
cleared_rows-requires-clause-pivot_entry c = subst₂ (λ j p. ¬ (entry p j ≡ pos 0)) (sym (c.last_column-column.ensures ∙ ap last_column c.deref.ensures.value)) (sym c.deref-2.ensures.value) (leftover_counts c.args.columns c.args.kept.rows.items c.args.left.items c.remove-row.result (omega (arith, c.remove-row.ensures.len, c.args.left.ok.0)) c.remove-row.ensures.value c.requires.left_over)

pub cleared_rows-requires-clause-lengths : goal.cleared_rows-requires-clause-lengths
cleared_rows-requires-clause-lengths c = subst (λ p. HaveLength (length p) (rows_of c.args.kept.rows.items)) (sym c.deref-2.ensures.value) (leftover_lengths c.args.columns c.args.kept.rows.items c.args.left.items c.remove-row.result (omega (arith, c.remove-row.ensures.len, c.args.left.ok.0)) c.remove-row.ensures.value c.requires.left_over c.requires.kept_rows)

pub returns-in_err-rows-clause-cause : goal.returns-in_err-rows-clause-cause
returns-in_err-rows-clause-cause c =
    let p = err_from_is_err_and c.from_residual.result c.from_residual.ensures.1 in
    rw (p.1, p.2) (cause_of c.in_err-rows.field-0.0 (clearing_bulks c.deref-2.result.now c.last_column-column.result (rows_of c.args.kept.rows.items)) (kept_with_bulks (rows_of c.args.kept.rows.items) (rows_of c.args.left.items))
    (λ w. subst₂ (λ j r. AreWithin (clearing_bulks r j (rows_of c.args.kept.rows.items))) (sym (c.last_column-column.ensures ∙ ap last_column c.deref.ensures.value)) (sym c.deref-2.ensures.value) (leftover_part c.args.columns c.args.kept.rows.items c.args.left.items c.remove-row.result (omega (arith, c.remove-row.ensures.len, c.args.left.ok.0)) c.remove-row.ensures.value c.requires.left_over w)) c.in_err-rows.ensures.cause)

pub returns-clause-items : goal.returns-clause-items
returns-clause-items c =
    leftover_items c.args.columns c.args.kept.rows.items c.args.left.items c.remove-row.result (omega (arith, c.remove-row.ensures.len, c.args.left.ok.0)) c.remove-row.ensures.value c.requires.left_over (rows_of c.in_ok-rows.rows.items) (rows_of c.push.new.self.items)
    (c.in_ok-rows.ensures.items ∙ (λ i. cleared_rows (c.deref-2.ensures.value i) ((c.last_column-column.ensures ∙ ap last_column c.deref.ensures.value) i) (rows_of c.args.kept.rows.items)))
    (ap rows_of c.in_ok-push.ensures.items ∙ rows_of_append c.in_ok-rows.rows.items (c.remove-row.result ∷ []))

pub returns-clause-ends : goal.returns-clause-ends
returns-clause-ends c =
    leftover_ends c.args.columns c.args.kept.rows.items c.args.left.items c.remove-row.result (omega (arith, c.remove-row.ensures.len, c.args.left.ok.0)) c.remove-row.ensures.value c.requires.left_over c.requires.kept_rows c.args.kept.ends.items c.push-2.new.self.items c.requires.ends (c.in_ok-push-2.ensures.items ∙ ap (λ n. c.args.kept.ends.items ++ n ∷ []) (c.last_column-column.ensures ∙ ap last_column c.deref.ensures.value))
    (rows_of c.in_ok-rows.rows.items) (rows_of c.push.new.self.items)
    (c.in_ok-rows.ensures.items ∙ (λ i. cleared_rows (c.deref-2.ensures.value i) ((c.last_column-column.ensures ∙ ap last_column c.deref.ensures.value) i) (rows_of c.args.kept.rows.items)))
    (ap rows_of c.in_ok-push.ensures.items ∙ rows_of_append c.in_ok-rows.rows.items (c.remove-row.result ∷ []))

pub returns-clause-fits : goal.returns-clause-fits
returns-clause-fits c = leftover_fits c.args.columns c.args.kept.rows.items c.args.left.items c.remove-row.result (omega (arith, c.remove-row.ensures.len, c.args.left.ok.0)) c.remove-row.ensures.value c.requires.left_over (subst₂ (λ j r. AreWithin (clearing_bulks r j (rows_of c.args.kept.rows.items))) (c.last_column-column.ensures ∙ ap last_column c.deref.ensures.value) c.deref-2.ensures.value c.in_ok-rows.ensures.fits)
