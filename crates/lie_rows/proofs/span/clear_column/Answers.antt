use Rattle.std.proofs.Common.{◌≡◌, ◌<◌, [], ◌∷◌, length, pos, ap, ap₂, sym, subst, subst₂, ◌∙◌}
use Rattle.std.proofs.lemmas.Result.{err_from_is_err_and}
use Rattle.lie_spans.specs.Bulks.{clearing_bulks, column_bulks}
use Rattle.lie_spans.specs.Elimination.{cleared_rows, first_with}
use Rattle.lie_spans.specs.Rows.{entry, HaveLength}
use Rattle.lie_rows.specs.Causes.{AreWithin}
use Rattle.lie_rows.specs.Rows.{rows_of}
use Rattle.lie_rows.proofs.Causes.{cause_of}
use Rattle.lie_rows.proofs.Clearing.{IsFirst, column_inside, column_counts, column_done, column_rest, column_part_done, column_part_rest, column_fits, column_items}
use Rattle.lie_rows.proofs.RowLists.{rows_of_append}
use Rattle.lie_rows.proofs.span.clear_column.Goals as goal

pub cleared_rows-requires-clause-inside : goal.cleared_rows-requires-clause-inside
cleared_rows-requires-clause-inside c = subst (λ p. c.args.column < length p) (sym c.deref-2.ensures.value) (column_inside c.args.column c.args.columns c.args.rows.pivots.items c.args.rows.others.items c.in-Some.i c.remove-pivot.result (subst (IsFirst c.args.column c.in-Some.i) c.deref.ensures.value c.in-Some.ensures) c.remove-pivot.ensures.value c.requires.pivot_lengths c.requires.other_lengths c.requires.inside)

pub cleared_rows-requires-clause-pivot_entry : goal.cleared_rows-requires-clause-pivot_entry
cleared_rows-requires-clause-pivot_entry c = subst (λ p. ¬ (entry p c.args.column ≡ pos 0)) (sym c.deref-2.ensures.value) (column_counts c.args.column c.args.columns c.args.rows.pivots.items c.args.rows.others.items c.in-Some.i c.remove-pivot.result (subst (IsFirst c.args.column c.in-Some.i) c.deref.ensures.value c.in-Some.ensures) c.remove-pivot.ensures.value c.requires.pivot_lengths c.requires.other_lengths c.requires.inside)

pub cleared_rows-requires-clause-lengths : goal.cleared_rows-requires-clause-lengths
cleared_rows-requires-clause-lengths c = subst (λ p. HaveLength (length p) (rows_of c.args.rows.pivots.items)) (sym c.deref-2.ensures.value) (column_done c.args.column c.args.columns c.args.rows.pivots.items c.args.rows.others.items c.in-Some.i c.remove-pivot.result (subst (IsFirst c.args.column c.in-Some.i) c.deref.ensures.value c.in-Some.ensures) c.remove-pivot.ensures.value c.requires.pivot_lengths c.requires.other_lengths c.requires.inside)

pub returns-in_err-pivots-clause-cause : goal.returns-in_err-pivots-clause-cause
returns-in_err-pivots-clause-cause c =
    let p = err_from_is_err_and c.from_residual.result c.from_residual.ensures.1 in
    rw (p.1, p.2) (cause_of c.in_err-pivots.field-0.0 (clearing_bulks c.deref-2.result.now c.args.column (rows_of c.args.rows.pivots.items)) (column_bulks c.args.column (rows_of c.args.rows.pivots.items) (first_with c.args.column (rows_of c.args.rows.others.items)))
    (λ w. subst (λ r. AreWithin (clearing_bulks r c.args.column (rows_of c.args.rows.pivots.items))) (sym c.deref-2.ensures.value) (column_part_done c.args.column c.args.columns c.args.rows.pivots.items c.args.rows.others.items c.in-Some.i c.remove-pivot.result (subst (IsFirst c.args.column c.in-Some.i) c.deref.ensures.value c.in-Some.ensures) c.remove-pivot.ensures.value c.requires.pivot_lengths c.requires.other_lengths c.requires.inside w))
    c.in_err-pivots.ensures.cause)

pub cleared_rows-requires-2-clause-inside : goal.cleared_rows-requires-2-clause-inside
cleared_rows-requires-2-clause-inside c = subst (λ p. c.args.column < length p) (sym c.deref-3.ensures.value) (column_inside c.args.column c.args.columns c.args.rows.pivots.items c.args.rows.others.items c.in-Some.i c.remove-pivot.result (subst (IsFirst c.args.column c.in-Some.i) c.deref.ensures.value c.in-Some.ensures) c.remove-pivot.ensures.value c.requires.pivot_lengths c.requires.other_lengths c.requires.inside)

pub cleared_rows-requires-2-clause-pivot_entry : goal.cleared_rows-requires-2-clause-pivot_entry
cleared_rows-requires-2-clause-pivot_entry c = subst (λ p. ¬ (entry p c.args.column ≡ pos 0)) (sym c.deref-3.ensures.value) (column_counts c.args.column c.args.columns c.args.rows.pivots.items c.args.rows.others.items c.in-Some.i c.remove-pivot.result (subst (IsFirst c.args.column c.in-Some.i) c.deref.ensures.value c.in-Some.ensures) c.remove-pivot.ensures.value c.requires.pivot_lengths c.requires.other_lengths c.requires.inside)

pub cleared_rows-requires-2-clause-lengths : goal.cleared_rows-requires-2-clause-lengths
cleared_rows-requires-2-clause-lengths c = subst₂ (λ p xs. HaveLength (length p) (rows_of xs)) (sym c.deref-3.ensures.value) (sym c.remove-pivot.ensures.items) (column_rest c.args.column c.args.columns c.args.rows.pivots.items c.args.rows.others.items c.in-Some.i c.remove-pivot.result (subst (IsFirst c.args.column c.in-Some.i) c.deref.ensures.value c.in-Some.ensures) c.remove-pivot.ensures.value c.requires.pivot_lengths c.requires.other_lengths c.requires.inside)

pub returns-in_err-others-clause-cause : goal.returns-in_err-others-clause-cause
returns-in_err-others-clause-cause c =
    let p = err_from_is_err_and c.from_residual-in_err-others.result c.from_residual-in_err-others.ensures.1 in
    rw (p.1, p.2) (cause_of c.in_err-others.field-0.0 (clearing_bulks c.deref-3.result.now c.args.column (rows_of c.remove-pivot.new.self.items)) (column_bulks c.args.column (rows_of c.args.rows.pivots.items) (first_with c.args.column (rows_of c.args.rows.others.items)))
    (λ w. subst₂ (λ r xs. AreWithin (clearing_bulks r c.args.column (rows_of xs))) (sym c.deref-3.ensures.value) (sym c.remove-pivot.ensures.items) (column_part_rest c.args.column c.args.columns c.args.rows.pivots.items c.args.rows.others.items c.in-Some.i c.remove-pivot.result (subst (IsFirst c.args.column c.in-Some.i) c.deref.ensures.value c.in-Some.ensures) c.remove-pivot.ensures.value c.requires.pivot_lengths c.requires.other_lengths c.requires.inside w))
    c.in_err-others.ensures.cause)

pub returns-clause-items : goal.returns-clause-items
returns-clause-items c =
    column_items c.args.column c.args.columns c.args.rows.pivots.items c.args.rows.others.items c.in-Some.i c.remove-pivot.result (subst (IsFirst c.args.column c.in-Some.i) c.deref.ensures.value c.in-Some.ensures) c.remove-pivot.ensures.value c.requires.pivot_lengths c.requires.other_lengths c.requires.inside (rows_of c.in_ok-pivots.pivots.items) (rows_of c.in_ok-others.others.items) (rows_of c.push.new.self.items)
    (c.in_ok-pivots.ensures.items ∙ ap (λ p. cleared_rows p c.args.column (rows_of c.args.rows.pivots.items)) c.deref-2.ensures.value)
    (ap rows_of c.in_ok-push.ensures.items ∙ rows_of_append c.in_ok-pivots.pivots.items (c.remove-pivot.result ∷ []))
    (c.in_ok-others.ensures.items ∙ ap₂ (λ p xs. cleared_rows p c.args.column (rows_of xs)) c.deref-3.ensures.value c.remove-pivot.ensures.items)

pub returns-clause-fits : goal.returns-clause-fits
returns-clause-fits c =
    column_fits c.args.column c.args.columns c.args.rows.pivots.items c.args.rows.others.items c.in-Some.i c.remove-pivot.result (subst (IsFirst c.args.column c.in-Some.i) c.deref.ensures.value c.in-Some.ensures) c.remove-pivot.ensures.value c.requires.pivot_lengths c.requires.other_lengths c.requires.inside
    (subst (λ p. AreWithin (clearing_bulks p c.args.column (rows_of c.args.rows.pivots.items))) c.deref-2.ensures.value c.in_ok-pivots.ensures.fits)
    (subst₂ (λ p xs. AreWithin (clearing_bulks p c.args.column (rows_of xs))) c.deref-3.ensures.value c.remove-pivot.ensures.items c.in_ok-others.ensures.fits)
