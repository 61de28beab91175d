use Rattle.std.proofs.Common.{◌≡◌, [], ◌∷◌, ◌∙◌, ap, ap₂, sym, subst, subst₂, arith, length, map, refl}
use Rattle.std.proofs.lemmas.Result.{err_from_is_err_and}
use Rattle.lie_spans.specs.Bulks.{lowered_bulks, kept_with_bulks, kept_bulks}
use Rattle.lie_spans.specs.Content.{nonzero_row}
use Rattle.lie_spans.specs.KeptRows.{lowered_rows, kept_with}
use Rattle.lie_rows.specs.Causes.{AreWithin}
use Rattle.lie_rows.specs.Rows.{rows_of, AreEnds, AreLeftOver}
use Rattle.lie_rows.proofs.Causes.{cause_of}
use Rattle.lie_rows.proofs.Keeping.{Keeping, keeping_start, keeping_length, keeping_left_over, keeping_part_lower, keeping_part_with, keeping_more, keeping_end}
use Rattle.lie_rows.proofs.kept.kept_rows.Goals as goal

pub lowered_row-requires-clause-length : goal.lowered_row-requires-clause-length
lowered_row-requires-clause-length c = ap length c.deref.ensures.value ∙ keeping_length c.args.columns c.args.rows.now c.loop-row.row-index (rows_of c.loop-row.kept.rows.items) c.loop-row.invariant.state c.row-item.result (omega arith) c.row-item.is c.requires

pub kept_with-requires-clause-left_over : goal.kept_with-requires-clause-left_over
kept_with-requires-clause-left_over c = subst (AreLeftOver c.args.columns (rows_of c.loop-row.kept.rows.items)) (sym (c.in_ok-left.ensures.items ∙ ap (λ r. lowered_rows c.args.columns (rows_of c.loop-row.kept.rows.items) (nonzero_row r)) c.deref.ensures.value)) (keeping_left_over c.args.columns c.args.rows.now c.loop-row.row-index (rows_of c.loop-row.kept.rows.items) c.loop-row.invariant.state c.row-item.result (omega arith) c.row-item.is c.requires)

pub returns-in_err-left-clause-cause : goal.returns-in_err-left-clause-cause
returns-in_err-left-clause-cause c =
    let p = err_from_is_err_and c.from_residual.result c.from_residual.ensures.1 in
    rw (p.1, p.2) (cause_of c.in_err-left.field-0.0 (lowered_bulks c.args.columns (rows_of c.loop-row.kept.rows.items) (nonzero_row c.deref.result.now)) (kept_bulks c.args.columns [] (rows_of c.args.rows.now))
    (λ w. subst (λ r. AreWithin (lowered_bulks c.args.columns (rows_of c.loop-row.kept.rows.items) (nonzero_row r))) (sym c.deref.ensures.value) (keeping_part_lower c.args.columns c.args.rows.now c.loop-row.row-index (rows_of c.loop-row.kept.rows.items) c.loop-row.invariant.state c.row-item.result (omega arith) c.row-item.is c.requires w)) c.in_err-left.ensures.cause)

pub returns-in_err-next-clause-cause : goal.returns-in_err-next-clause-cause
returns-in_err-next-clause-cause c =
    let p = err_from_is_err_and c.from_residual-in_err-next.result c.from_residual-in_err-next.ensures.1 in
    rw (p.1, p.2) (cause_of c.in_err-next.field-0.0 (kept_with_bulks (rows_of c.loop-row.kept.rows.items) (rows_of c.in_ok-left.left.items)) (kept_bulks c.args.columns [] (rows_of c.args.rows.now))
    (λ w. subst (λ ls. AreWithin (kept_with_bulks (rows_of c.loop-row.kept.rows.items) ls)) (sym (c.in_ok-left.ensures.items ∙ ap (λ r. lowered_rows c.args.columns (rows_of c.loop-row.kept.rows.items) (nonzero_row r)) c.deref.ensures.value)) (keeping_part_with c.args.columns c.args.rows.now c.loop-row.row-index (rows_of c.loop-row.kept.rows.items) c.loop-row.invariant.state c.row-item.result (omega arith) c.row-item.is c.requires w)) c.in_err-next.ensures.cause)

pub loop-row-init : goal.loop-row-init
loop-row-init c = record {
  state = subst (λ ks. Keeping c.args.columns c.args.rows.now 0 (rows_of ks)) (sym c.new.ensures.items) (keeping_start c.args.columns c.args.rows.now);
  ends = subst₂ (λ ks ns. AreEnds (rows_of ks) ns) (sym c.new.ensures.items) (sym c.new-2.ensures.items) refl;
}

pub loop-row-preserved : goal.loop-row-preserved
loop-row-preserved c = record {
  state = keeping_more c.args.columns c.args.rows.now c.loop-row.row-index (rows_of c.loop-row.kept.rows.items) c.loop-row.invariant.state c.row-item.result (omega arith) c.row-item.is c.requires (rows_of c.in_ok-next.next.rows.items) (c.in_ok-next.ensures.items ∙ ap (kept_with (rows_of c.loop-row.kept.rows.items)) (c.in_ok-left.ensures.items ∙ ap (λ r. lowered_rows c.args.columns (rows_of c.loop-row.kept.rows.items) (nonzero_row r)) c.deref.ensures.value))
      (subst (λ r. AreWithin (lowered_bulks c.args.columns (rows_of c.loop-row.kept.rows.items) (nonzero_row r))) c.deref.ensures.value c.in_ok-left.ensures.fits)
      (subst (λ ls. AreWithin (kept_with_bulks (rows_of c.loop-row.kept.rows.items) ls)) (c.in_ok-left.ensures.items ∙ ap (λ r. lowered_rows c.args.columns (rows_of c.loop-row.kept.rows.items) (nonzero_row r)) c.deref.ensures.value) c.in_ok-next.ensures.fits);
  ends = c.in_ok-next.ensures.ends;
}

pub returns-clause-items : goal.returns-clause-items
returns-clause-items c = (keeping_end c.args.columns c.args.rows.now c.loop-row.row-index (rows_of c.loop-row.kept.rows.items) (omega arith) c.loop-row.invariant.state).0

pub returns-clause-fits : goal.returns-clause-fits
returns-clause-fits c = (keeping_end c.args.columns c.args.rows.now c.loop-row.row-index (rows_of c.loop-row.kept.rows.items) (omega arith) c.loop-row.invariant.state).1
