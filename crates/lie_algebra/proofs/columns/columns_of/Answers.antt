use Rattle.std.specs.Prelude.{◌≤◌, ◌+◌, ◌++◌, drop, length}
use Rattle.std.proofs.Common.{refl, sym, subst, ap, arith}
use Rattle.std.proofs.lemmas.Result.{err_from_is_err_and}
use Rattle.std.specs.List.Sorted.{IsStrictlySortedBy}
use Rattle.lie_systems.specs.Works.{greatest_column_count}
use Rattle.lie_spans.specs.Fields.{column_cmp}
use Rattle.lie_algebra.specs.ColumnLists.{form_columns, listed_columns, AreColumnsOf, IsColumnsCause}
use Rattle.lie_algebra.proofs.ColumnLists.{IsSameColumns, no_column_sorted, gather_start, gather_step, gather_end, gather_cause}
use Rattle.lie_algebra.proofs.FormColumns.{forms_more, forms_none}
use Rattle.lie_algebra.proofs.columns.columns_of.Goals as goal

pub loop-form-init : goal.loop-form-init
loop-form-init c = record {
  sorted = subst (IsStrictlySortedBy column_cmp) (sym c.new-columns.ensures.items) no_column_sorted;
  few = subst (λ ks. length ks ≤ greatest_column_count) (sym c.new-columns.ensures.items) (omega arith);
  same = gather_start _ _ (ap (λ ks. ks ++ listed_columns 0 c.args.general.now) c.new-columns.ensures.items);
  component = refl;
}

pub loop-form-preserved : goal.loop-form-preserved
loop-form-preserved c = record {
  sorted = c.in_ok-insert_form.ensures.inserted.sorted;
  few = c.in_ok-insert_form.ensures.few;
  same = gather_step c.loop-form.columns.items (form_columns c.loop-form.form-index c.form-item.result)
      (listed_columns (c.loop-form.form-index + 1) (drop (c.loop-form.form-index + 1) c.args.general.now)) _ _
      (subst (λ s. AreColumnsOf (c.loop-form.columns.items ++ form_columns s c.form-item.result) c.insert_form.new.columns.items) c.loop-form.invariant.component c.in_ok-insert_form.ensures.inserted)
      (subst (λ ks. IsSameColumns (c.loop-form.columns.items ++ ks) (listed_columns 0 c.args.general.now))
      (forms_more c.args.general.now c.loop-form.form-index c.form-item.result (omega arith) c.form-item.is) c.loop-form.invariant.same);
  component = ap (λ n. n + 1) c.loop-form.invariant.component;
}

pub returns-in_err-insert_form-clause-cause : goal.returns-in_err-insert_form-clause-cause
returns-in_err-insert_form-clause-cause c =
    let p = err_from_is_err_and c.from_residual.result c.from_residual.ensures.1 in
    rw (p.1, p.2) (gather_cause c.in_err-insert_form.field-0.0 c.loop-form.columns.items (form_columns c.loop-form.form-index c.form-item.result)
    (listed_columns (c.loop-form.form-index + 1) (drop (c.loop-form.form-index + 1) c.args.general.now)) _
    (subst (λ ks. IsSameColumns (c.loop-form.columns.items ++ ks) (listed_columns 0 c.args.general.now))
    (forms_more c.args.general.now c.loop-form.form-index c.form-item.result (omega arith) c.form-item.is) c.loop-form.invariant.same)
    (subst (λ s. IsColumnsCause c.in_err-insert_form.field-0.0 (c.loop-form.columns.items ++ form_columns s c.form-item.result)) c.loop-form.invariant.component c.in_err-insert_form.ensures.cause))

pub returns-clause-columns : goal.returns-clause-columns
returns-clause-columns c =
    gather_end c.loop-form.columns.items (listed_columns c.loop-form.form-index (drop c.loop-form.form-index c.args.general.now)) _
    (forms_none c.args.general.now c.loop-form.form-index c.loop-form.form-index (omega arith)) c.loop-form.invariant.sorted c.loop-form.invariant.same
