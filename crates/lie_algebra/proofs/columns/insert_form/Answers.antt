use Rattle.std.specs.Prelude.{◌+◌, ◌++◌, drop}
use Rattle.std.proofs.Common.{subst, ap, arith}
use Rattle.std.proofs.lemmas.Result.{err_from_is_err_and}
use Rattle.lie_algebra.specs.ColumnLists.{term_columns, form_columns}
use Rattle.lie_algebra.proofs.ColumnLists.{IsSameColumns, gather_start, gather_step, gather_end, gather_cause}
use Rattle.lie_algebra.proofs.FormColumns.{listed_in, listed_more, listed_none, listed_all}
use Rattle.lie_algebra.proofs.columns.insert_form.Goals as goal

pub loop-term-init : goal.loop-term-init
loop-term-init c = record {
  sorted = c.requires.sorted;
  few = c.requires.few;
  same = gather_start _ _ (ap (λ ks. c.args.columns.now.items ++ ks) (listed_all c.args.component c.args.form.now c.terms-term-items.result.now c.terms-term-items.ensures.list));
}

pub loop-term-preserved : goal.loop-term-preserved
loop-term-preserved c = record {
  sorted = c.in_ok-insert_terms.ensures.inserted.sorted;
  few = c.in_ok-insert_terms.ensures.few;
  same = gather_step c.loop-term.columns.items (term_columns c.args.component c.term-item.result.1.list)
      (listed_in c.args.component (drop (c.loop-term.term-index + 1) c.terms-term-items.result.now)) _ _ c.in_ok-insert_terms.ensures.inserted
      (subst (λ ks. IsSameColumns (c.loop-term.columns.items ++ ks) (c.args.columns.now.items ++ form_columns c.args.component c.args.form.now))
      (listed_more c.args.component c.terms-term-items.result.now c.loop-term.term-index c.term-item.result (omega arith) c.term-item.is) c.loop-term.invariant.same);
}

pub returns-in_err-insert_terms-clause-cause : goal.returns-in_err-insert_terms-clause-cause
returns-in_err-insert_terms-clause-cause c =
    let p = err_from_is_err_and c.from_residual.result c.from_residual.ensures.1 in
    rw (p.1, p.2) (gather_cause c.in_err-insert_terms.field-0.0 c.loop-term.columns.items (term_columns c.args.component c.term-item.result.1.list)
    (listed_in c.args.component (drop (c.loop-term.term-index + 1) c.terms-term-items.result.now)) _
    (subst (λ ks. IsSameColumns (c.loop-term.columns.items ++ ks) (c.args.columns.now.items ++ form_columns c.args.component c.args.form.now))
    (listed_more c.args.component c.terms-term-items.result.now c.loop-term.term-index c.term-item.result (omega arith) c.term-item.is) c.loop-term.invariant.same)
    c.in_err-insert_terms.ensures.cause)

pub returns-clause-inserted : goal.returns-clause-inserted
returns-clause-inserted c =
    gather_end c.loop-term.columns.items (listed_in c.args.component (drop c.loop-term.term-index c.terms-term-items.result.now)) _
    (listed_none c.args.component c.terms-term-items.result.now c.loop-term.term-index (omega arith)) c.loop-term.invariant.sorted c.loop-term.invariant.same
