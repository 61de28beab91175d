use Rattle.std.specs.Prelude.{[], ◌∷◌, ◌++◌}
use Rattle.std.proofs.Common.{sym, subst, ap, ◌∙◌, arith}
use Rattle.std.proofs.lemmas.Result.{err_from_is_err_and}
use Rattle.std.specs.List.{AllByRecursion as Every}
use Rattle.lie_math.specs.Limits.{HasLowExponents}
use Rattle.lie_algebra.specs.ColumnLists.{term_columns, AreColumnsOf, IsColumnsCause}
use Rattle.lie_algebra.proofs.ColumnLists.{IsSameColumns, gather_start, gather_step, gather_end, gather_cause, no_columns}
use Rattle.lie_algebra.proofs.columns.insert_terms.Goals as goal

pub loop-mono-init : goal.loop-mono-init
loop-mono-init c = record {
  sorted = c.requires.sorted;
  few = c.requires.few;
  same = gather_start _ _ (ap (λ es. c.args.columns.now.items ++ term_columns c.args.component es) (c.into_iter-mono-iterator.ensures.into_iter_gives.0 ∙ c.in_ok-terms.ensures.list));
  low = subst (Every (λ t. HasLowExponents t.0)) (sym c.into_iter-mono-iterator.ensures.into_iter_gives.0) c.in_ok-terms.ensures.low;
}

pub new-requires : goal.new-requires
new-requires c = (subst (Every (λ t. HasLowExponents t.0)) c.in-Some.ensures.steps.0 c.loop-mono.invariant.low).0

pub loop-mono-preserved : goal.loop-mono-preserved
loop-mono-preserved c = record {
  sorted = c.in_ok-insert_column.ensures.inserted.sorted;
  few = c.in_ok-insert_column.ensures.few;
  same = gather_step c.loop-mono.columns.items _ (term_columns c.args.component c.next.new.self.rest.items) _ _
      (subst (λ k. AreColumnsOf (c.loop-mono.columns.items ++ k ∷ []) c.insert_column.new.columns.items) c.new.ensures c.in_ok-insert_column.ensures.inserted)
      (subst (λ es. IsSameColumns (c.loop-mono.columns.items ++ term_columns c.args.component es) (c.args.columns.now.items ++ term_columns c.args.component c.args.coefficient.now.list)) c.in-Some.ensures.steps.0 c.loop-mono.invariant.same);
  low = (subst (Every (λ t. HasLowExponents t.0)) c.in-Some.ensures.steps.0 c.loop-mono.invariant.low).1;
}

pub returns-in_err-insert_column-clause-cause : goal.returns-in_err-insert_column-clause-cause
returns-in_err-insert_column-clause-cause c =
    let p = err_from_is_err_and c.from_residual-in_err-insert_column.result c.from_residual-in_err-insert_column.ensures.1 in
    rw (p.1, p.2) (gather_cause c.in_err-insert_column.field-0.0 c.loop-mono.columns.items _ (term_columns c.args.component c.next.new.self.rest.items) _
    (subst (λ es. IsSameColumns (c.loop-mono.columns.items ++ term_columns c.args.component es) (c.args.columns.now.items ++ term_columns c.args.component c.args.coefficient.now.list)) c.in-Some.ensures.steps.0 c.loop-mono.invariant.same)
    (subst (λ k. IsColumnsCause c.in_err-insert_column.field-0.0 (c.loop-mono.columns.items ++ k ∷ [])) c.new.ensures c.in_err-insert_column.ensures.cause))

pub returns-clause-inserted : goal.returns-clause-inserted
returns-clause-inserted c =
    let o = c.loop-mono.mono-iterator.rest.ok in
    gather_end c.loop-mono.columns.items (term_columns c.args.component c.loop-mono.mono-iterator.rest.items) _
    (no_columns c.args.component c.loop-mono.mono-iterator.rest.items (omega (arith, o, c.in-None.ensures.steps.0))) c.loop-mono.invariant.sorted c.loop-mono.invariant.same
