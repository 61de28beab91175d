use Rattle.std.proofs.Common.{sym, ap, ap₂, subst, ◌∙◌, arith}
use Rattle.std.proofs.lemmas.Result.{err_from_is_err_and}
use Rattle.std.specs.Prelude.{ℕ, ◌≡◌, ◌+◌, ◌-◌, ◌++◌, ◌≤◌, length}
use Rattle.std.specs.List.{AllByRecursion as Every}
use Rattle.std.specs.List.Sorted.{IsStrictlySortedBy}
use Rattle.lie_math.specs.Limits.{HasLowExponents}
use Rattle.lie_math.specs.Monomial.{degree}
use Rattle.lie_math.proofs.EveryElement.{every-weaken}
use Rattle.lie_algebra.specs.ColumnLists.{AreColumnsOf, IsColumnsCause}
use Rattle.lie_algebra.proofs.ColumnLists.{IsSameColumns, gather_start, gather_step, gather_end, gather_cause, no_column_sorted}
use Rattle.lie_spans.specs.Fields.{column_cmp}
use Rattle.lie_degree.specs.Columns.{columns_in, columns_from, monomials_to}
use Rattle.lie_degree.proofs.Loops.{from_more, from_none}
use Rattle.lie_degree.proofs.MonomialLists.{degrees_low}
use Rattle.lie_degree.proofs.SmallTerms.{low_of_degree}
use Rattle.lie_degree.proofs.columns.degree_columns.Goals as goal

whole : (n : ℕ) → n - 0 ≡ n
whole n = omega arith

pub loop-component-init : goal.loop-component-init
loop-component-init c = record {
  sorted = subst (IsStrictlySortedBy column_cmp) (sym c.new-columns.ensures.items) no_column_sorted;
  few = omega (arith, ap length c.new-columns.ensures.items);
  same = gather_start _ _
      (ap₂ (λ ks n. ks ++ columns_from 0 n (monomials_to c.args.count c.args.highest)) c.new-columns.ensures.items (whole c.args.count));
}

pub insert_component-requires-clause-low : goal.insert_component-requires-clause-low
insert_component-requires-clause-low c =
    subst (Every HasLowExponents) (sym (c.as_slice.ensures.value ∙ c.in_ok-monos.ensures))
    (every-weaken (λ m. degree m ≤ c.args.highest) HasLowExponents (λ m l. low_of_degree m (omega (arith, l, c.requires)))
    (monomials_to c.args.count c.args.highest) (degrees_low c.args.highest c.args.count))

pub loop-component-preserved : goal.loop-component-preserved
loop-component-preserved c =
    let ms = monomials_to c.args.count c.args.highest in
    record {
      sorted = c.in_ok-insert_component.ensures.inserted.sorted;
      few = c.in_ok-insert_component.ensures.few;
      same = gather_step c.loop-component.columns.items (columns_in c.loop-component.component ms)
          (columns_from (c.loop-component.component + 1) (c.args.count - (c.loop-component.component + 1)) ms) _
          c.insert_component.new.columns.items
          (subst (λ xs. AreColumnsOf
          (c.loop-component.columns.items ++ columns_in c.loop-component.component xs) c.insert_component.new.columns.items)
          (c.as_slice.ensures.value ∙ c.in_ok-monos.ensures) c.in_ok-insert_component.ensures.inserted)
          (subst (λ xs. IsSameColumns (c.loop-component.columns.items ++ xs) (columns_from 0 c.args.count ms))
          (from_more c.loop-component.component c.args.count ms (omega arith)) c.loop-component.invariant.same);
    }

pub returns-in_err-insert_component-clause-cause : goal.returns-in_err-insert_component-clause-cause
returns-in_err-insert_component-clause-cause c =
    let ms = monomials_to c.args.count c.args.highest in
    let p = err_from_is_err_and c.from_residual-in_err-insert_component.result c.from_residual-in_err-insert_component.ensures.1 in
    rw (p.1, p.2) (gather_cause c.in_err-insert_component.field-0.0 c.loop-component.columns.items
    (columns_in c.loop-component.component ms)
    (columns_from (c.loop-component.component + 1) (c.args.count - (c.loop-component.component + 1)) ms) _
    (subst (λ xs. IsSameColumns (c.loop-component.columns.items ++ xs) (columns_from 0 c.args.count ms))
    (from_more c.loop-component.component c.args.count ms (omega arith)) c.loop-component.invariant.same)
    (subst (λ xs. IsColumnsCause c.in_err-insert_component.field-0.0
    (c.loop-component.columns.items ++ columns_in c.loop-component.component xs))
    (c.as_slice.ensures.value ∙ c.in_ok-monos.ensures) c.in_err-insert_component.ensures.cause))

pub returns-clause-columns : goal.returns-clause-columns
returns-clause-columns c =
    gather_end c.loop-component.columns.items
    (columns_from c.loop-component.component (c.args.count - c.loop-component.component) (monomials_to c.args.count c.args.highest)) _
    (from_none c.loop-component.component c.args.count (monomials_to c.args.count c.args.highest) (omega arith))
    c.loop-component.invariant.sorted c.loop-component.invariant.same
