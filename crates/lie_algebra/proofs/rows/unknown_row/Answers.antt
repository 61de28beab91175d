use Rattle.std.specs.Prelude.{◌++◌, ◌<◌, map, length}
use Rattle.std.proofs.Common.{sym, subst, ap, ◌∙◌, arith}
use Rattle.lie_math.specs.FiniteSum.{IsCanonical}
use Rattle.lie_math.specs.Polynomial.{coefficient, terms}
use Rattle.lie_math.proofs.EveryElement.{every_at}
use Rattle.lie_algebra.specs.ColumnLists.{unknown_coefficient, unknown_entry}
use Rattle.lie_algebra.proofs.UnknownRows.{number_of_terms, row_more, row_end}
use Rattle.lie_algebra.proofs.rows.unknown_row.Goals as goal

pub loop-column-init : goal.loop-column-init
loop-column-init c = record {
  row = ap (λ xs. xs ++ map (unknown_entry c.args.general.now c.args.unknown) c.args.columns.now) c.new-row.ensures.items;
  part = c.in_ok-part.ensures.terms ∙ ap (λ s. (unknown_coefficient c.args.general.now c.args.unknown s).list) (sym c.in_ok-part.ensures.component);
}

pub part_at-requires-clause-inside : goal.part_at-requires-clause-inside
part_at-requires-clause-inside c =
    subst (λ s. s < length c.args.general.now) (sym c.component.ensures)
    (every_at (λ k. k.0 < length c.args.general.now) c.args.columns.now c.loop-column.column-index c.column-item.result (omega arith) c.column-item.is c.requires.inside)

pub number_at-requires : goal.number_at-requires
number_at-requires c =
    subst (IsCanonical terms) (sym (c.as_slice.ensures.value ∙ c.in_ok-next.ensures.terms)) (unknown_coefficient c.args.general.now c.args.unknown c.component.result).canonical

pub loop-column-preserved : goal.loop-column-preserved
loop-column-preserved c = record {
  row = row_more (unknown_entry c.args.general.now c.args.unknown) c.args.columns.now c.loop-column.column-index c.column-item.result c.number_at.result c.loop-column.row.items
      c.push.new.self.items (omega arith) c.column-item.is
      (c.number_at.ensures ∙ number_of_terms _ (unknown_coefficient c.args.general.now c.args.unknown c.component.result) _ c.column-item.result.1 (c.as_slice.ensures.value ∙ c.in_ok-next.ensures.terms) c.mono.ensures.mono
      ∙ ap (λ s. coefficient (unknown_coefficient c.args.general.now c.args.unknown s) c.column-item.result.1) c.component.ensures)
      c.in_ok-push.ensures.items c.loop-column.invariant.row;
  part = c.in_ok-next.ensures.terms ∙ ap (λ s. (unknown_coefficient c.args.general.now c.args.unknown s).list) (sym c.in_ok-next.ensures.component);
}

pub returns : goal.returns
returns c = row_end (unknown_entry c.args.general.now c.args.unknown) c.args.columns.now c.loop-column.column-index c.loop-column.row.items (omega arith) c.loop-column.invariant.row
