use Rattle.std.specs.Prelude.{◌++◌}
use Rattle.std.proofs.Common.{sym, ap, subst, arith}
use Rattle.lie_algebra.specs.ColumnLists.{nonzero_row_terms, AreLowTerms}
use Rattle.lie_algebra.proofs.RowFields.{terms_more, terms_end}
use Rattle.lie_algebra.proofs.fields.terms_in.Goals as goal

pub loop-i-init : goal.loop-i-init
loop-i-init c = record {
  terms = ap (λ es. es ++ nonzero_row_terms c.args.component c.args.columns.now c.args.row.now) c.new-list.ensures.items;
  low = subst AreLowTerms (sym c.new-list.ensures.items) tt;
}

pub loop-i-preserved : goal.loop-i-preserved
loop-i-preserved c = record {
  terms = terms_more c.args.component c.args.columns.now c.args.row.now c.loop-i.i c.index-columns-i.result c.index-row-i.result c.loop-i.list.items
      c.push_number.new.list.items (omega (arith, c.requires)) (omega arith) c.index-columns-i.is c.index-row-i.is c.in_ok-push_number.ensures.terms c.loop-i.invariant.terms;
  low = c.in_ok-push_number.ensures.fits c.loop-i.invariant.low;
}

pub returns-clause-terms : goal.returns-clause-terms
returns-clause-terms c =
    terms_end c.args.component c.args.columns.now c.args.row.now c.loop-i.i c.loop-i.list.items (omega (arith, c.requires)) c.loop-i.invariant.terms

pub returns-clause-fits : goal.returns-clause-fits
returns-clause-fits c = c.loop-i.invariant.low
