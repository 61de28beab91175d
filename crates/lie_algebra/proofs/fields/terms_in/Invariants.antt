use Rattle.std.specs.Prelude.{◌≡◌, ◌++◌, drop}
use Rattle.lie_algebra.specs.ColumnLists.{nonzero_row_terms, AreLowTerms}
use Rattle.lie_algebra.proofs.fields.terms_in.Given as goal

abbrev pub invariant-loop-i : goal.invariant-loop-i
invariant-loop-i l = record {
  terms : l.list.items ++ nonzero_row_terms l.component (drop l.i l.columns) (drop l.i l.row) ≡ nonzero_row_terms l.component l.columns l.row;
  low : AreLowTerms l.list.items;
}
