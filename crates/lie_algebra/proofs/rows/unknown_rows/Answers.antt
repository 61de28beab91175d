use Rattle.std.specs.Prelude.{◌++◌, ◌<◌, map, length, get_or}
use Rattle.std.specs.List.{AllByRecursion as Every}
use Rattle.std.proofs.Common.{sym, subst, ap, ◌∙◌, arith}
use Rattle.lie_rows.specs.Rows.{rows_of}
use Rattle.lie_math.specs.LinearForm.{LinearForm}
use Rattle.std.specs.Prelude.{List}
use Rattle.lie_algebra.specs.ColumnLists.{unknown_entry}
use Rattle.lie_algebra.proofs.UnknownRows.{rows_from, rows_more, rows_end}
use Rattle.lie_algebra.proofs.rows.unknown_rows.Goals as goal

pub loop-unknown-init : goal.loop-unknown-init
loop-unknown-init c = ap (λ xs. rows_of xs ++ rows_from c.args.columns.now c.args.system.now.system.general c.unknowns-unknown-items.result.now) c.new-rows.ensures.items

pub unknown_row-requires-clause-general : goal.unknown_row-requires-clause-general
unknown_row-requires-clause-general c = subst (λ (Es : List LinearForm). 0 < length Es) (sym c.general.ensures) c.requires.general

pub unknown_row-requires-clause-inside : goal.unknown_row-requires-clause-inside
unknown_row-requires-clause-inside c = subst (λ (Es : List LinearForm). Every (λ k. k.0 < length Es) c.args.columns.now) (sym c.general.ensures) c.requires.inside

pub loop-unknown-preserved : goal.loop-unknown-preserved
loop-unknown-preserved c =
    rows_more c.args.columns.now c.args.system.now.system.general c.unknowns-unknown-items.result.now c.loop-unknown.unknown-index (record { number = 0; vars = 0 })
    c.in_ok-row.row c.loop-unknown.rows.items c.push.new.self.items (omega arith)
    (c.in_ok-row.ensures ∙ ap (λ (Es : List LinearForm). map (unknown_entry Es (get_or c.unknowns-unknown-items.result.now c.loop-unknown.unknown-index (record { number = 0; vars = 0 })).number) c.args.columns.now) c.general.ensures)
    c.in_ok-push.ensures.items c.loop-unknown.invariant

pub returns : goal.returns
returns c =
    rows_end c.args.columns.now c.args.system.now.system c.unknowns-unknown-items.result.now c.loop-unknown.unknown-index c.loop-unknown.rows.items c.unknowns-unknown-items.ensures
    (omega arith) c.loop-unknown.invariant
