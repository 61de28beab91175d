use Rattle.std.proofs.Common.{◌≡◌, ◌∙◌, sym, arith, below_more, pos, true≢false}
use Rattle.lie_spans.specs.Rows.{entry}
use Rattle.lie_rows.specs.Rows.{row_at}
use Rattle.lie_rows.proofs.RowLists.{entry_inside, entry_at}
use Rattle.lie_rows.proofs.Clearing.{first_with_at, first_with_none}
use Rattle.lie_rows.proofs.rows.first_with.Goals as goal

pub index-requires : goal.index-requires
index-requires c =
    let l = entry_inside c.args.rows.now c.loop-i.i c.index-rows-i.result c.args.column (omega arith) c.index-rows-i.is c.requires in
    omega (arith, l, c.index-rows-i.result.ok.0)

pub loop-i-preserved : goal.loop-i-preserved
loop-i-preserved c = below_more (λ j. entry (row_at c.args.rows.now j) c.args.column ≡ pos 0) c.loop-i.i c.loop-i.invariant
    (entry_at c.args.rows.now c.loop-i.i c.index-rows-i.result c.args.column (omega arith) c.index-rows-i.is c.requires c.index.result.now c.index.ensures ∙ c.is_zero.ensures.0 c.if-not-is_zero.false)

pub returns-then-not-is_zero : goal.returns-then-not-is_zero
returns-then-not-is_zero c = (
  omega arith,
  first_with_at c.args.column c.args.rows.now c.loop-i.i (omega arith) c.loop-i.invariant (λ z. true≢false (sym (c.is_zero.ensures.1 (sym (entry_at c.args.rows.now c.loop-i.i c.index-rows-i.result c.args.column (omega arith) c.index-rows-i.is c.requires c.index.result.now c.index.ensures) ∙ z)) ∙ c.if-not-is_zero.true)),
)

pub returns : goal.returns
returns c = first_with_none c.args.column c.args.rows.now (λ j l. c.loop-i.invariant j (omega arith))
