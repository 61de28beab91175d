use Rattle.std.proofs.Common.{◌≡◌, get_or, sym, subst, arith, below_more}
use Rattle.lie_rows.proofs.Ending.{ending_first, ending_none}
use Rattle.lie_rows.specs.Rows.{rows_of, AreEnds}
use Rattle.lie_rows.proofs.kept.ending_at.Goals as goal

pub loop-i-preserved : goal.loop-i-preserved
loop-i-preserved c = below_more (λ j. ¬ (get_or c.as_slice-ends.result.now j 0 ≡ c.args.column)) c.loop-i.i c.loop-i.invariant c.if-ends-i.false

pub returns-then-ends-i : goal.returns-then-ends-i
returns-then-ends-i c =
    ending_first c.args.column c.args.kept.now.rows.items c.as_slice-ends.result.now (subst (AreEnds (rows_of c.args.kept.now.rows.items)) (sym c.as_slice-ends.ensures.value) c.requires) c.loop-i.i (omega arith)
    c.if-ends-i.true c.loop-i.invariant

pub returns : goal.returns
returns c =
    ending_none c.args.column c.args.kept.now.rows.items c.as_slice-ends.result.now (subst (AreEnds (rows_of c.args.kept.now.rows.items)) (sym c.as_slice-ends.ensures.value) c.requires)
    (λ j l. c.loop-i.invariant j (omega arith))
