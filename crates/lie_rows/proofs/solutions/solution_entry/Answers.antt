use Rattle.std.proofs.Common.{◌∙◌, arith}
use Rattle.lie_rows.proofs.Ending.{ending_counts, ending_is, ending_last, ending_length}
use Rattle.lie_rows.proofs.RowLoops.{read_at}
use Rattle.lie_rows.proofs.SolutionEntries.{answered_entry, ending_divides}
use Rattle.lie_rows.proofs.solutions.solution_entry.Goals as goal

pub index-requires : goal.index-requires
index-requires c =
    let l = ending_length c.args.j c.args.columns c.args.kept.now.rows.items c.in-Some.i c.index-row.result.now c.in-Some.ensures c.index-row.ensures c.requires.kept_rows in
    omega (arith, l, c.index-row.result.now.ok.0)

pub index-requires-in-Some : goal.index-requires-in-Some
index-requires-in-Some c =
    let l = ending_length c.args.j c.args.columns c.args.kept.now.rows.items c.in-Some.i c.index-row.result.now c.in-Some.ensures c.index-row.ensures c.requires.kept_rows in
    omega (arith, l, c.index-row.result.now.ok.0)

pub answer_of-requires-clause-counts : goal.answer_of-requires-clause-counts
answer_of-requires-clause-counts c z = ending_counts c.args.j c.args.columns c.args.kept.now.rows.items c.in-Some.i c.index-row.result.now c.in-Some.ensures c.index-row.ensures c.requires.kept_rows ((read_at c.index-row.result.now.items c.args.j c.index-in-Some.result.now (let l = ending_length c.args.j c.args.columns c.args.kept.now.rows.items c.in-Some.i c.index-row.result.now c.in-Some.ensures c.index-row.ensures c.requires.kept_rows in omega (arith, l)) c.index-in-Some.ensures) ∙ z)

pub answer_of-requires-clause-divides : goal.answer_of-requires-clause-divides
answer_of-requires-clause-divides c =
    ending_divides c.args.column c.args.j c.args.least c.args.columns c.args.kept.now.rows.items c.index-row.result.now c.index.result.now c.index-in-Some.result.now c.requires.value (ending_is c.args.j c.args.columns c.args.kept.now.rows.items c.in-Some.i c.index-row.result.now c.in-Some.ensures c.index-row.ensures c.requires.kept_rows) (ending_last c.args.j c.args.columns c.args.kept.now.rows.items c.in-Some.i c.index-row.result.now c.in-Some.ensures c.index-row.ensures c.requires.kept_rows) (read_at c.index-row.result.now.items c.args.column c.index.result.now (let l = ending_length c.args.j c.args.columns c.args.kept.now.rows.items c.in-Some.i c.index-row.result.now c.in-Some.ensures c.index-row.ensures c.requires.kept_rows in omega (arith, l)) c.index.ensures) (read_at c.index-row.result.now.items c.args.j c.index-in-Some.result.now (let l = ending_length c.args.j c.args.columns c.args.kept.now.rows.items c.in-Some.i c.index-row.result.now c.in-Some.ensures c.index-row.ensures c.requires.kept_rows in omega (arith, l)) c.index-in-Some.ensures)

pub returns-in-Some : goal.returns-in-Some
returns-in-Some c =
    answered_entry c.args.column c.args.j c.args.least c.args.kept.now.rows.items c.index-row.result.now c.index.result.now c.index-in-Some.result.now c.answer_of.result c.requires.value c.if-j-column.false (ending_is c.args.j c.args.columns c.args.kept.now.rows.items c.in-Some.i c.index-row.result.now c.in-Some.ensures c.index-row.ensures c.requires.kept_rows) (ending_last c.args.j c.args.columns c.args.kept.now.rows.items c.in-Some.i c.index-row.result.now c.in-Some.ensures c.index-row.ensures c.requires.kept_rows) (read_at c.index-row.result.now.items c.args.column c.index.result.now (let l = ending_length c.args.j c.args.columns c.args.kept.now.rows.items c.in-Some.i c.index-row.result.now c.in-Some.ensures c.index-row.ensures c.requires.kept_rows in omega (arith, l)) c.index.ensures) (read_at c.index-row.result.now.items c.args.j c.index-in-Some.result.now (let l = ending_length c.args.j c.args.columns c.args.kept.now.rows.items c.in-Some.i c.index-row.result.now c.in-Some.ensures c.index-row.ensures c.requires.kept_rows in omega (arith, l)) c.index-in-Some.ensures) c.answer_of.ensures
