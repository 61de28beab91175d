use Rattle.std.proofs.Common.{arith}
use Rattle.lie_brackets.specs.Tables.{lists_of}
use Rattle.lie_brackets.proofs.TableEntries.{entries_of_all}
use Rattle.lie_brackets.proofs.WorkDecisions.{table_within}
use Rattle.lie_brackets.proofs.tables.table.Goals as goal

pub returns-clause-entries : goal.returns-clause-entries
returns-clause-entries c =
    (entries_of_all c.args.space c.in_ok-generators.generators.items c.args.basis.now c.loop-first.first (lists_of c.loop-first.entries.items) c.in_ok-generators.ensures.fields
    (omega (arith, c.loop-first-test.false, c.loop-first.auto.first-end, c.len-first-end.ensures)) c.loop-first.invariant).entries

pub returns-clause-fits : goal.returns-clause-fits
returns-clause-fits c =
    table_within c.args.space c.args.basis.now
    (entries_of_all c.args.space c.in_ok-generators.generators.items c.args.basis.now c.loop-first.first (lists_of c.loop-first.entries.items) c.in_ok-generators.ensures.fields
    (omega (arith, c.loop-first-test.false, c.loop-first.auto.first-end, c.len-first-end.ensures)) c.loop-first.invariant).within
