use Rattle.std.specs.List.{AllByRecursion as Every}
use Rattle.lie_lin.specs.Forms.{triples_of}
use Rattle.lie_normal.specs.WorkedValues.{IsTripleOf}
use Rattle.lie_normal.proofs.normal_form_tests.form.Given as goal

abbrev pub invariant-loop-row : goal.invariant-loop-row
invariant-loop-row l = Every IsTripleOf (triples_of l.list.items)
