use Rattle.lie_rows.specs.Rows.{rows_of}
use Rattle.lie_degree.proofs.Rows.{IsFront}
use Rattle.lie_degree.proofs.conditions.condition_rows.Given as goal

abbrev pub invariant-loop-form : goal.invariant-loop-form
invariant-loop-form l = IsFront l.columns l.equations l.form-index (rows_of l.rows.items)
