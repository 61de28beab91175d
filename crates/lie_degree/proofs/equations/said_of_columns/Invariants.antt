use Rattle.std.specs.Prelude.{◌≡◌, map, take}
use Rattle.std.specs.List.{AllByRecursion as Every}
use Rattle.lie_math.specs.Limits.{IsWithinLimits}
use Rattle.lie_degree.specs.Conditions.{said_of, said_bulk}
use Rattle.lie_degree.specs.Said.{said_lists}
use Rattle.lie_degree.proofs.equations.said_of_columns.Given as goal

abbrev pub invariant-loop-column : goal.invariant-loop-column
invariant-loop-column l = record {
  value : said_lists l.said.items ≡ map (λ k. (said_of l.form k).list) (take l.column-index l.columns);
  fits : Every (λ k. IsWithinLimits (said_bulk l.form k)) (take l.column-index l.columns);
}
