use Rattle.std.proofs.Common.{take}
use Rattle.std.specs.List.{AllByRecursion as Every}
use Rattle.std.specs.Prelude.{ℤ}
use Rattle.lie_math.specs.Monomial.{Monomial}
use Rattle.lie_lin.specs.Validity.{AreLow}
use Rattle.lie_read_report.proofs.fields.is_below.Given as goal

abbrev pub invariant-loop-term : goal.invariant-loop-term
invariant-loop-term l = Every (λ (e : Monomial × ℤ). AreLow l.bound (e.0).list) (take l.term-index l.term-items)
