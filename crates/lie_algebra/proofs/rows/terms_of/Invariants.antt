use Rattle.std.specs.Prelude.{[], drop}
use Rattle.lie_math.specs.FiniteSum as finite
use Rattle.lie_math.specs.LinearForm.{forms}
use Rattle.lie_algebra.proofs.UnknownRows.{HasValue}
use Rattle.lie_algebra.proofs.rows.terms_of.Given as goal

abbrev pub invariant-loop-term : goal.invariant-loop-term
invariant-loop-term l = HasValue (record { unknown = l.unknown; counts = [] }) (drop l.term-index l.term-items) (finite.value forms l.form (record { unknown = l.unknown; counts = [] }))
