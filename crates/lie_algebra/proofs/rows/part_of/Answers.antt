use Rattle.std.specs.Prelude.{[]}
use Rattle.std.proofs.Common.{ap, ◌∙◌, arith}
use Rattle.lie_math.specs.FiniteSum as finite
use Rattle.lie_math.specs.LinearForm.{forms}
use Rattle.lie_algebra.proofs.UnknownRows.{form_read}
use Rattle.lie_algebra.proofs.rows.part_of.Goals as goal

pub returns-clause-terms : goal.returns-clause-terms
returns-clause-terms c =
    c.in_ok-terms.ensures
    ∙ ap (λ E. (finite.value forms E (record { unknown = c.args.unknown; counts = [] })).list)
    (form_read c.args.general.now c.from.result c.args.component c.index-general-from.result c.index-general-from.is (omega (arith, c.from.ensures)) c.from.ensures)
