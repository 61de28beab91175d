-- The reply tells the analysis, and the rows and the count stay.
use Rattle.std.specs.Prelude.{Ok, refl}
use Rattle.lie_service.proofs.Replying.{analysis_failed}
use Rattle.lie_service.proofs.Leaves.{honest-refl}
use Rattle.lie_service.proofs.calls.analyse.Goals as goal

pub returns-in-Ok : goal.returns-in-Ok
returns-in-Ok c = λ held count. (((Ok c.in-Ok.report, c.in-Ok.ensures held, refl), honest-refl held), refl)

pub returns-in-Err : goal.returns-in-Err
returns-in-Err c = λ held count.
    analysis_failed c.args.budget held count c.args.body.now c.in-Err.fail c.not_given.result (c.in-Err.ensures held) c.not_given.ensures
