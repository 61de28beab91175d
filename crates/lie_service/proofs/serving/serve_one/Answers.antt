-- A good answer comes of the desk.
use Rattle.std.proofs.Common.{subst}
use Rattle.lie_service.proofs.Headline.{good_answers}
use Rattle.lie_service.specs.Serving.{ServesOpen}
use Rattle.lie_service.proofs.serving.serve_one.Goals as goal

pub returns-clause-report : goal.returns-clause-report
returns-clause-report g c = λ status is good.
    good_answers c.args.budget status _ _ _ _ (subst (ServesOpen c.args.budget _ _ _ _) is c.serve_one.ensures.serves) good
