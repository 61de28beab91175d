use Rattle.std.proofs.Common.{subst}
use Rattle.std.specs.Prelude.{IfErr, OnOk}
use Rattle.lie_math.specs.LinearForm.{LinearForm}
use Rattle.lie_systems.specs.Bulk.{IsFormWithinLimits}
use Rattle.lie_jet.specs.Derivatives.{derivative_of}
use Rattle.lie_form.specs.FormLimits.{IsFormCause}
use Rattle.lie_normal.proofs.CombinedFactors.{combined_bulk_is}
use Rattle.lie_normal.proofs.combining.combine.Goals as goal

pub returns-clause-fits : goal.returns-clause-fits
returns-clause-fits c =
    subst (λ (B : LinearForm). OnOk c.sum_of_multiples.result (IsFormWithinLimits B))
    (combined_bulk_is (derivative_of c.args.der.now) c.args.eq.now c.args.other.now c.in_ok-pair.pair.0 c.in_ok-pair.pair.1 c.in_ok-pair.ensures.factor c.in_ok-pair.ensures.other_factor) c.sum_of_multiples.ensures.fits

pub returns-clause-past : goal.returns-clause-past
returns-clause-past c =
    subst (λ (B : LinearForm). IfErr c.sum_of_multiples.result (λ fail. IsFormCause fail B))
    (combined_bulk_is (derivative_of c.args.der.now) c.args.eq.now c.args.other.now c.in_ok-pair.pair.0 c.in_ok-pair.pair.1 c.in_ok-pair.ensures.factor c.in_ok-pair.ensures.other_factor) c.sum_of_multiples.ensures.past
