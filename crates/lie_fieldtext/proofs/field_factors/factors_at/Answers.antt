use Rattle.std.proofs.Common.{◌≡◌, ◌∙◌, ap}
use Rattle.std.specs.Prelude.{Ok}
use Rattle.std.proofs.lemmas.Result.{err_from_is_err_and}
use Rattle.lie_scan.specs.Turns.{goes_on}
use Rattle.lie_fieldtext.specs.FieldReading.{factor_turn}
use Rattle.lie_fieldtext.specs.FieldAnswers.{factor_turn_of}
use Rattle.lie_scan.proofs.TurnSteps.{turns_on, turns_end, turns_fail, turn_less}
use Rattle.lie_fieldtext.proofs.FieldShorter.{factor_turn_takes}
use Rattle.lie_fieldtext.proofs.field_factors.factors_at.Goals as goal

pub factors-preserved : goal.factors-preserved
factors-preserved c =
    let is : factor_turn c.args.names.now c.factors.product c.factors.rest.now ≡ Ok (goes_on c.in-Product.more c.in_ok-factor.behind.now) =
    c.in_ok-factor.ensures.value ∙ ap (λ f. Ok (factor_turn_of c.factors.product f c.in_ok-factor.behind.now)) c.in-Product.is in
    record {
      same = c.factors.invariant.same ∙ turns_on (factor_turn c.args.names.now) (factor_turn_takes c.args.names.now) c.factors.product c.factors.rest.now c.in-Product.more c.in_ok-factor.behind.now is;
      small = rw c.in-Product.is at c.in_ok-factor.ensures.small;
    }

pub factors-smaller : goal.factors-smaller
factors-smaller c =
    let is : factor_turn c.args.names.now c.factors.product c.factors.rest.now ≡ Ok (goes_on c.in-Product.more c.in_ok-factor.behind.now) =
    c.in_ok-factor.ensures.value ∙ ap (λ f. Ok (factor_turn_of c.factors.product f c.in_ok-factor.behind.now)) c.in-Product.is in
    turn_less (factor_turn c.args.names.now) (factor_turn_takes c.args.names.now) c.factors.product c.factors.rest.now c.in-Product.more c.in_ok-factor.behind.now is

pub returns-in_err-factor : goal.returns-in_err-factor
returns-in_err-factor c =
    let p = err_from_is_err_and c.from_residual.result c.from_residual.ensures.1 in
    rw (p.1, p.2, c.factors.invariant.same) (turns_fail (factor_turn c.args.names.now) (factor_turn_takes c.args.names.now) c.factors.product c.factors.rest.now c.in_err-factor.field-0.0 c.in_err-factor.ensures.value)

pub returns-in-Base : goal.returns-in-Base
returns-in-Base c =
    c.factors.invariant.same
    ∙ turns_end (factor_turn c.args.names.now) (factor_turn_takes c.args.names.now) c.factors.product c.factors.rest.now _ (c.in_ok-factor.ensures.value ∙ ap (λ f. Ok (factor_turn_of c.factors.product f c.in_ok-factor.behind.now)) c.in-Base.is)
