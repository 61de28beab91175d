use Rattle.std.proofs.Common.{◌≡◌, ◌∙◌, ap, sym}
use Rattle.std.specs.Prelude.{Ok}
use Rattle.std.proofs.lemmas.Result.{err_from_is_err_and}
use Rattle.lie_scan.specs.Turns.{goes_on}
use Rattle.lie_scan.specs.Answers.{turn_of}
use Rattle.lie_scan.specs.Terms.{factor_turn}
use Rattle.lie_scan.proofs.TurnSteps.{turns_on, turns_end, turns_fail, turn_less}
use Rattle.lie_scan.proofs.FactorSteps.{factor_turn_takes}
use Rattle.lie_scan.proofs.term.factors_at.Goals as goal

pub factors-preserved : goal.factors-preserved
factors-preserved c =
    let is : factor_turn c.args.space c.args.names.now c.factors.product c.factors.rest.now ≡ Ok (goes_on c.in-Some.more c.in-Some.after.now) =
    c.in_ok-more.ensures.value ∙ ap (λ o. Ok (turn_of c.factors.product c.factors.rest.now o)) c.in-Some.is in
    record {
      same = c.factors.invariant.same ∙ turns_on (factor_turn c.args.space c.args.names.now) (factor_turn_takes c.args.space c.args.names.now) c.factors.product c.factors.rest.now c.in-Some.more c.in-Some.after.now is;
      small = rw c.in-Some.is at c.in_ok-more.ensures.small;
    }

pub factors-smaller : goal.factors-smaller
factors-smaller c =
    let is : factor_turn c.args.space c.args.names.now c.factors.product c.factors.rest.now ≡ Ok (goes_on c.in-Some.more c.in-Some.after.now) =
    c.in_ok-more.ensures.value ∙ ap (λ o. Ok (turn_of c.factors.product c.factors.rest.now o)) c.in-Some.is in
    turn_less (factor_turn c.args.space c.args.names.now) (factor_turn_takes c.args.space c.args.names.now) c.factors.product c.factors.rest.now c.in-Some.more c.in-Some.after.now is

pub returns-in_err-more-clause-value : goal.returns-in_err-more-clause-value
returns-in_err-more-clause-value c =
    let p = err_from_is_err_and c.from_residual.result c.from_residual.ensures.1 in
    rw (p.1, p.2, c.factors.invariant.same) (turns_fail (factor_turn c.args.space c.args.names.now) (factor_turn_takes c.args.space c.args.names.now) c.factors.product c.factors.rest.now c.in_err-more.field-0.0 c.in_err-more.ensures.value)

pub returns-in-None-clause-value : goal.returns-in-None-clause-value
returns-in-None-clause-value c =
    c.factors.invariant.same
    ∙ turns_end (factor_turn c.args.space c.args.names.now) (factor_turn_takes c.args.space c.args.names.now) c.factors.product c.factors.rest.now _ (c.in_ok-more.ensures.value ∙ ap (λ o. Ok (turn_of c.factors.product c.factors.rest.now o)) c.in-None.is)
    ∙ ap (λ r. Ok (c.factors.product, r)) (sym c.after_blanks.ensures)
