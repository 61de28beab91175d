use Rattle.std.proofs.Common.{◌≡◌, ◌∙◌, ap}
use Rattle.std.specs.Prelude.{Ok}
use Rattle.std.proofs.lemmas.Result.{err_from_is_err_and}
use Rattle.lie_scan.specs.Turns.{goes_on}
use Rattle.lie_fieldtext.specs.FieldAnswers.{sum_turn_of}
use Rattle.lie_fieldtext.specs.FieldReading.{term_turn}
use Rattle.lie_scan.proofs.TurnSteps.{turns_on, turns_end, turns_fail, turn_less}
use Rattle.lie_fieldtext.proofs.FieldShorter.{term_turn_takes}
use Rattle.lie_fieldtext.proofs.field_sum.terms_at.Goals as goal

pub terms-preserved : goal.terms-preserved
terms-preserved c =
    let is : term_turn c.args.names.now c.terms.found.list.items c.terms.rest.now ≡ Ok (goes_on c.in_ok-more.more.list.items c.in-Some.after.now) =
    c.in_ok-more.ensures ∙ ap (λ o. Ok (sum_turn_of c.in_ok-more.more.list.items o)) c.in-Some.is in
    c.terms.invariant ∙ turns_on (term_turn c.args.names.now) (term_turn_takes c.args.names.now) c.terms.found.list.items c.terms.rest.now c.in_ok-more.more.list.items c.in-Some.after.now is

pub terms-smaller : goal.terms-smaller
terms-smaller c =
    let is : term_turn c.args.names.now c.terms.found.list.items c.terms.rest.now ≡ Ok (goes_on c.in_ok-more.more.list.items c.in-Some.after.now) =
    c.in_ok-more.ensures ∙ ap (λ o. Ok (sum_turn_of c.in_ok-more.more.list.items o)) c.in-Some.is in
    turn_less (term_turn c.args.names.now) (term_turn_takes c.args.names.now) c.terms.found.list.items c.terms.rest.now c.in_ok-more.more.list.items c.in-Some.after.now is

pub returns-in_err-more : goal.returns-in_err-more
returns-in_err-more c =
    let p = err_from_is_err_and c.from_residual.result c.from_residual.ensures.1 in
    rw (p.1, p.2, c.terms.invariant) (turns_fail (term_turn c.args.names.now) (term_turn_takes c.args.names.now) c.terms.found.list.items c.terms.rest.now c.in_err-more.field-0.0 c.in_err-more.ensures)

pub returns-in-None : goal.returns-in-None
returns-in-None c =
    c.terms.invariant
    ∙ turns_end (term_turn c.args.names.now) (term_turn_takes c.args.names.now) c.terms.found.list.items c.terms.rest.now _ (c.in_ok-more.ensures ∙ ap (λ o. Ok (sum_turn_of c.in_ok-more.more.list.items o)) c.in-None.is)
