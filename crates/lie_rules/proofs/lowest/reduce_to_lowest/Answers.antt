use Rattle.std.proofs.Common.{sym, subst, [], ◌∷◌, ◌+◌}
use Rattle.std.specs.List.{Contains}
use Rattle.std.proofs.lemmas.Result.{on_ok_weaker}
use Rattle.lie_math.specs.LinearForm.{LinearForm}
use Rattle.lie_systems.specs.Normalised.{primitive}
use Rattle.lie_systems.specs.Works.{IsWorkWithin}
use Rattle.lie_jet.specs.Derivatives.{derivative_of}
use Rattle.lie_steps.specs.Equations.{equation, with_equations_at}
use Rattle.lie_steps.specs.Lowest.{lowered}
use Rattle.lie_steps.specs.Rules.{Lowest}
use Rattle.lie_change.specs.Ends.{EndMakes, StaysValid}
use Rattle.lie_change.specs.Tried.{at}
use Rattle.lie_rules.proofs.LowestSteps.{lowest_apart, lowest_stays, lowest_step}
use Rattle.lie_rules.proofs.Steps.{try_within, end_within, nothing_within}
use Rattle.lie_rules.proofs.lowest.reduce_to_lowest.Goals as goal

pub exchange_forms-requires-clause-apart : goal.exchange_forms-requires-clause-apart
exchange_forms-requires-clause-apart c =
    λ k. lowest_apart c.args.system.now.system c.args.place (derivative_of c.args.der) c.requires.is
    (subst (λ (F : LinearForm). Contains (primitive F ∷ []) (equation c.args.system.now.system c.args.place)) c.in_ok-form.ensures k)

pub exchange_forms-requires-clause-valid : goal.exchange_forms-requires-clause-valid
exchange_forms-requires-clause-valid c =
    subst (λ (F : LinearForm). StaysValid (c.args.system.now.space.p + c.args.system.now.space.q)
    (with_equations_at c.args.system.now.system c.args.place (F ∷ []))) (sym c.in_ok-form.ensures)
    (lowest_stays (c.args.system.now.space.p + c.args.system.now.space.q) c.args.system.now.system c.system_is_valid.ensures.valid
    c.args.place (derivative_of c.args.der) c.requires.is)

pub returns-clause-fits : goal.returns-clause-fits
returns-clause-fits c =
    let X = lowered c.args.system.now.system c.args.place (derivative_of c.args.der) in
    on_ok_weaker c.exchange_forms.result
    (λ w. try_within Lowest c.args.system.now.system (at c.args.place) X []
    (lowest_step (c.args.system.now.space.p + c.args.system.now.space.q) c.args.system.now.system c.system_is_valid.ensures.valid
    c.args.place (derivative_of c.args.der) c.requires.is)
    (end_within X [] nothing_within (subst (λ (F : LinearForm). IsWorkWithin
    (EndMakes (with_equations_at c.args.system.now.system c.args.place (F ∷ [])))) c.in_ok-form.ensures w)))
    c.exchange_forms.ensures.fits
