use Rattle.std.proofs.Common.{◌≡◌, ◌<◌, ◌+◌, ◌∙◌, ap, ap₂, arith, false, length, map, pos, refl, subst, sym, List}
use Rattle.std.proofs.lemmas.List.{length-map}
use Rattle.std.proofs.lemmas.Result.{IfErr-weaker, err_from_is_err_and, on_ok_weaker}
use Rattle.std.specs.List.{Contains}
use Rattle.lie_math.specs.LinearForm.{LinearForm}
use Rattle.lie_systems.specs.Works.{IsWorkWithin, Made}
use Rattle.lie_jet.specs.Derivatives.{derivative_of}
use Rattle.lie_lin.specs.Systems.{unknown_of}
use Rattle.lie_normal.specs.WorkCauses.{IsWorkCause}
use Rattle.lie_steps.specs.Absent.{absent_sum, absent_unknowns, fresh_sum, fresh_unknowns, low_powers}
use Rattle.lie_steps.specs.Equations.{mentions}
use Rattle.lie_steps.specs.Replacement.{fresh_made}
use Rattle.lie_steps.specs.Rules.{Absent}
use Rattle.lie_change.specs.Tried.{at}
use Rattle.lie_rules.proofs.AbsentSteps.{absent_below, absent_occurs, absent_stays, absent_step}
use Rattle.lie_rules.proofs.Eliminations.{elimination_cause, elimination_front, elimination_stays, elimination_within}
use Rattle.lie_rules.proofs.FreshSteps.{length-unknowns, sum_mentions}
use Rattle.lie_rules.proofs.absent.replace_by_powers.Goals as goal

pub returns-in_err-fresh-clause-past : goal.returns-in_err-fresh-clause-past
returns-in_err-fresh-clause-past c =
    let p = err_from_is_err_and c.from_residual-in_err-fresh.result c.from_residual-in_err-fresh.ensures.1 in
    let V = absent_sum c.args.system.now.system (derivative_of c.args.der.now) in
    let vs = absent_unknowns c.args.system.now.system (unknown_of c.args.unknown.now) (derivative_of c.args.der.now) in
    rw (p.1, p.2)
    (elimination_front c.args.system.now.system c.args.place c.args.unknown.now.number V V (pos 1) vs vs refl refl refl Absent
    (at c.args.place) (fresh_made vs)
    (absent_step (c.args.system.now.space.p + c.args.system.now.space.q) c.args.system.now.system c.system_is_valid.ensures.valid
    c.args.place (unknown_of c.args.unknown.now) (derivative_of c.args.der.now) c.requires.is) _
    (subst (λ (bs : List Made). IsWorkCause c.in_err-fresh.field-0.0 (Contains bs))
    (ap₂ (λ n cs. fresh_made (fresh_unknowns n (unknown_of c.args.unknown.now) cs)) c.next-next.ensures
    (c.as_slice.ensures.value ∙ c.in_ok-powers.ensures.powers)) c.in_err-fresh.ensures.past))

pub eliminate-requires-clause-own : goal.eliminate-requires-clause-own
eliminate-requires-clause-own c =
    absent_occurs (c.args.system.now.space.p + c.args.system.now.space.q) c.args.system.now.system c.system_is_valid.ensures.valid
    c.args.place (unknown_of c.args.unknown.now) (derivative_of c.args.der.now) c.requires.is

pub eliminate-requires-clause-free : goal.eliminate-requires-clause-free
eliminate-requires-clause-free c =
    subst (λ (E : LinearForm). mentions c.args.unknown.now.number E ≡ false)
    (sym (c.in_ok-sum.ensures ∙ ap₂ fresh_sum c.next-next.ensures (c.as_slice-2.ensures.value ∙ c.in_ok-powers.ensures.powers)))
    (sum_mentions c.args.unknown.now.number c.args.system.now.system.next (low_powers (derivative_of c.args.der.now).counts)
    (absent_below (c.args.system.now.space.p + c.args.system.now.space.q) c.args.system.now.system c.system_is_valid.ensures.valid
    c.args.place (unknown_of c.args.unknown.now) (derivative_of c.args.der.now) c.requires.is))

pub eliminate-requires-clause-numbers : goal.eliminate-requires-clause-numbers
eliminate-requires-clause-numbers c =
    let l : length c.as_slice-3.result.now ≡ length c.as_slice.result.now =
    sym (length-map c.as_slice-3.result.now unknown_of) ∙ ap (λ us. length (map unknown_of us)) c.as_slice-3.ensures.value
    ∙ ap length c.in_ok-fresh.ensures.unknowns
    ∙ length-unknowns c.next-next.result (unknown_of c.args.unknown.now) c.as_slice.result.now
    in
    let n : c.next-next.result + length c.as_slice.result.now < 4294967296 = c.in_ok-fresh.ensures.numbers in
    let s : c.next-next.result ≡ c.args.system.now.system.next = c.next-next.ensures in
    omega arith

pub eliminate-requires-clause-valid : goal.eliminate-requires-clause-valid
eliminate-requires-clause-valid c =
    elimination_stays c.args.system.now.system c.args.place c.args.unknown.now.number
    (absent_sum c.args.system.now.system (derivative_of c.args.der.now)) c.in_ok-sum.sum c.one.result
    (absent_unknowns c.args.system.now.system (unknown_of c.args.unknown.now) (derivative_of c.args.der.now))
    (map unknown_of c.as_slice-3.result.now)
    (c.in_ok-sum.ensures ∙ ap₂ fresh_sum c.next-next.ensures (c.as_slice-2.ensures.value ∙ c.in_ok-powers.ensures.powers)) c.one.ensures
    (ap (map unknown_of) c.as_slice-3.ensures.value ∙ c.in_ok-fresh.ensures.unknowns
    ∙ ap₂ (λ n cs. fresh_unknowns n (unknown_of c.args.unknown.now) cs) c.next-next.ensures
    (c.as_slice.ensures.value ∙ c.in_ok-powers.ensures.powers)) (c.args.system.now.space.p + c.args.system.now.space.q)
    (absent_stays (c.args.system.now.space.p + c.args.system.now.space.q) c.args.system.now.system c.system_is_valid.ensures.valid
    c.args.place (unknown_of c.args.unknown.now) (derivative_of c.args.der.now) c.requires.is)

pub returns-clause-fits : goal.returns-clause-fits
returns-clause-fits c =
    on_ok_weaker c.eliminate.result (elimination_within c.args.system.now.system c.args.place c.args.unknown.now.number
    (absent_sum c.args.system.now.system (derivative_of c.args.der.now)) c.in_ok-sum.sum c.one.result
    (absent_unknowns c.args.system.now.system (unknown_of c.args.unknown.now) (derivative_of c.args.der.now))
    (map unknown_of c.as_slice-3.result.now)
    (c.in_ok-sum.ensures ∙ ap₂ fresh_sum c.next-next.ensures (c.as_slice-2.ensures.value ∙ c.in_ok-powers.ensures.powers)) c.one.ensures
    (ap (map unknown_of) c.as_slice-3.ensures.value ∙ c.in_ok-fresh.ensures.unknowns
    ∙ ap₂ (λ n cs. fresh_unknowns n (unknown_of c.args.unknown.now) cs) c.next-next.ensures
    (c.as_slice.ensures.value ∙ c.in_ok-powers.ensures.powers))
    Absent (at c.args.place) (fresh_made (absent_unknowns c.args.system.now.system (unknown_of c.args.unknown.now)
    (derivative_of c.args.der.now))) (absent_step
    (c.args.system.now.space.p + c.args.system.now.space.q) c.args.system.now.system c.system_is_valid.ensures.valid c.args.place
    (unknown_of c.args.unknown.now) (derivative_of c.args.der.now) c.requires.is)
    (subst (λ (bs : List Made). IsWorkWithin (Contains bs))
    (ap₂ (λ n cs. fresh_made (fresh_unknowns n (unknown_of c.args.unknown.now) cs)) c.next-next.ensures
    (c.as_slice.ensures.value ∙ c.in_ok-powers.ensures.powers)) c.in_ok-fresh.ensures.fits)) c.eliminate.ensures.fits

pub returns-clause-past : goal.returns-clause-past
returns-clause-past c =
    IfErr-weaker c.eliminate.result _ _ (elimination_cause c.args.system.now.system c.args.place c.args.unknown.now.number
    (absent_sum c.args.system.now.system (derivative_of c.args.der.now)) c.in_ok-sum.sum c.one.result
    (absent_unknowns c.args.system.now.system (unknown_of c.args.unknown.now) (derivative_of c.args.der.now))
    (map unknown_of c.as_slice-3.result.now)
    (c.in_ok-sum.ensures ∙ ap₂ fresh_sum c.next-next.ensures (c.as_slice-2.ensures.value ∙ c.in_ok-powers.ensures.powers)) c.one.ensures
    (ap (map unknown_of) c.as_slice-3.ensures.value ∙ c.in_ok-fresh.ensures.unknowns
    ∙ ap₂ (λ n cs. fresh_unknowns n (unknown_of c.args.unknown.now) cs) c.next-next.ensures
    (c.as_slice.ensures.value ∙ c.in_ok-powers.ensures.powers))
    Absent (at c.args.place) (fresh_made (absent_unknowns c.args.system.now.system (unknown_of c.args.unknown.now)
    (derivative_of c.args.der.now))) (absent_step
    (c.args.system.now.space.p + c.args.system.now.space.q) c.args.system.now.system c.system_is_valid.ensures.valid c.args.place
    (unknown_of c.args.unknown.now) (derivative_of c.args.der.now) c.requires.is)) c.eliminate.ensures.past
