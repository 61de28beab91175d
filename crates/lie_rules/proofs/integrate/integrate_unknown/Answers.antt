use Rattle.std.proofs.Common.{◌≡◌, ◌<◌, ◌+◌, ◌^◌, ◌++◌, ◌∙◌, ap, arith, length, List, map, subst, sym}
use Rattle.std.specs.List.{AllByRecursion as Every, Contains}
use Rattle.std.proofs.lemmas.Result.{err_from_is_err_and, on_ok_weaker, IfErr-weaker}
use Rattle.lie_systems.specs.Works.{IsWorkWithin}
use Rattle.lie_lin.specs.Systems.{unknown_of}
use Rattle.lie_steps.specs.Absent.{Power, powers_from, fresh_unknowns}
use Rattle.lie_steps.specs.Replacement.{fresh_made}
use Rattle.lie_rules.proofs.FreshSteps.{powers_below}
use Rattle.lie_rules.proofs.IntegrationSteps.{fresh_error, older, solution_error, own, form_free, stays, after, elimination_error, within}
use Rattle.lie_rules.proofs.IntegrationSteps.{fresh_length}
use Rattle.lie_rules.proofs.integrate.integrate_unknown.Goals as goal
use Rattle.lie_rules.proofs.integrate.integrate_unknown.Goals.{In_ok-push_powers, After-as_slice, After-as_slice-3}

listed : (c : In_ok-push_powers)
    → c.push_powers.new.powers.items ≡ powers_from (c.args.found.now).integration.var 0 (c.args.found.now).integration.times
listed c = c.in_ok-push_powers.ensures
    ∙ ap (λ (cs : List Power). cs ++ powers_from (c.args.found.now).integration.var 0 (c.args.found.now).integration.times)
    c.new-powers.ensures.items

pub fresh_unknowns-requires : goal.fresh_unknowns-requires
fresh_unknowns-requires c =
    let k = (goal.at.fresh_unknowns-requires c).In_ok-push_powers in
    subst (Every (λ (x : Power). x.0 < 8)) (sym (c.as_slice.ensures.value ∙ listed k))
    (powers_below (c.args.found.now).integration.var 8 0 (c.args.found.now).integration.times ((c.requires.integration).integrable).low)

pub returns-in_err-fresh-clause-past : goal.returns-in_err-fresh-clause-past
returns-in_err-fresh-clause-past c =
    let k = (goal.at.returns-in_err-fresh-clause-past c).In_ok-push_powers in
    let p = err_from_is_err_and c.from_residual-in_err-fresh.result c.from_residual-in_err-fresh.ensures.1 in
    rw (p.1, p.2) (fresh_error _ c.args.system.now.system c.system_is_valid.ensures.valid c.args.place c.args.found.now
    c.requires.integration (unknown_of c.args.unknown.now) c.requires.listed c.requires.number
    c.next-next.result c.as_slice.result.now c.next-next.ensures
    (c.as_slice.ensures.value ∙ listed k) c.in_err-fresh.field-0.0 c.in_err-fresh.ensures.past)

pub solution-requires-clause-older : goal.solution-requires-clause-older
solution-requires-clause-older c =
    let k = (goal.at.solution-requires-clause-older c).In_ok-push_powers in
    older _ c.args.system.now.system c.system_is_valid.ensures.valid c.args.place c.args.found.now c.requires.integration
    (unknown_of c.args.unknown.now) c.requires.listed c.requires.number
    c.next-next.result c.as_slice.result.now c.next-next.ensures (c.as_slice.ensures.value ∙ listed k)

pub returns-in_err-form-clause-past : goal.returns-in_err-form-clause-past
returns-in_err-form-clause-past c =
    let k = (goal.at.returns-in_err-form-clause-past c).In_ok-push_powers in
    let p = err_from_is_err_and c.from_residual-in_err-form.result c.from_residual-in_err-form.ensures.1 in
    rw (p.1, p.2) (solution_error _ c.args.system.now.system c.system_is_valid.ensures.valid c.args.place c.args.found.now
    c.requires.integration (unknown_of c.args.unknown.now) c.requires.listed c.requires.number
    c.next-next.result c.as_slice-2.result.now c.next-next.ensures
    (c.as_slice-2.ensures.value ∙ listed k) c.in_err-form.field-0.0 c.in_err-form.ensures.past)

pub eliminate_divided-requires-clause-own : goal.eliminate_divided-requires-clause-own
eliminate_divided-requires-clause-own c =
    let k = (goal.at.eliminate_divided-requires-clause-own c).In_ok-push_powers in
    own _ c.args.system.now.system c.system_is_valid.ensures.valid c.args.place c.args.found.now c.requires.integration
    (unknown_of c.args.unknown.now) c.requires.listed c.requires.number
    c.next-next.result c.as_slice-2.result.now c.next-next.ensures (c.as_slice-2.ensures.value ∙ listed k)

same : (c : After-as_slice-3) → map unknown_of c.as_slice-3.result.now ≡ fresh_unknowns c.next-next.result
    (unknown_of c.args.unknown.now) c.as_slice-2.result.now
same c = ap (map unknown_of) c.as_slice-3.ensures.value ∙ c.in_ok-fresh.ensures.unknowns
    ∙ ap (fresh_unknowns c.next-next.result (unknown_of c.args.unknown.now)) (c.as_slice.ensures.value ∙ sym c.as_slice-2.ensures.value)

pub eliminate_divided-requires-clause-free : goal.eliminate_divided-requires-clause-free
eliminate_divided-requires-clause-free c =
    let k = (goal.at.eliminate_divided-requires-clause-free c).In_ok-push_powers in
    let l = (goal.at.eliminate_divided-requires-clause-free c).After-as_slice-3 in
    form_free _ c.args.system.now.system c.system_is_valid.ensures.valid c.args.place c.args.found.now c.requires.integration
    (unknown_of c.args.unknown.now) c.requires.listed c.requires.number
    c.next-next.result c.as_slice-2.result.now c.next-next.ensures
    (c.as_slice-2.ensures.value ∙ listed k) c.in_ok-form.form c.in_ok-form.divisor
    (map unknown_of c.as_slice-3.result.now) c.in_ok-form.ensures.solution (same l)

pub eliminate_divided-requires-clause-numbers : goal.eliminate_divided-requires-clause-numbers
eliminate_divided-requires-clause-numbers c =
    let l = (goal.at.eliminate_divided-requires-clause-numbers c).After-as_slice-3 in
    let e : length c.as_slice-3.result.now ≡ length c.as_slice-2.result.now =
    fresh_length c.next-next.result (unknown_of c.args.unknown.now) c.as_slice-2.result.now c.as_slice-3.result.now (same l) in
    let n = c.next-next.ensures in
    let h : c.next-next.result + length c.as_slice.result.now < 2 ^ 32 = c.in_ok-fresh.ensures.numbers in
    let s : length c.as_slice.result.now ≡ length c.as_slice-2.result.now =
    ap length (c.as_slice.ensures.value ∙ sym c.as_slice-2.ensures.value) in
    omega arith

pub eliminate_divided-requires-clause-valid : goal.eliminate_divided-requires-clause-valid
eliminate_divided-requires-clause-valid c =
    let k = (goal.at.eliminate_divided-requires-clause-valid c).In_ok-push_powers in
    let l = (goal.at.eliminate_divided-requires-clause-valid c).After-as_slice-3 in
    stays _ c.args.system.now.system c.system_is_valid.ensures.valid c.args.place c.args.found.now c.requires.integration
    (unknown_of c.args.unknown.now) c.requires.listed c.requires.number
    c.next-next.result c.as_slice-2.result.now c.next-next.ensures
    (c.as_slice-2.ensures.value ∙ listed k) c.in_ok-form.form c.in_ok-form.divisor
    (map unknown_of c.as_slice-3.result.now) c.in_ok-form.ensures.solution (same l)

pub returns-clause-after : goal.returns-clause-after
returns-clause-after c =
    let k = (goal.at.returns-clause-after c).In_ok-push_powers in
    let l = (goal.at.returns-clause-after c).After-as_slice-3 in
    on_ok_weaker c.eliminate_divided.result
    (after _ c.args.system.now.system c.system_is_valid.ensures.valid c.args.place c.args.found.now c.requires.integration
    (unknown_of c.args.unknown.now) c.requires.listed c.requires.number
    c.next-next.result c.as_slice-2.result.now c.next-next.ensures
    (c.as_slice-2.ensures.value ∙ listed k) c.in_ok-form.form c.in_ok-form.divisor
    (map unknown_of c.as_slice-3.result.now) c.in_ok-form.ensures.solution (same l) c.eliminate_divided.new.system.system)
    c.eliminate_divided.ensures.tidied

pub returns-clause-fits : goal.returns-clause-fits
returns-clause-fits c =
    let k = (goal.at.returns-clause-fits c).In_ok-push_powers in
    let l = (goal.at.returns-clause-fits c).After-as_slice-3 in
    on_ok_weaker c.eliminate_divided.result
    (within _ c.args.system.now.system c.system_is_valid.ensures.valid c.args.place c.args.found.now c.requires.integration
    (unknown_of c.args.unknown.now) c.requires.listed c.requires.number
    c.next-next.result c.as_slice-2.result.now c.next-next.ensures
    (c.as_slice-2.ensures.value ∙ listed k) c.in_ok-form.form c.in_ok-form.divisor
    (map unknown_of c.as_slice-3.result.now) c.in_ok-form.ensures.solution (same l)
    (subst (λ (cs : List Power). IsWorkWithin
    (Contains (fresh_made (fresh_unknowns c.next-next.result (unknown_of c.args.unknown.now) cs))))
    (c.as_slice.ensures.value ∙ sym c.as_slice-2.ensures.value) c.in_ok-fresh.ensures.fits) c.in_ok-form.ensures.fits.0
    c.in_ok-form.ensures.fits.1)
    c.eliminate_divided.ensures.fits

pub returns-clause-past : goal.returns-clause-past
returns-clause-past c =
    let k = (goal.at.returns-clause-past c).In_ok-push_powers in
    let l = (goal.at.returns-clause-past c).After-as_slice-3 in
    IfErr-weaker c.eliminate_divided.result _ _
    (elimination_error _ c.args.system.now.system c.system_is_valid.ensures.valid c.args.place c.args.found.now c.requires.integration
    (unknown_of c.args.unknown.now) c.requires.listed c.requires.number
    c.next-next.result c.as_slice-2.result.now c.next-next.ensures
    (c.as_slice-2.ensures.value ∙ listed k) c.in_ok-form.form c.in_ok-form.divisor
    (map unknown_of c.as_slice-3.result.now) c.in_ok-form.ensures.solution (same l))
    c.eliminate_divided.ensures.past
