use Rattle.std.specs.Prelude.{negsuc}
use Rattle.std.proofs.Common.{ap, arith, sym, subst, ◌∙◌, ◌≡◌, ◌+◌, take}
use Rattle.lie_math.specs.LinearForm.{LinearForm, ◌+ᶠ◌, times_form}
use Rattle.lie_math.specs.Polynomial.{constant}
use Rattle.lie_geometry.specs.Coordinates.{Space}
use Rattle.lie_geometry.specs.SymbolicProlongation.{symbolic_total, unknown}
use Rattle.lie_form.specs.FormLimits.{HasJetsUpTo, HasOrdersUpTo}
use Rattle.lie_jet.specs.Lowered.{IsLowered}
use Rattle.lie_jet.proofs.TotalParts.{if_ok}
use Rattle.lie_symbolic.specs.SymbolicBulks.{symbolic_multiples}
use Rattle.lie_symbolic.proofs.SymbolicLimits.{low_symbolic}
use Rattle.lie_symbolic.proofs.SymbolicSteps.{symbolic_stepped, symbolic_first}
use Rattle.lie_symbolic.proofs.SymbolicWithin.{lower_jet, step_within}
use Rattle.lie_symbolic.proofs.symbolic_coefficient.+symbolic_coefficient.Goals as goal

pub symbolic_coefficient-requires : goal.symbolic_coefficient-requires
symbolic_coefficient-requires t c =
    let less = c.in-Some.ensures.order_less in
    (omega arith, lower_jet c.args.space c.args.jet.now c.in-Some.lower c.in-Some.k c.requires c.in-Some.ensures)

pub symbolic_step-requires-clause-jets : goal.symbolic_step-requires-clause-jets
symbolic_step-requires-clause-jets t c =
    let low : IsLowered c.args.space c.args.jet.now c.in-Some.k c.in-Some.lower = c.in-Some.ensures in
    subst (HasJetsUpTo c.args.space 11) (sym c.in_ok-before-in-Some.ensures) (low_symbolic c.args.space c.in-Some.lower low.jet).jets

pub symbolic_step-requires-clause-orders : goal.symbolic_step-requires-clause-orders
symbolic_step-requires-clause-orders t c =
    let low : IsLowered c.args.space c.args.jet.now c.in-Some.k c.in-Some.lower = c.in-Some.ensures in
    subst (HasOrdersUpTo 63) (sym c.in_ok-before-in-Some.ensures) (low_symbolic c.args.space c.in-Some.lower low.jet).orders

pub symbolic_step-requires-clause-limits : goal.symbolic_step-requires-clause-limits
symbolic_step-requires-clause-limits t c = step_within c.args.space c.args.jet.now c.in-Some.lower c.in-Some.k c.requires c.in-Some.ensures c.in_ok-before-in-Some.before c.in_ok-before-in-Some.ensures

pub returns-in_ok-before-in-Some : goal.returns-in_ok-before-in-Some
returns-in_ok-before-in-Some t c =
    let S = c.args.space in
    if_ok c.symbolic_step.result (λ (made : LinearForm) h. h ∙ ap (λ E. symbolic_total S c.in-Some.k E +ᶠ times_form (constant (negsuc 0)) (symbolic_multiples S c.in-Some.k c.in-Some.lower.dep (take S.p c.in-Some.lower.counts))) c.in_ok-before-in-Some.ensures
    ∙ symbolic_stepped S c.args.jet.now c.in-Some.lower c.in-Some.k c.in-Some.ensures) c.symbolic_step.ensures

pub returns-in-None : goal.returns-in-None
returns-in-None t c =
    let S = c.args.space in
    let p : c.space.inside.p ≡ S.p = ap (λ (s : Space). s.p) c.space.view_is in
    if_ok c.component.result (λ (made : LinearForm) h. h ∙ ap (λ n. unknown (n + c.args.jet.now.dep)) p ∙ symbolic_first S c.args.jet.now c.in-None.ensures) c.component.ensures
