use Rattle.std.proofs.Common.{ap, arith, sym, subst, ◌∙◌, ◌≡◌, ◌<◌, ◌+◌, ◌-◌, ◌≤◌, length, take, get_or}
use Rattle.lie_math.specs.Derivation.{is_below}
use Rattle.lie_math.specs.Limits.{IsWithinLimits, absolute}
use Rattle.lie_math.specs.Polynomial.{WholePolynomial, ◌+ᴾ◌, negᴾ}
use Rattle.lie_math.specs.Variables.{IsIn}
use Rattle.lie_math.specs.VectorField.{component}
use Rattle.lie_geometry.specs.Coordinates.{Space, number, coordinates_up_to}
use Rattle.lie_geometry.specs.Prolongation.{coefficient_at, total_derivative}
use Rattle.lie_ring.specs.Causes.{IsCause}
use Rattle.lie_jet.specs.Jets.{coordinate_of}
use Rattle.lie_jet.specs.Lowered.{IsLowered}
use Rattle.lie_jet.proofs.LoweredJets.{lowered_before, value_read}
use Rattle.lie_prolong.proofs.Recursion.{low_coefficient, coefficient_stepped, bulk_stepped, coefficient_first}
use Rattle.lie_prolong.proofs.Absolutes.{component_in_z}
use Rattle.lie_prolong.proofs.Multiples.{component_read}
use Rattle.lie_jet.proofs.TotalSteps.{on_ok, if_err}
use Rattle.lie_jet.proofs.TotalParts.{if_ok}
use Rattle.lie_jet.specs.declared.jet.Jet.{Jet}
use Rattle.lie_prolong.specs.Bulks.{multiples, bulk_at}
use Rattle.lie_prolong.proofs.coefficient.coefficient.Goals as goal
use Rattle.lie_prolong.proofs.coefficient.coefficient.Goals.{After-from}

low_number : (c : After-from) → number c.args.space (coordinate_of c.args.space c.in-Some.lower) < c.args.space.p + length c.args.before.now
low_number c = lowered_before c.args.space c.args.jet.now c.in-Some.lower c.in-Some.k (length c.args.before.now) c.requires.jet c.in-Some.ensures c.requires.next

p_is : (c : After-from) → c.from.result ≡ c.args.space.p
p_is c = c.from.ensures ∙ ap (λ (s : Space). s.p) c.space.view_is

pub bounds-before-place : goal.bounds-before-place
bounds-before-place c =
    let k = (goal.at.bounds-before-place c).After-from in
    let h : number c.args.space (coordinate_of c.args.space c.in-Some.lower) < c.args.space.p + length c.args.before.now = low_number k in
    let e : c.jet_number.result ≡ number c.args.space (coordinate_of c.args.space c.in-Some.lower) = c.jet_number.ensures.number in
    let p : c.from.result ≡ c.args.space.p = p_is k in
    let l : c.args.space.p ≤ c.jet_number.result = c.jet_number.ensures.jet in
    omega arith

read : (c : After-from) (d : Jet × WholePolynomial) → (get_or c.args.before.now (c.jet_number.result - c.from.result) d).1 ≡ coefficient_at c.args.space (component c.args.field.now) (coordinate_of c.args.space c.in-Some.lower)
read c d =
    let low : IsLowered c.args.space c.args.jet.now c.in-Some.k c.in-Some.lower = c.in-Some.ensures in
    value_read c.args.space (coefficient_at c.args.space (component c.args.field.now)) c.args.before.now c.in-Some.lower c.jet_number.result c.from.result d c.requires.before low.jet c.jet_number.ensures.number (p_is c) c.jet_number.ensures.jet (subst (λ n. n < c.args.space.p + length c.args.before.now) (sym c.jet_number.ensures.number) (low_number c))

pub derived-requires-clause-low : goal.derived-requires-clause-low
derived-requires-clause-low c =
    let S = c.args.space in
    let low : IsLowered S c.args.jet.now c.in-Some.k c.in-Some.lower = c.in-Some.ensures in
    subst (IsIn (is_below (coordinates_up_to S 11))) (sym (read (goal.at.derived-requires-clause-low c).After-from c.index-before-place.result)) (low_coefficient S (component c.args.field.now) (component_in_z S c.args.field.now c.requires.field) c.in-Some.lower low.jet)

bulk : (c : After-from) (d : Jet × WholePolynomial)
    → total_derivative c.args.space c.in-Some.k (absolute (get_or c.args.before.now (c.jet_number.result - c.from.result) d).1) +ᴾ multiples c.args.space (λ i. absolute (component c.args.field.now i)) c.in-Some.k c.in-Some.lower.dep (take c.args.space.p c.in-Some.lower.counts)
    ≡ bulk_at c.args.space (component c.args.field.now) (coordinate_of c.args.space c.args.jet.now)
bulk c d =
    ap (λ P. total_derivative c.args.space c.in-Some.k (absolute P) +ᴾ multiples c.args.space (λ i. absolute (component c.args.field.now i)) c.in-Some.k c.in-Some.lower.dep (take c.args.space.p c.in-Some.lower.counts)) (read c d)
    ∙ bulk_stepped c.args.space (component c.args.field.now) c.args.jet.now c.in-Some.lower c.in-Some.k c.in-Some.ensures

pub returns-in-Some-clause-coefficient : goal.returns-in-Some-clause-coefficient
returns-in-Some-clause-coefficient c =
    let k = (goal.at.returns-in-Some-clause-coefficient c).After-from in
    let S = c.args.space in
    let V = component c.args.field.now in
    if_ok c.derived.result (λ made h. h ∙ ap (λ P. total_derivative S c.in-Some.k P +ᴾ negᴾ (multiples S V c.in-Some.k c.in-Some.lower.dep (take S.p c.in-Some.lower.counts))) (read k c.index-before-place.result)
    ∙ coefficient_stepped S V c.args.jet.now c.in-Some.lower c.in-Some.k c.in-Some.ensures) c.derived.ensures.value

pub returns-in-Some-clause-fits : goal.returns-in-Some-clause-fits
returns-in-Some-clause-fits c = on_ok c.derived.result (subst IsWithinLimits (bulk (goal.at.returns-in-Some-clause-fits c).After-from c.index-before-place.result)) c.derived.ensures.fits

pub returns-in-Some-clause-past : goal.returns-in-Some-clause-past
returns-in-Some-clause-past c = if_err c.derived.result (λ fail. subst (IsCause fail) (bulk (goal.at.returns-in-Some-clause-past c).After-from c.index-before-place.result)) c.derived.ensures.past

pub returns-in-None-clause-coefficient : goal.returns-in-None-clause-coefficient
returns-in-None-clause-coefficient c =
    let S = c.args.space in
    let p : c.space-in-None.inside.p ≡ S.p = ap (λ (s : Space). s.p) c.space-in-None.view_is in
    let is : c.args.jet.now.dep < S.q = c.requires.jet.dependent in
    let size : length c.args.field.now.parts ≡ S.p + S.q = c.requires.field.size in
    let e = component_read c.args.field.now c.parts.result.now (S.p + c.args.jet.now.dep) c.from-in-None.result c.index-parts-from.result c.parts.ensures (c.from-in-None.ensures ∙ ap (λ n. n + c.args.jet.now.dep) p) (omega arith) c.index-parts-from.is in
    if_ok c.copy_part.result (λ made h. h ∙ e ∙ coefficient_first S (component c.args.field.now) c.args.jet.now c.in-None.ensures) c.copy_part.ensures.value
