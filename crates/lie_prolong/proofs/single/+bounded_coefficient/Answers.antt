use Rattle.std.proofs.Common.{ap, arith, sym, subst, ◌∙◌, ◌≡◌, ◌<◌, ◌≤◌, ◌+◌, length, take}
use Rattle.lie_math.specs.Counts.{order}
use Rattle.lie_math.specs.Derivation.{is_below}
use Rattle.lie_math.specs.Limits.{IsWithinLimits, absolute}
use Rattle.lie_math.specs.Polynomial.{WholePolynomial, ◌+ᴾ◌, negᴾ}
use Rattle.lie_math.specs.Variables.{IsIn}
use Rattle.lie_math.specs.VectorField.{component}
use Rattle.lie_geometry.specs.Coordinates.{Space, Coordinate, coordinates_up_to}
use Rattle.lie_geometry.specs.Prolongation.{total_derivative}
use Rattle.lie_jet.specs.Lowered.{IsLowered}
use Rattle.lie_jet.proofs.TotalParts.{if_ok}
use Rattle.lie_prolong.specs.Bulks.{multiples, bulk_at}
use Rattle.lie_prolong.proofs.Absolutes.{component_in_z}
use Rattle.lie_prolong.proofs.FieldBounds.{holds_at}
use Rattle.lie_prolong.proofs.Multiples.{component_read}
use Rattle.lie_prolong.proofs.Recursion.{low_coefficient, coefficient_stepped, bulk_stepped, coefficient_first}
use Rattle.lie_prolong.proofs.single.+bounded_coefficient.Goals as goal

pub step_within_limits-requires-clause-low : goal.step_within_limits-requires-clause-low
step_within_limits-requires-clause-low t c =
    let S = c.args.space in
    let low : IsLowered S c.args.jet.now c.in-Some.k c.in-Some.lower = c.in-Some.ensures in
    subst (IsIn (is_below (coordinates_up_to S 11))) (sym c.in_ok-before-in-Some.ensures) (low_coefficient S (component c.args.field.now) (component_in_z S c.args.field.now c.requires.field) c.in-Some.lower low.jet)

pub step_within_limits-requires-clause-limits : goal.step_within_limits-requires-clause-limits
step_within_limits-requires-clause-limits t c =
    let S = c.args.space in
    let V = component c.args.field.now in
    let j = c.args.jet.now in
    let low : order (take S.p j.counts) ≤ order (take S.p j.counts) = omega arith in
    subst IsWithinLimits (sym (ap (λ (P : WholePolynomial). total_derivative S c.in-Some.k (absolute P) +ᴾ multiples S (λ i. absolute (V i)) c.in-Some.k c.in-Some.lower.dep (take S.p c.in-Some.lower.counts)) c.in_ok-before-in-Some.ensures
    ∙ bulk_stepped S V j c.in-Some.lower c.in-Some.k c.in-Some.ensures)) (holds_at S (λ (x : Coordinate). IsWithinLimits (bulk_at S V x)) (order (take S.p j.counts)) j c.requires.jet low c.requires.limits)

pub returns-in_ok-before-in-Some : goal.returns-in_ok-before-in-Some
returns-in_ok-before-in-Some t c =
    let S = c.args.space in
    let V = component c.args.field.now in
    if_ok c.step_within_limits.result (λ (made : WholePolynomial) h. h ∙ ap (λ P. total_derivative S c.in-Some.k P +ᴾ negᴾ (multiples S V c.in-Some.k c.in-Some.lower.dep (take S.p c.in-Some.lower.counts))) c.in_ok-before-in-Some.ensures
    ∙ coefficient_stepped S V c.args.jet.now c.in-Some.lower c.in-Some.k c.in-Some.ensures) c.step_within_limits.ensures

pub returns-in-None : goal.returns-in-None
returns-in-None t c =
    let S = c.args.space in
    let p : c.space.inside.p ≡ S.p = ap (λ (s : Space). s.p) c.space.view_is in
    let is : c.args.jet.now.dep < S.q = c.requires.jet.dependent in
    let size : length c.args.field.now.parts ≡ S.p + S.q = c.requires.field.size in
    let e = component_read c.args.field.now c.parts.result.now (S.p + c.args.jet.now.dep) c.from.result c.index-parts-from.result c.parts.ensures (c.from.ensures ∙ ap (λ n. n + c.args.jet.now.dep) p) (omega arith) c.index-parts-from.is in
    if_ok c.copy.result (λ (made : WholePolynomial) h. h ∙ e ∙ coefficient_first S (component c.args.field.now) c.args.jet.now c.in-None.ensures) c.copy.ensures
