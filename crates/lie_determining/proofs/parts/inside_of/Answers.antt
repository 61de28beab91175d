use Rattle.std.proofs.Common.{◌≡◌, ◌≤◌, ◌<◌, ◌+◌, ◌∙◌, refl, subst, false, ltb, length, arith}
use Rattle.std.proofs.lemmas.List.{length-set}
use Rattle.lie_parts.proofs.FilledPlaces.{set_more}
use Rattle.lie_determining.proofs.InnerVariables.{inside_z}
use Rattle.lie_determining.proofs.parts.inside_of.Goals as goal

pub loop-var-preserved : goal.loop-var-preserved
loop-var-preserved c =
    let eight : length c.loop-var.inside ≡ 8 = c.loop-var.invariant.places in
    let lt : c.loop-var.var < length c.loop-var.inside = omega (arith, eight, c.loop-var-test.true) in record {
      places = length-set c.loop-var.inside c.loop-var.var _ ∙ eight;
      same = set_more (λ v. ltb v c.count_z-bound.result) false c.loop-var.inside c.loop-var.var _ lt c.loop-var.invariant.same refl;
    }

pub returns : goal.returns
returns c =
    inside_z (c.args.space.p + c.args.space.q) c.loop-var.inside c.loop-var.var c.count_z-bound.result c.loop-var.invariant.places c.loop-var-test.false c.count_z-bound.ensures.count
    (subst (λ k. k ≤ 8) c.count_z-bound.ensures.count c.count_z-bound.ensures.low) c.loop-var.invariant.same
