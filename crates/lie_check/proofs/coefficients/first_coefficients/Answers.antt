use Rattle.std.proofs.Common.{arith, ap, ◌<◌, ◌≡◌, length}
use Rattle.lie_math.specs.VectorField.{component}
use Rattle.lie_geometry.specs.Coordinates.{Space}
use Rattle.lie_prolong.proofs.Multiples.{component_read}
use Rattle.lie_check.proofs.NumberedCoefficients.{first_more}
use Rattle.lie_check.proofs.coefficients.first_coefficients.Goals as goal

pub loop-i-preserved : goal.loop-i-preserved
loop-i-preserved c =
    let q : c.space.inside.p ≡ c.args.space.p = ap (λ (s : Space). s.p) c.space.view_is in
    let lt : c.loop-i.i < c.args.space.p = let t = c.loop-i-test.true in omega arith in
    let low : c.loop-i.i < length c.args.field.now.parts = let n = c.requires.size in omega arith in
    first_more c.args.space (component c.args.field.now) c.args.numbers.now c.loop-i.i c.from.result c.index-parts-from.result c.loop-i.made.items c.push_copy.new.made.items lt c.loop-i.invariant c.in_ok-push_copy.ensures c.from.ensures
    (component_read c.args.field.now c.parts.result.now c.loop-i.i c.from-in-loop-i.result c.index-parts-from.result c.parts.ensures c.from-in-loop-i.ensures low c.index-parts-from.is)
