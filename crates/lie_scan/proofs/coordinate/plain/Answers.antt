use Rattle.std.proofs.Common.{arith, ap}
use Rattle.lie_geometry.specs.Coordinates.{Space}
use Rattle.lie_scan.proofs.CountSteps.{zero_jet}
use Rattle.lie_scan.proofs.coordinate.plain.Goals as goal

pub returns-else-place-space-clause-variable : goal.returns-else-place-space-clause-variable
returns-else-place-space-clause-variable c =
    let p = ap (λ (s : Space). s.p) c.space.view_is in
    let above = c.if-place-space.false in
    let within = c.in-Some.ensures.within in
    let small = c.space.invariant in
    let q = ap (λ (s : Space). s.q) c.space.view_is in
    let both = c.requires in
    zero_jet c.args.space _ (omega arith) (omega arith) (omega arith) (omega arith) (omega arith)
