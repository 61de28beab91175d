use Rattle.std.proofs.Common.{arith, ap, ◌≡◌}
use Rattle.lie_geometry.specs.Coordinates.{Space}
use Rattle.lie_solved.proofs.Greatest.{best_first, best_of_two}
use Rattle.lie_solved.proofs.lead.greater_of.Goals as goal

pub returns-in-None-best : goal.returns-in-None-best
returns-in-None-best c = λ ws h.
    let p : c.space.inside.p ≡ c.args.space.p = ap (λ (s : Space). s.p) c.space.view_is in
    let q : c.space.inside.q ≡ c.args.space.q = ap (λ (s : Space). s.q) c.space.view_is in
    best_first c.args.space c.in-Some.ensures.small c.args.number c.in-Some.jet (omega (arith, c.if-number-from.false)) c.in-Some.ensures.jet ws (rw c.in-None-best.is at h)

pub returns-in-Some-best : goal.returns-in-Some-best
returns-in-Some-best c = λ ws h.
    let p : c.space.inside.p ≡ c.args.space.p = ap (λ (s : Space). s.p) c.space.view_is in
    let q : c.space.inside.q ≡ c.args.space.q = ap (λ (s : Space). s.q) c.space.view_is in
    best_of_two c.args.space c.in-Some.ensures.small c.args.number c.in-Some.jet (omega (arith, c.if-number-from.false)) c.in-Some.ensures.jet ws c.in-Some-best.other c.greater.result c.greater.ensures (rw c.in-Some-best.is at h)
