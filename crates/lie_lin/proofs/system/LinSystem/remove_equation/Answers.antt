use Rattle.std.proofs.Common.{ap, length, ◌+◌, arith}
use Rattle.lie_lin.proofs.SystemSteps.{valid_equations}
use Rattle.lie_lin.specs.Systems.{SpaceSystem}
use Rattle.lie_lin.proofs.system.LinSystem.remove_equation.Goals as goal

pub invariant_of-self : goal.invariant_of-self
invariant_of-self c =
    let same = ap (λ (s : SpaceSystem). length s.system.equations) c.self.view_is in
    let lt = c.requires in
    valid_equations (c.self.inside.space.p + c.self.inside.space.q) c.self.inside.unknowns.items c.self.inside.equations.items
    c.self.inside.general.items c.remove.new.self.items c.self.inside.next c.args.place c.remove.ensures.items (omega arith) c.self.invariant
