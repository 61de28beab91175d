use Rattle.std.proofs.Common.{sym, subst, ◌+◌}
use Rattle.lie_lin.specs.EquationLists.{IsEquationFor}
use Rattle.lie_lin.specs.Systems.{SpaceSystem, system_of}
use Rattle.lie_lin.proofs.SystemSteps.{valid_put}
use Rattle.lie_lin.proofs.system.LinSystem.put_equation.Goals as goal

pub invariant_of-self : goal.invariant_of-self
invariant_of-self c =
    valid_put (c.self.inside.space.p + c.self.inside.space.q) (system_of c.self.inside.unknowns.items c.self.inside.equations.items c.self.inside.general.items c.self.inside.next) c.self.invariant c.args.eq
    (subst (λ (s : SpaceSystem). IsEquationFor (s.space.p + s.space.q) s.system c.args.eq) (sym c.self.view_is) c.requires)
    c.put_equation.result c.put_equation.new.equations.items c.put_equation.ensures.put c.put_equation.ensures.kept
