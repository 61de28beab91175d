use Rattle.std.proofs.Common.{sym, subst, ◌+◌}
use Rattle.lie_lin.specs.EquationLists.{IsEquationFor}
use Rattle.lie_lin.specs.Systems.{SpaceSystem, system_of}
use Rattle.lie_lin.proofs.SystemSteps.{valid_replaced}
use Rattle.lie_lin.proofs.system.LinSystem.replace_equation.Goals as goal

pub invariant_of-self : goal.invariant_of-self
invariant_of-self c =
    valid_replaced (c.self.inside.space.p + c.self.inside.space.q) (system_of c.self.inside.unknowns.items c.self.inside.equations.items c.self.inside.general.items c.self.inside.next) c.self.invariant c.args.eq
    (subst (λ (s : SpaceSystem). IsEquationFor (s.space.p + s.space.q) s.system c.args.eq) (sym c.self.view_is) c.requires.equation)
    c.replace_equation.result c.args.place c.replace_equation.new.equations.items c.replace_equation.ensures.put c.replace_equation.ensures.kept
