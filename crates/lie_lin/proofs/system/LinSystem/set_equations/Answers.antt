use Rattle.std.proofs.Common.{sym, subst, ◌+◌}
use Rattle.lie_systems.specs.ValidSystems.{IsValid}
use Rattle.lie_lin.specs.Systems.{SpaceSystem, with_equations}
use Rattle.lie_lin.proofs.system.LinSystem.set_equations.Goals as goal

pub invariant_of-self : goal.invariant_of-self
invariant_of-self c =
    subst (λ (s : SpaceSystem). IsValid (s.space.p + s.space.q) (with_equations s.system c.args.equations.items)) (sym c.self.view_is) c.requires
