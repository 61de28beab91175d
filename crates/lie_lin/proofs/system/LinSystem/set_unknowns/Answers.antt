use Rattle.std.proofs.Common.{sym, subst, ◌+◌, map}
use Rattle.lie_systems.specs.ValidSystems.{IsValid}
use Rattle.lie_lin.specs.Systems.{SpaceSystem, unknown_of, with_unknowns}
use Rattle.lie_lin.proofs.system.LinSystem.set_unknowns.Goals as goal

pub invariant_of-self : goal.invariant_of-self
invariant_of-self c =
    subst (λ (s : SpaceSystem). IsValid (s.space.p + s.space.q) (with_unknowns s.system (map unknown_of c.args.unknowns.items) c.args.next))
    (sym c.self.view_is) c.requires
