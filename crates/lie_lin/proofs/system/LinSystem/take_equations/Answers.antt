use Rattle.std.proofs.Common.{sym, ap, subst, ◌∙◌, ◌+◌, List}
use Rattle.lie_math.specs.LinearForm.{LinearForm}
use Rattle.lie_systems.specs.ValidSystems.{IsValid}
use Rattle.lie_lin.specs.Systems.{system_of}
use Rattle.lie_lin.proofs.EquationPlaces.{valid_taken}
use Rattle.lie_lin.proofs.system.LinSystem.take_equations.Goals as goal

pub invariant_of-self : goal.invariant_of-self
invariant_of-self c =
    let s = c.self.inside in
    subst (λ (es : List LinearForm). IsValid (s.space.p + s.space.q) (system_of s.unknowns.items es s.general.items s.next))
    (sym (ap (λ v. v.items) c.replace.ensures.after ∙ c.new.ensures.items))
    (valid_taken (s.space.p + s.space.q) (system_of s.unknowns.items s.equations.items s.general.items s.next) c.self.invariant)
