use Rattle.std.specs.Prelude.{List, [], ◌∷◌, ◌++◌}
use Rattle.std.proofs.Common.{ap₂, sym, subst, ◌∙◌}
use Rattle.lie_math.specs.LinearForm.{LinearForm}
use Rattle.lie_systems.specs.ValidSystems.{IsValid}
use Rattle.lie_lin.proofs.OpeningSystem.{is_worked, worked_is_valid}
use Rattle.lie_change.proofs.changing_tests.fields.Goals as goal

abbrev behind : List LinearForm → LinearForm → List LinearForm
behind l e = l ++ e ∷ []

pub new-requires : goal.new-requires
new-requires c =
    subst (IsValid 2) (sym (is_worked c.in_ok-unknowns.unknowns.items c.push.new.self.items c.push-3.new.self.items
    c.in_ok-unknowns.ensures
    (c.in_ok-push.ensures.items ∙ ap₂ behind c.new-equations.ensures.items c.in_ok-unknown.ensures)
    (c.in_ok-push-3.ensures.items ∙ ap₂ behind (c.in_ok-push-2.ensures.items
    ∙ ap₂ behind c.new-general.ensures.items c.in_ok-unknown-2.ensures) c.in_ok-unknown-3.ensures)))
    worked_is_valid

pub returns-clause-system : goal.returns-clause-system
returns-clause-system c =
    c.new.ensures.system ∙ is_worked c.in_ok-unknowns.unknowns.items c.push.new.self.items c.push-3.new.self.items
    c.in_ok-unknowns.ensures
    (c.in_ok-push.ensures.items ∙ ap₂ behind c.new-equations.ensures.items c.in_ok-unknown.ensures)
    (c.in_ok-push-3.ensures.items ∙ ap₂ behind (c.in_ok-push-2.ensures.items
    ∙ ap₂ behind c.new-general.ensures.items c.in_ok-unknown-2.ensures) c.in_ok-unknown-3.ensures)
