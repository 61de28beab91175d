use Rattle.std.specs.Prelude.{◌≡◌, ◌+◌, List, [], ◌∷◌, ◌++◌, length, map}
use Rattle.std.proofs.Common.{ap₂, sym, subst, ◌∙◌, refl}
use Rattle.lie_math.specs.LinearForm.{LinearForm, unknown_form}
use Rattle.lie_math.specs.LinearSystem.{LinearSystem}
use Rattle.lie_systems.specs.ValidSystems.{IsValid}
use Rattle.lie_lin.specs.EquationLists.{IsEquationFor}
use Rattle.lie_lin.specs.Systems.{SpaceSystem, system_of, unknown_of, with_unknowns}
use Rattle.lie_lin.proofs.OpeningSystem.{is_worked, for_worked, worked, worked_is_valid, equation_for_worked, worked_with_unknowns, first, second}
use Rattle.lie_lin.proofs.system_tests.fields.Goals as goal

abbrev behind : List LinearForm → LinearForm → List LinearForm
behind l e = l ++ e ∷ []

pub new-requires : goal.new-requires
new-requires c =
    subst (IsValid 2) (sym (is_worked c.in_ok-unknowns.unknowns.items c.push.new.self.items c.push-3.new.self.items
    c.in_ok-unknowns.ensures
    (c.in_ok-push.ensures.items ∙ ap₂ behind c.new-equations.ensures.items c.in_ok-unknown.ensures)
    (c.in_ok-push-3.ensures.items ∙ ap₂ behind (c.in_ok-push-2.ensures.items ∙ ap₂ behind c.new-general.ensures.items c.in_ok-unknown-2.ensures) c.in_ok-unknown-3.ensures)))
    worked_is_valid

made : (c : goal.After-new) → c.new.result.system ≡ worked
made c =
    c.new.ensures.system ∙ is_worked c.in_ok-unknowns.unknowns.items c.push.new.self.items c.push-3.new.self.items
    c.in_ok-unknowns.ensures
    (c.in_ok-push.ensures.items ∙ ap₂ behind c.new-equations.ensures.items c.in_ok-unknown.ensures)
    (c.in_ok-push-3.ensures.items ∙ ap₂ behind (c.in_ok-push-2.ensures.items ∙ ap₂ behind c.new-general.ensures.items c.in_ok-unknown-2.ensures) c.in_ok-unknown-3.ensures)

pub returns-clause-counts : goal.returns-clause-counts
returns-clause-counts c = for_worked (λ (s : SpaceSystem). (length s.system.unknowns ≡ 2) × (length s.system.equations ≡ 1) × (length s.system.general ≡ 2) × (s.system.next ≡ 3)) c.new.result c.new.ensures.space (made c) (refl, refl, refl, refl)

pub returns-clause-forms : goal.returns-clause-forms
returns-clause-forms c = for_worked (λ (s : SpaceSystem). IsEquationFor (s.space.p + s.space.q) s.system (unknown_form 2)) c.new.result c.new.ensures.space (made c) equation_for_worked

pub returns-clause-unknowns : goal.returns-clause-unknowns
returns-clause-unknowns c =
    for_worked (λ (s : SpaceSystem). IsValid (s.space.p + s.space.q) (with_unknowns s.system (map unknown_of (first ∷ second ∷ [])) 4))
    c.new.result c.new.ensures.space (made c) worked_with_unknowns
