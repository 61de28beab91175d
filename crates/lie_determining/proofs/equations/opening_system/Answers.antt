use Rattle.std.proofs.Common.{◌≡◌, ◌+◌, ◌<◌, List, refl, sym, ap, ap₂, subst, ◌∙◌, add-one}
use Rattle.lie_math.specs.LinearForm.{LinearForm}
use Rattle.lie_geometry.specs.DeterminingEquations.{determining_system}
use Rattle.lie_systems.specs.ValidSystems.{IsValid}
use Rattle.lie_systems.specs.Bulk.{triple_count_of_all}
use Rattle.lie_determining.proofs.ValidOpening.{opening_is_valid, system_is}
use Rattle.lie_determining.proofs.equations.opening_system.Goals as goal

pub returns-in-None-clause-past : goal.returns-in-None-clause-past
returns-in-None-clause-past c =
    let count : triple_count_of_all c.as_slice.result.now + triple_count_of_all c.as_slice-2.result.now ≡ triple_count_of_all c.in_ok-equations.equations.items + triple_count_of_all (determining_system c.args.space c.in_ok-equations.equations.items).general =
    ap₂ (λ (es fs : List LinearForm). triple_count_of_all es + triple_count_of_all fs) c.as_slice.ensures.value (c.as_slice-2.ensures.value ∙ c.in_ok-general.ensures) in (
      refl,
      (determining_system c.args.space c.in_ok-equations.equations.items, (c.in_ok-equations.equations.items, c.in_ok-equations.ensures, refl), subst (λ n. 1000000 < n) count c.in-None.ensures),
    )

pub new-requires : goal.new-requires
new-requires c =
    subst (IsValid (c.args.space.p + c.args.space.q))
    (sym (system_is c.args.space c.in_ok-unknowns.unknowns.items c.in_ok-equations.equations.items c.in_ok-general.general.items (c.count_z-next.result + 1) c.in_ok-unknowns.ensures c.in_ok-general.ensures (ap (λ n. n + 1) c.count_z-next.ensures.count ∙ add-one (c.args.space.p + c.args.space.q))))
    (opening_is_valid c.args.space c.args.conditions.now c.in_ok-equations.equations.items c.requires.derivatives c.in_ok-equations.ensures)
