use Rattle.std.specs.Prelude.{◌<◌, cond}
use Rattle.std.proofs.Common.{sym, ap, ◌∙◌}
use Rattle.lie_math.specs.LinearForm.{LinearForm, no_form}
use Rattle.lie_geometry.specs.Coordinates.{coordinate}
use Rattle.lie_geometry.specs.SymbolicProlongation.{symbolic_coefficient_at}
use Rattle.lie_jet.proofs.TotalParts.{if_ok}
use Rattle.lie_symbolic.proofs.SymbolicWithin.{jet_at, low_is_independent, independent_coefficient}
use Rattle.lie_symbolic.proofs.symbolic.coefficient_at.Goals as goal

pub symbolic_coefficient-requires : goal.symbolic_coefficient-requires
symbolic_coefficient-requires c = jet_at c.args.space c.in-Some.ensures.small c.args.number c.in-Some.jet c.in-Some.ensures.jet.0 c.in-Some.ensures.jet.1 c.requires

pub returns-in-None : goal.returns-in-None
returns-in-None c =
    let S = c.args.space in
    let small = c.in-None.ensures.small in
    let low : c.args.number < S.p = low_is_independent S small c.args.number c.in-None.ensures.jet c.requires in
    if_ok c.component.result (λ (made : LinearForm) h. h ∙ independent_coefficient S small c.args.number low
    ∙ sym (ap (λ b. cond b (symbolic_coefficient_at S (coordinate S c.args.number)) no_form) (sym c.contains.ensures.value ∙ c.if-not-contains.false))) c.component.ensures
