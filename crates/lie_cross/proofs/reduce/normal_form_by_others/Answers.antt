use Rattle.std.proofs.Common.{◌+◌, sym, ap, ◌∙◌, map, remove, get_or, List}
use Rattle.lie_math.specs.LinearForm.{LinearForm}
use Rattle.lie_lin.specs.Systems.{unknown_of}
use Rattle.lie_steps.specs.Equations.{equation}
use Rattle.lie_cross.proofs.ReducibleForms.{equation_is, same_forms}
use Rattle.lie_cross.proofs.ReducedEquations.{reduce_forms, restored, same_valid, set_back}
use Rattle.lie_cross.proofs.reduce.normal_form_by_others.Goals as goal

pub normal_form-answer-requires : goal.normal_form-answer-requires
normal_form-answer-requires c =
    let S = c.args.system.now.system in
    let taken = c.take_equations-equations.ensures.taken in
    same_forms S.unknowns (map unknown_of c.unknowns.result.now) (equation S c.args.place) c.remove-equation.result
    (remove S.equations c.args.place) c.as_slice.result.now
    (sym (c.unknowns.ensures ∙ ap (λ s. s.unknowns) c.take_equations-equations.ensures.system))
    (equation_is S c.take_equations-equations.result.items c.args.place c.remove-equation.result taken c.requires
    c.remove-equation.ensures.value)
    (sym (c.as_slice.ensures.value ∙ c.remove-equation.ensures.items ∙ ap (λ (es : List LinearForm). remove es c.args.place) taken))
    (reduce_forms _ S c.system_is_valid.ensures.valid c.args.place c.requires c.system_is_valid.ensures.few)

pub set_equations-requires : goal.set_equations-requires
set_equations-requires c =
    let S = c.args.system.now.system in
    let taken = c.take_equations-equations.ensures.taken in
    let at = c.remove-equation.ensures.value ∙ ap (λ (es : List LinearForm). get_or es c.args.place c.remove-equation.result) taken in
    let back = c.put_back.ensures
    ∙ ap (λ (es : List LinearForm). Rattle.std.specs.List.insert es c.args.place c.remove-equation.result)
    (c.remove-equation.ensures.items ∙ ap (λ (es : List LinearForm). remove es c.args.place) taken)
    ∙ restored S.equations c.args.place c.remove-equation.result c.requires at in
    same_valid (c.args.system.now.space.p + c.args.system.now.space.q) _ S _
    (ap (λ s. s.p + s.q) (sym c.take_equations-equations.ensures.space))
    (set_back S c.take_equations-equations.new.self.system c.put_back.new.equations.items c.take_equations-equations.ensures.system back)
    c.system_is_valid.ensures.valid
