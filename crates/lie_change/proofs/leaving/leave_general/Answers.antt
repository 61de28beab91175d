use Rattle.std.proofs.Common.{◌++◌, ◌+◌, List, [], map, ap, ◌∙◌, sym}
use Rattle.lie_math.specs.LinearForm.{LinearForm}
use Rattle.lie_math.specs.LinearSystem.{LinearSystem}
use Rattle.lie_lin.specs.Systems.{system_of, unknown_of, with_equations, with_unknowns}
use Rattle.lie_change.specs.Lists.{unmentioned}
use Rattle.lie_change.proofs.ChangedSystems.{valid_at, left_valid, emptied_valid, changed_cause}
use Rattle.lie_tables.proofs.Following.{follows_same, index_same}
use Rattle.lie_change.proofs.leaving.leave_general.Goals as goal

pub set_unknowns-requires : goal.set_unknowns-requires
set_unknowns-requires c =
    let S = c.args.system.now.system in
    let us = map unknown_of c.args.unknowns.items in
    let n = c.args.system.now.space.p + c.args.system.now.space.q in
    let X = system_of c.args.unknowns.items (unmentioned c.args.number S.equations ++ c.args.forms.now) S.general c.args.next in
    let Ns = c.put_for_unknown.new.equations.items in
    valid_at c.take_equations-equations.new.self.space c.args.system.now.space
    (with_unknowns c.take_equations-equations.new.self.system us c.args.next) (with_equations X [])
    c.take_equations-equations.ensures.space
    (ap (λ (Z : LinearSystem). with_unknowns Z us c.args.next) c.take_equations-equations.ensures.system)
    (emptied_valid n (with_equations X Ns) (left_valid n X (unmentioned c.args.number c.take_equations-equations.result.items
    ++ c.args.forms.now) Ns
    (ap (λ (es : List LinearForm). unmentioned c.args.number es
    ++ c.args.forms.now) c.take_equations-equations.ensures.taken) c.in-Ok.ensures.tidied c.requires.valid))

pub set_equations-requires : goal.set_equations-requires
set_equations-requires c =
    let S = c.args.system.now.system in
    let us = map unknown_of c.args.unknowns.items in
    let n = c.args.system.now.space.p + c.args.system.now.space.q in
    let X = system_of c.args.unknowns.items (unmentioned c.args.number S.equations ++ c.args.forms.now) S.general c.args.next in
    let Ns = c.put_for_unknown.new.equations.items in
    valid_at c.set_unknowns.new.self.space c.args.system.now.space (with_equations c.set_unknowns.new.self.system Ns) (with_equations X Ns)
    (c.set_unknowns.ensures.space ∙ c.take_equations-equations.ensures.space)
    (ap (λ (Z : LinearSystem). with_equations Z Ns) (c.set_unknowns.ensures.system
    ∙ ap (λ (Z : LinearSystem). with_unknowns Z us c.args.next) c.take_equations-equations.ensures.system))
    (left_valid n X (unmentioned c.args.number c.take_equations-equations.result.items ++ c.args.forms.now) Ns
    (ap (λ (es : List LinearForm). unmentioned c.args.number es
    ++ c.args.forms.now) c.take_equations-equations.ensures.taken) c.in-Ok.ensures.tidied c.requires.valid)

pub returns-in-Err-clause-past : goal.returns-in-Err-clause-past
returns-in-Err-clause-past c =
    let S = c.args.system.now.system in
    let X = system_of c.args.unknowns.items (unmentioned c.args.number S.equations ++ c.args.forms.now) S.general c.args.next in
    changed_cause X X.equations (unmentioned c.args.number c.take_equations-equations.result.items
    ++ c.args.forms.now) c.general.result.now c.put_for_unknown.new.equations.items
    (ap (λ (es : List LinearForm). unmentioned c.args.number es ++ c.args.forms.now) c.take_equations-equations.ensures.taken)
    (c.general.ensures ∙ ap (λ (Z : LinearSystem). Z.general) c.take_equations-equations.ensures.system) c.in-Err.fail c.in-Err.ensures.past

pub put_for_unknown-requires-clause-indexed : goal.put_for_unknown-requires-clause-indexed
put_for_unknown-requires-clause-indexed c =
    index_same c.args.tables.now _ _ (sym c.take_equations-equations.ensures.taken) c.requires.indexed

pub returns-in-Err-clause-indexed : goal.returns-in-Err-clause-indexed
returns-in-Err-clause-indexed c =
    follows_same c.args.tables.now c.put_for_unknown.new.tables _ _
    (sym (ap (λ (Z : LinearSystem). Z.equations) c.set_equations-in-Err.ensures.system)) c.put_for_unknown.ensures.indexed

pub returns-in-Ok-clause-indexed : goal.returns-in-Ok-clause-indexed
returns-in-Ok-clause-indexed c =
    follows_same c.args.tables.now c.put_for_unknown.new.tables _ _
    (sym (ap (λ (Z : LinearSystem). Z.equations) c.set_equations.ensures.system)) c.put_for_unknown.ensures.indexed
