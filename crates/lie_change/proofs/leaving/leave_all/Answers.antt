use Rattle.std.proofs.Common.{◌++◌, ◌+◌, List, refl, ap, sym}
use Rattle.lie_math.specs.LinearForm.{LinearForm}
use Rattle.lie_math.specs.LinearSystem.{LinearSystem}
use Rattle.lie_lin.specs.Systems.{system_of}
use Rattle.lie_change.specs.Lists.{unmentioned}
use Rattle.lie_change.proofs.ChangedSystems.{valid_at, left_valid, changed_cause}
use Rattle.lie_tables.proofs.Following.{follows_same, index_same}
use Rattle.lie_change.proofs.leaving.leave_all.Goals as goal

pub new-requires : goal.new-requires
new-requires c =
    let X = system_of c.args.unknowns.items (unmentioned c.args.number c.args.system.now.system.equations
    ++ c.args.forms.now) c.args.general.items c.args.next in
    let Ns = c.put_for_unknown.new.equations.items in
    valid_at c.space-space.result c.args.system.now.space (system_of c.args.unknowns.items Ns c.args.general.items c.args.next)
    (system_of c.args.unknowns.items Ns c.args.general.items c.args.next) c.space-space.ensures.space refl
    (left_valid (c.args.system.now.space.p + c.args.system.now.space.q) X
    (unmentioned c.args.number c.take_equations-equations.result.items ++ c.args.forms.now) Ns
    (ap (λ (es : List LinearForm). unmentioned c.args.number es
    ++ c.args.forms.now) c.take_equations-equations.ensures.taken) c.in-Ok.ensures.tidied c.requires.valid)

pub returns-in-Err-clause-past : goal.returns-in-Err-clause-past
returns-in-Err-clause-past c =
    let X = system_of c.args.unknowns.items (unmentioned c.args.number c.args.system.now.system.equations
    ++ c.args.forms.now) c.args.general.items c.args.next in
    changed_cause X X.equations (unmentioned c.args.number c.take_equations-equations.result.items
    ++ c.args.forms.now) c.as_slice.result.now c.put_for_unknown.new.equations.items
    (ap (λ (es : List LinearForm). unmentioned c.args.number es
    ++ c.args.forms.now) c.take_equations-equations.ensures.taken) c.as_slice.ensures.value c.in-Err.fail c.in-Err.ensures.past

pub put_for_unknown-requires-clause-indexed : goal.put_for_unknown-requires-clause-indexed
put_for_unknown-requires-clause-indexed c =
    index_same c.args.tables.now _ _ (sym c.take_equations-equations.ensures.taken) c.requires.indexed

pub returns-in-Err-clause-indexed : goal.returns-in-Err-clause-indexed
returns-in-Err-clause-indexed c =
    follows_same c.args.tables.now c.put_for_unknown.new.tables _ _
    (sym (ap (λ (Z : LinearSystem). Z.equations) c.set_equations.ensures.system)) c.put_for_unknown.ensures.indexed

pub returns-in-Ok-clause-indexed : goal.returns-in-Ok-clause-indexed
returns-in-Ok-clause-indexed c =
    follows_same c.args.tables.now c.put_for_unknown.new.tables _ _ (sym (ap (λ (Z : LinearSystem). Z.equations) c.new.ensures.system))
    c.put_for_unknown.ensures.indexed
