use Rattle.std.proofs.Common.{refl, ◌++◌, ◌+◌, length, map, sym, unsigned_abs}
use Rattle.std.proofs.lemmas.Result.{err_from_is_err_and}
use Rattle.lie_lin.specs.Systems.{system_of, unknown_of}
use Rattle.lie_change.specs.Lists.{unmentioned, left_by}
use Rattle.lie_change.proofs.Eliminations.{listed_after, equations_past, equations_fit, forms_are_free, some_alike, none_alike}
use Rattle.lie_change.proofs.Eliminations.{general_past, general_fit, general_none}
use Rattle.lie_change.proofs.ReplacedWorks.{alike_tidied, alike_fits, alike_past}
use Rattle.lie_change.proofs.SystemEnds.{valid_alike}
use Rattle.lie_change.proofs.eliminating.eliminate_by.Goals as goal

pub returns-in_err-forms-clause-past : goal.returns-in_err-forms-clause-past
returns-in_err-forms-clause-past c =
    let p = err_from_is_err_and c.from_residual-in_err-forms.result c.from_residual-in_err-forms.ensures.1 in
    rw (p.1, p.2) (equations_past c.args.system.now.system c.args.place c.args.number c.args.form.now
    (unsigned_abs c.args.divisor) c.args.fresh.now c.in_ok-unknowns.unknowns.items c.as_slice-listed.result.now c.unknowns.result.now
    c.in_ok-unknowns.ensures c.unknowns.ensures c.as_slice-listed.ensures.value
    c.equations-equations.result.now c.equations-equations.ensures
    (left_by c.args.divided c.args.system.now.system c.args.place c.args.number c.args.form.now (unsigned_abs c.args.divisor)
    (map unknown_of c.args.fresh.now))
    c.in_err-forms.field-0.0 c.in_err-forms.ensures.past)

pub returns-in_err-general-clause-past : goal.returns-in_err-general-clause-past
returns-in_err-general-clause-past c =
    let p = err_from_is_err_and c.from_residual-in_err-general.result c.from_residual-in_err-general.ensures.1 in
    rw (p.1, p.2) (general_past c.args.system.now.system c.args.place c.args.number c.args.form.now
    (unsigned_abs c.args.divisor) c.args.fresh.now c.in_ok-unknowns.unknowns.items c.as_slice-listed.result.now c.unknowns.result.now
    c.in_ok-unknowns.ensures c.unknowns.ensures c.as_slice-listed.ensures.value
    c.general-general.result.now c.general-general.ensures
    (left_by c.args.divided c.args.system.now.system c.args.place c.args.number c.args.form.now (unsigned_abs c.args.divisor)
    (map unknown_of c.args.fresh.now))
    c.in_err-general.field-0.0 c.in_err-general.ensures.past)

-- ---- where one of the general forms has the unknown
pub leave_all-requires-clause-free : goal.leave_all-requires-clause-free
leave_all-requires-clause-free c =
    forms_are_free c.args.system.now.system c.args.place c.args.number c.args.form.now
    (unsigned_abs c.args.divisor) c.args.fresh.now c.in_ok-unknowns.unknowns.items c.as_slice-listed.result.now c.unknowns.result.now
    c.in_ok-unknowns.ensures c.unknowns.ensures c.as_slice-listed.ensures.value
    c.equations-equations.result.now c.equations-equations.ensures c.as_slice.result.now c.in_ok-forms.forms.items c.as_slice.ensures.value
    c.in_ok-forms.ensures.replaced c.requires.free

pub leave_all-requires-clause-valid : goal.leave_all-requires-clause-valid
leave_all-requires-clause-valid c =
    valid_alike (c.args.system.now.space.p + c.args.system.now.space.q)
    (system_of c.in_ok-unknowns.unknowns.items (unmentioned c.args.number c.args.system.now.system.equations
    ++ c.as_slice.result.now) c.in_ok-general.general.items (c.next.result + length c.args.fresh.now))
    (left_by c.args.divided c.args.system.now.system c.args.place c.args.number c.args.form.now (unsigned_abs c.args.divisor)
    (map unknown_of c.args.fresh.now))
    (some_alike c.args.system.now.system c.args.place c.args.number c.args.form.now
    (unsigned_abs c.args.divisor) c.args.fresh.now c.in_ok-unknowns.unknowns.items c.as_slice-listed.result.now c.unknowns.result.now
    c.in_ok-unknowns.ensures c.unknowns.ensures c.as_slice-listed.ensures.value
    c.equations-equations.result.now c.equations-equations.ensures c.as_slice.result.now c.in_ok-forms.forms.items c.as_slice.ensures.value
    c.in_ok-forms.ensures.replaced c.args.divided c.requires.place c.requires.own c.next.result c.next.ensures
    c.general-general.result.now c.general-general.ensures
    c.in_ok-general.general.items c.in_ok-general.ensures.replaced) c.requires.valid

pub returns-then-any_mentions-clause-tidied : goal.returns-then-any_mentions-clause-tidied
returns-then-any_mentions-clause-tidied c =
    alike_tidied c.leave_all.result (system_of c.in_ok-unknowns.unknowns.items
    (unmentioned c.args.number c.args.system.now.system.equations ++ c.as_slice.result.now) c.in_ok-general.general.items
    (c.next.result + length c.args.fresh.now))
    (left_by c.args.divided c.args.system.now.system c.args.place c.args.number c.args.form.now (unsigned_abs c.args.divisor)
    (map unknown_of c.args.fresh.now)) c.leave_all.new.system.system
    (some_alike c.args.system.now.system c.args.place c.args.number c.args.form.now
    (unsigned_abs c.args.divisor) c.args.fresh.now c.in_ok-unknowns.unknowns.items c.as_slice-listed.result.now c.unknowns.result.now
    c.in_ok-unknowns.ensures c.unknowns.ensures c.as_slice-listed.ensures.value
    c.equations-equations.result.now c.equations-equations.ensures c.as_slice.result.now c.in_ok-forms.forms.items c.as_slice.ensures.value
    c.in_ok-forms.ensures.replaced c.args.divided c.requires.place c.requires.own c.next.result c.next.ensures
    c.general-general.result.now c.general-general.ensures
    c.in_ok-general.general.items c.in_ok-general.ensures.replaced) c.leave_all.ensures.tidied

pub returns-then-any_mentions-clause-fits : goal.returns-then-any_mentions-clause-fits
returns-then-any_mentions-clause-fits c =
    alike_fits c.args.system.now.system c.args.place c.args.number c.args.form.now (unsigned_abs c.args.divisor)
    (map unknown_of c.args.fresh.now) (map unknown_of c.as_slice-listed.result.now)
    (listed_after c.args.system.now.system c.args.place c.args.number c.args.form.now
    (unsigned_abs c.args.divisor) c.args.fresh.now c.in_ok-unknowns.unknowns.items c.as_slice-listed.result.now c.unknowns.result.now
    c.in_ok-unknowns.ensures c.unknowns.ensures c.as_slice-listed.ensures.value) c.leave_all.result
    (system_of c.in_ok-unknowns.unknowns.items (unmentioned c.args.number c.args.system.now.system.equations
    ++ c.as_slice.result.now) c.in_ok-general.general.items (c.next.result + length c.args.fresh.now))
    (left_by c.args.divided c.args.system.now.system c.args.place c.args.number c.args.form.now (unsigned_abs c.args.divisor)
    (map unknown_of c.args.fresh.now))
    (some_alike c.args.system.now.system c.args.place c.args.number c.args.form.now
    (unsigned_abs c.args.divisor) c.args.fresh.now c.in_ok-unknowns.unknowns.items c.as_slice-listed.result.now c.unknowns.result.now
    c.in_ok-unknowns.ensures c.unknowns.ensures c.as_slice-listed.ensures.value
    c.equations-equations.result.now c.equations-equations.ensures c.as_slice.result.now c.in_ok-forms.forms.items c.as_slice.ensures.value
    c.in_ok-forms.ensures.replaced c.args.divided c.requires.place c.requires.own c.next.result c.next.ensures
    c.general-general.result.now c.general-general.ensures
    c.in_ok-general.general.items c.in_ok-general.ensures.replaced)
    (equations_fit c.args.system.now.system c.args.place c.args.number c.args.form.now
    (unsigned_abs c.args.divisor) c.args.fresh.now c.in_ok-unknowns.unknowns.items c.as_slice-listed.result.now c.unknowns.result.now
    c.in_ok-unknowns.ensures c.unknowns.ensures c.as_slice-listed.ensures.value
    c.equations-equations.result.now c.equations-equations.ensures c.in_ok-forms.ensures.fits)
    (general_fit c.args.system.now.system c.args.place c.args.number c.args.form.now
    (unsigned_abs c.args.divisor) c.args.fresh.now c.in_ok-unknowns.unknowns.items c.as_slice-listed.result.now c.unknowns.result.now
    c.in_ok-unknowns.ensures c.unknowns.ensures c.as_slice-listed.ensures.value
    c.general-general.result.now c.general-general.ensures c.in_ok-general.ensures.fits) c.leave_all.ensures.fits

pub returns-then-any_mentions-clause-past : goal.returns-then-any_mentions-clause-past
returns-then-any_mentions-clause-past c =
    alike_past c.args.system.now.system c.args.place c.args.number c.args.form.now (unsigned_abs c.args.divisor)
    (map unknown_of c.args.fresh.now) (map unknown_of c.as_slice-listed.result.now)
    (listed_after c.args.system.now.system c.args.place c.args.number c.args.form.now
    (unsigned_abs c.args.divisor) c.args.fresh.now c.in_ok-unknowns.unknowns.items c.as_slice-listed.result.now c.unknowns.result.now
    c.in_ok-unknowns.ensures c.unknowns.ensures c.as_slice-listed.ensures.value) c.leave_all.result
    (system_of c.in_ok-unknowns.unknowns.items (unmentioned c.args.number c.args.system.now.system.equations
    ++ c.as_slice.result.now) c.in_ok-general.general.items (c.next.result + length c.args.fresh.now))
    (left_by c.args.divided c.args.system.now.system c.args.place c.args.number c.args.form.now (unsigned_abs c.args.divisor)
    (map unknown_of c.args.fresh.now))
    (some_alike c.args.system.now.system c.args.place c.args.number c.args.form.now
    (unsigned_abs c.args.divisor) c.args.fresh.now c.in_ok-unknowns.unknowns.items c.as_slice-listed.result.now c.unknowns.result.now
    c.in_ok-unknowns.ensures c.unknowns.ensures c.as_slice-listed.ensures.value
    c.equations-equations.result.now c.equations-equations.ensures c.as_slice.result.now c.in_ok-forms.forms.items c.as_slice.ensures.value
    c.in_ok-forms.ensures.replaced c.args.divided c.requires.place c.requires.own c.next.result c.next.ensures
    c.general-general.result.now c.general-general.ensures
    c.in_ok-general.general.items c.in_ok-general.ensures.replaced) c.leave_all.ensures.past

-- ---- where none of them has it
pub leave_general-requires-clause-free : goal.leave_general-requires-clause-free
leave_general-requires-clause-free c =
    forms_are_free c.args.system.now.system c.args.place c.args.number c.args.form.now
    (unsigned_abs c.args.divisor) c.args.fresh.now c.in_ok-unknowns.unknowns.items c.as_slice-listed.result.now c.unknowns.result.now
    c.in_ok-unknowns.ensures c.unknowns.ensures c.as_slice-listed.ensures.value
    c.equations-equations.result.now c.equations-equations.ensures c.as_slice-2.result.now c.in_ok-forms.forms.items
    c.as_slice-2.ensures.value c.in_ok-forms.ensures.replaced c.requires.free

pub leave_general-requires-clause-valid : goal.leave_general-requires-clause-valid
leave_general-requires-clause-valid c =
    valid_alike (c.args.system.now.space.p + c.args.system.now.space.q)
    (system_of c.in_ok-unknowns.unknowns.items (unmentioned c.args.number c.args.system.now.system.equations
    ++ c.as_slice-2.result.now) c.args.system.now.system.general (c.next.result + length c.args.fresh.now))
    (left_by c.args.divided c.args.system.now.system c.args.place c.args.number c.args.form.now (unsigned_abs c.args.divisor)
    (map unknown_of c.args.fresh.now))
    (none_alike c.args.system.now.system c.args.place c.args.number c.args.form.now
    (unsigned_abs c.args.divisor) c.args.fresh.now c.in_ok-unknowns.unknowns.items c.as_slice-listed.result.now c.unknowns.result.now
    c.in_ok-unknowns.ensures c.unknowns.ensures c.as_slice-listed.ensures.value
    c.equations-equations.result.now c.equations-equations.ensures c.as_slice-2.result.now c.in_ok-forms.forms.items
    c.as_slice-2.ensures.value c.in_ok-forms.ensures.replaced c.args.divided c.requires.place c.requires.own c.next.result
    c.next.ensures c.general-general.result.now c.general-general.ensures
    (sym c.if-any_mentions.ensures)) c.requires.valid

pub returns-clause-tidied : goal.returns-clause-tidied
returns-clause-tidied c =
    alike_tidied c.leave_general.result (system_of c.in_ok-unknowns.unknowns.items
    (unmentioned c.args.number c.args.system.now.system.equations ++ c.as_slice-2.result.now) c.args.system.now.system.general
    (c.next.result + length c.args.fresh.now))
    (left_by c.args.divided c.args.system.now.system c.args.place c.args.number c.args.form.now (unsigned_abs c.args.divisor)
    (map unknown_of c.args.fresh.now)) c.leave_general.new.system.system
    (none_alike c.args.system.now.system c.args.place c.args.number c.args.form.now
    (unsigned_abs c.args.divisor) c.args.fresh.now c.in_ok-unknowns.unknowns.items c.as_slice-listed.result.now c.unknowns.result.now
    c.in_ok-unknowns.ensures c.unknowns.ensures c.as_slice-listed.ensures.value
    c.equations-equations.result.now c.equations-equations.ensures c.as_slice-2.result.now c.in_ok-forms.forms.items
    c.as_slice-2.ensures.value c.in_ok-forms.ensures.replaced c.args.divided c.requires.place c.requires.own c.next.result
    c.next.ensures c.general-general.result.now c.general-general.ensures
    (sym c.if-any_mentions.ensures)) c.leave_general.ensures.tidied

pub returns-clause-fits : goal.returns-clause-fits
returns-clause-fits c =
    alike_fits c.args.system.now.system c.args.place c.args.number c.args.form.now (unsigned_abs c.args.divisor)
    (map unknown_of c.args.fresh.now) (map unknown_of c.as_slice-listed.result.now)
    (listed_after c.args.system.now.system c.args.place c.args.number c.args.form.now
    (unsigned_abs c.args.divisor) c.args.fresh.now c.in_ok-unknowns.unknowns.items c.as_slice-listed.result.now c.unknowns.result.now
    c.in_ok-unknowns.ensures c.unknowns.ensures c.as_slice-listed.ensures.value) c.leave_general.result
    (system_of c.in_ok-unknowns.unknowns.items (unmentioned c.args.number c.args.system.now.system.equations
    ++ c.as_slice-2.result.now) c.args.system.now.system.general (c.next.result + length c.args.fresh.now))
    (left_by c.args.divided c.args.system.now.system c.args.place c.args.number c.args.form.now (unsigned_abs c.args.divisor)
    (map unknown_of c.args.fresh.now))
    (none_alike c.args.system.now.system c.args.place c.args.number c.args.form.now
    (unsigned_abs c.args.divisor) c.args.fresh.now c.in_ok-unknowns.unknowns.items c.as_slice-listed.result.now c.unknowns.result.now
    c.in_ok-unknowns.ensures c.unknowns.ensures c.as_slice-listed.ensures.value
    c.equations-equations.result.now c.equations-equations.ensures c.as_slice-2.result.now c.in_ok-forms.forms.items
    c.as_slice-2.ensures.value c.in_ok-forms.ensures.replaced c.args.divided c.requires.place c.requires.own c.next.result
    c.next.ensures c.general-general.result.now c.general-general.ensures
    (sym c.if-any_mentions.ensures))
    (equations_fit c.args.system.now.system c.args.place c.args.number c.args.form.now
    (unsigned_abs c.args.divisor) c.args.fresh.now c.in_ok-unknowns.unknowns.items c.as_slice-listed.result.now c.unknowns.result.now
    c.in_ok-unknowns.ensures c.unknowns.ensures c.as_slice-listed.ensures.value
    c.equations-equations.result.now c.equations-equations.ensures c.in_ok-forms.ensures.fits)
    (general_none c.args.system.now.system c.args.place c.args.number c.args.form.now
    (unsigned_abs c.args.divisor) c.args.fresh.now c.in_ok-unknowns.unknowns.items c.as_slice-listed.result.now c.unknowns.result.now
    c.in_ok-unknowns.ensures c.unknowns.ensures c.as_slice-listed.ensures.value
    c.general-general.result.now c.general-general.ensures (sym c.if-any_mentions.ensures)) c.leave_general.ensures.fits

pub returns-clause-past : goal.returns-clause-past
returns-clause-past c =
    alike_past c.args.system.now.system c.args.place c.args.number c.args.form.now (unsigned_abs c.args.divisor)
    (map unknown_of c.args.fresh.now) (map unknown_of c.as_slice-listed.result.now)
    (listed_after c.args.system.now.system c.args.place c.args.number c.args.form.now
    (unsigned_abs c.args.divisor) c.args.fresh.now c.in_ok-unknowns.unknowns.items c.as_slice-listed.result.now c.unknowns.result.now
    c.in_ok-unknowns.ensures c.unknowns.ensures c.as_slice-listed.ensures.value) c.leave_general.result
    (system_of c.in_ok-unknowns.unknowns.items (unmentioned c.args.number c.args.system.now.system.equations
    ++ c.as_slice-2.result.now) c.args.system.now.system.general (c.next.result + length c.args.fresh.now))
    (left_by c.args.divided c.args.system.now.system c.args.place c.args.number c.args.form.now (unsigned_abs c.args.divisor)
    (map unknown_of c.args.fresh.now))
    (none_alike c.args.system.now.system c.args.place c.args.number c.args.form.now
    (unsigned_abs c.args.divisor) c.args.fresh.now c.in_ok-unknowns.unknowns.items c.as_slice-listed.result.now c.unknowns.result.now
    c.in_ok-unknowns.ensures c.unknowns.ensures c.as_slice-listed.ensures.value
    c.equations-equations.result.now c.equations-equations.ensures c.as_slice-2.result.now c.in_ok-forms.forms.items
    c.as_slice-2.ensures.value c.in_ok-forms.ensures.replaced c.args.divided c.requires.place c.requires.own c.next.result
    c.next.ensures c.general-general.result.now c.general-general.ensures
    (sym c.if-any_mentions.ensures)) c.leave_general.ensures.past

-- ---- the tables
pub returns-in_err-unknowns-clause-indexed : goal.returns-in_err-unknowns-clause-indexed
returns-in_err-unknowns-clause-indexed c = (refl, c.requires.indexed)

pub returns-in_err-forms-clause-indexed : goal.returns-in_err-forms-clause-indexed
returns-in_err-forms-clause-indexed c = (refl, c.requires.indexed)

pub returns-in_err-general-clause-indexed : goal.returns-in_err-general-clause-indexed
returns-in_err-general-clause-indexed c = (refl, c.requires.indexed)

pub leave_all-requires-clause-indexed : goal.leave_all-requires-clause-indexed
leave_all-requires-clause-indexed c = c.requires.indexed

pub leave_general-requires-clause-indexed : goal.leave_general-requires-clause-indexed
leave_general-requires-clause-indexed c = c.requires.indexed

pub returns-then-any_mentions-clause-indexed : goal.returns-then-any_mentions-clause-indexed
returns-then-any_mentions-clause-indexed c = c.leave_all.ensures.indexed

pub returns-clause-indexed : goal.returns-clause-indexed
returns-clause-indexed c = c.leave_general.ensures.indexed
