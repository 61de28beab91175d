use Rattle.std.specs.Prelude.{◌+◌, map, length}
use Rattle.std.proofs.Common.{sym, ap, ap₂, subst, ◌∙◌, arith}
use Rattle.std.proofs.lemmas.List.{length-map}
use Rattle.std.proofs.lemmas.Result.{err_from_is_err_and}
use Rattle.lie_math.specs.LinearSystem.{Gives}
use Rattle.lie_rows.specs.Causes.{IsWorkCause}
use Rattle.lie_rows.specs.Rows.{rows_of}
use Rattle.lie_systems.specs.Works.{IsWorkWithin}
use Rattle.lie_spans.specs.Bulks.{BasisMakes}
use Rattle.lie_spans.specs.FieldRows.{field_of_row}
use Rattle.lie_spans.specs.Fields.{IsFieldBasis}
use Rattle.lie_spans.specs.Rows.{entry, HaveLength, IsReducedBasis}
use Rattle.lie_spans.specs.Spans.{IsSpanned}
use Rattle.lie_algebra.proofs.SystemBasis.{columns_inside, rows_have_length, past_cause, within, made_length, system_basis}
use Rattle.lie_algebra.proofs.system_basis.basis_in.Goals as goal

pub unknown_rows-requires-clause-general : goal.unknown_rows-requires-clause-general
unknown_rows-requires-clause-general c = omega (arith, c.requires.valid.components, c.requires.count, c.requires.components)

pub unknown_rows-requires-clause-inside : goal.unknown_rows-requires-clause-inside
unknown_rows-requires-clause-inside c =
    columns_inside (c.args.system.now.space.p + c.args.system.now.space.q) c.args.system.now.system c.args.columns.now c.requires.valid c.requires.columns

pub span_basis-requires : goal.span_basis-requires
span_basis-requires c =
    subst (HaveLength (length c.args.columns.now)) (sym (ap rows_of c.as_slice.ensures.value ∙ c.in_ok-rows.ensures))
    (rows_have_length c.args.system.now.system c.args.columns.now c.requires.columns)

pub fields_of-requires-clause-lengths : goal.fields_of-requires-clause-lengths
fields_of-requires-clause-lengths c =
    subst (λ xs. HaveLength (length c.args.columns.now) (rows_of xs)) (sym c.as_slice-2.ensures.value) c.in_ok-reduced.ensures.basis.lengths

pub fields_of-requires-clause-rising : goal.fields_of-requires-clause-rising
fields_of-requires-clause-rising c = c.requires.columns.rising

pub returns-in_err-reduced-clause-cause : goal.returns-in_err-reduced-clause-cause
returns-in_err-reduced-clause-cause c =
    let p = err_from_is_err_and c.from_residual-in_err-reduced.result c.from_residual-in_err-reduced.ensures.1 in
    rw (p.1, p.2) (past_cause c.args.system.now.system c.args.columns.now c.requires.columns c.in_err-reduced.field-0.0 c.requires.few_unknowns c.requires.few_columns
    (subst (λ rs. IsWorkCause c.in_err-reduced.field-0.0 (BasisMakes (length c.args.columns.now) rs)) (ap rows_of c.as_slice.ensures.value ∙ c.in_ok-rows.ensures) c.in_err-reduced.ensures.cause))

pub returns-clause-basis : goal.returns-clause-basis
returns-clause-basis c =
    let n = c.args.system.now.space.p + c.args.system.now.space.q in
    subst (IsFieldBasis n (Gives c.args.system.now.system))
    (sym (c.in_ok-fields.ensures ∙ ap₂ (λ k xs. map (field_of_row k c.args.columns.now) (rows_of xs)) c.requires.count c.as_slice-2.ensures.value))
    (system_basis c.args.system.now.system c.args.columns.now c.requires.columns n c.requires.valid c.requires.finite (rows_of c.in_ok-reduced.reduced.items)
    (subst (λ rs. IsReducedBasis (length c.args.columns.now) (λ w. IsSpanned entry rs (entry w)) (rows_of c.in_ok-reduced.reduced.items)) (ap rows_of c.as_slice.ensures.value ∙ c.in_ok-rows.ensures)
    c.in_ok-reduced.ensures.basis))

pub returns-clause-few : goal.returns-clause-few
returns-clause-few c =
    let l = made_length c.args.system.now.system c.args.columns.now c.requires.columns (rows_of c.in_ok-reduced.reduced.items)
    (subst (λ rs. IsReducedBasis (length c.args.columns.now) (λ w. IsSpanned entry rs (entry w)) (rows_of c.in_ok-reduced.reduced.items)) (ap rows_of c.as_slice.ensures.value ∙ c.in_ok-rows.ensures)
    c.in_ok-reduced.ensures.basis) in
    let m = length-map (rows_of c.in_ok-reduced.reduced.items) (field_of_row c.args.count c.args.columns.now) in
    let e = ap length (c.in_ok-fields.ensures ∙ ap (λ xs. map (field_of_row c.args.count c.args.columns.now) (rows_of xs)) c.as_slice-2.ensures.value) in
    omega (arith, l, m, e, c.requires.few_unknowns)

pub returns-clause-fits : goal.returns-clause-fits
returns-clause-fits c =
    within c.args.system.now.system c.args.columns.now c.requires.columns c.requires.few_unknowns c.requires.few_columns
    (subst (λ rs. IsWorkWithin (BasisMakes (length c.args.columns.now) rs)) (ap rows_of c.as_slice.ensures.value ∙ c.in_ok-rows.ensures) c.in_ok-reduced.ensures.fits)
