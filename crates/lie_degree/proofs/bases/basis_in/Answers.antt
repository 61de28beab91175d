use Rattle.std.specs.Prelude.{◌≤◌, map, length, List}
use Rattle.std.proofs.Common.{sym, ap, subst, ◌∙◌, arith}
use Rattle.std.proofs.lemmas.Result.{err_from_is_err_and}
use Rattle.lie_math.specs.LinearForm.{LinearForm}
use Rattle.lie_math.specs.LinearSystem.{Gives}
use Rattle.lie_math.specs.Monomial.{degree}
use Rattle.lie_math.proofs.EveryElement.{every-weaken}
use Rattle.lie_systems.specs.Works.{IsWorkWithin}
use Rattle.lie_rows.specs.Causes.{IsWorkCause}
use Rattle.lie_rows.specs.Rows.{rows_of}
use Rattle.lie_spans.specs.Bulks.{KernelMakes}
use Rattle.lie_spans.specs.FieldRows.{field_of_row}
use Rattle.lie_spans.specs.Fields.{IsFieldBasis}
use Rattle.lie_spans.specs.Kernel.{IsKernel}
use Rattle.lie_spans.specs.Openings.{HasDegreeAtMost}
use Rattle.lie_spans.specs.Rows.{entry, HaveLength, IsReducedBasis}
use Rattle.lie_degree.specs.Conditions.{AreConditions}
use Rattle.lie_degree.specs.Said.{IsRowsCause, AreRowsWithin}
use Rattle.lie_degree.proofs.DegreeBasis.{rows_past, solutions_past, within, solutions_basis}
use Rattle.lie_degree.proofs.Rows.{rows_have_length}
use Rattle.lie_degree.proofs.bases.basis_in.Goals as goal

pub condition_rows-requires : goal.condition_rows-requires
condition_rows-requires c =
    every-weaken (λ k. degree k.1 ≤ c.args.highest) (λ k. degree k.1 ≤ 8)
    (λ k l. omega (arith, l, c.requires.low)) c.args.columns.now c.requires.columns.degrees

pub returns-in_err-rows-clause-cause : goal.returns-in_err-rows-clause-cause
returns-in_err-rows-clause-cause c =
    let p = err_from_is_err_and c.from_residual.result c.from_residual.ensures.1 in
    rw (p.1, p.2) (rows_past c.args.count c.args.highest c.args.opening.now.system c.args.columns.now c.requires.columns
    c.requires.few_components c.requires.few_columns c.in_err-rows.field-0.0
    (subst (IsRowsCause c.in_err-rows.field-0.0 c.args.columns.now) c.equations.ensures c.in_err-rows.ensures.past))

pub kernel_basis-requires : goal.kernel_basis-requires
kernel_basis-requires c =
    let r = c.in_ok-rows.ensures.rows in
    subst (HaveLength (length c.args.columns.now)) (sym (ap rows_of c.as_slice.ensures.value ∙ r.2))
    (rows_have_length c.args.columns.now r.0)

pub returns-in_err-kernel-clause-cause : goal.returns-in_err-kernel-clause-cause
returns-in_err-kernel-clause-cause c =
    let r = c.in_ok-rows.ensures.rows in
    let are = subst (λ (Es : List LinearForm). AreConditions c.args.columns.now Es r.0) c.equations.ensures r.1 in
    let p = err_from_is_err_and c.from_residual-in_err-kernel.result c.from_residual-in_err-kernel.ensures.1 in
    rw (p.1, p.2) (solutions_past c.args.count c.args.highest c.args.opening.now.system c.args.columns.now c.requires.columns
    c.requires.few_components c.requires.few_columns r.0 are c.in_err-kernel.field-0.0
    (subst (λ rs. IsWorkCause c.in_err-kernel.field-0.0 (KernelMakes (length c.args.columns.now) rs))
    (ap rows_of c.as_slice.ensures.value ∙ r.2) c.in_err-kernel.ensures.cause))

pub fields_of-requires-clause-lengths : goal.fields_of-requires-clause-lengths
fields_of-requires-clause-lengths c =
    subst (λ xs. HaveLength (length c.args.columns.now) (rows_of xs)) (sym c.as_slice-2.ensures.value) c.in_ok-kernel.ensures.basis.lengths

pub fields_of-requires-clause-rising : goal.fields_of-requires-clause-rising
fields_of-requires-clause-rising c = c.requires.columns.columns.rising

pub returns-clause-basis : goal.returns-clause-basis
returns-clause-basis c =
    let r = c.in_ok-rows.ensures.rows in
    let are = subst (λ (Es : List LinearForm). AreConditions c.args.columns.now Es r.0) c.equations.ensures r.1 in
    subst (IsFieldBasis c.args.count (λ V. Gives c.args.opening.now.system V × HasDegreeAtMost c.args.highest V))
    (sym (c.in_ok-fields.ensures ∙ ap (λ xs. map (field_of_row c.args.count c.args.columns.now) (rows_of xs)) c.as_slice-2.ensures.value))
    (solutions_basis c.args.count c.args.highest c.args.opening.now.system c.args.columns.now c.requires.columns
    c.requires.few_components c.requires.few_columns r.0 are c.requires.opening
    (rows_of c.in_ok-kernel.kernel.items)
    (subst (λ rs. IsReducedBasis (length c.args.columns.now) (λ w. IsKernel (length c.args.columns.now) rs (entry w))
    (rows_of c.in_ok-kernel.kernel.items)) (ap rows_of c.as_slice.ensures.value ∙ r.2)
    c.in_ok-kernel.ensures.basis))

pub returns-clause-fits : goal.returns-clause-fits
returns-clause-fits c =
    let r = c.in_ok-rows.ensures.rows in
    let are = subst (λ (Es : List LinearForm). AreConditions c.args.columns.now Es r.0) c.equations.ensures r.1 in
    within c.args.count c.args.highest c.args.opening.now.system c.args.columns.now c.requires.columns c.requires.few_components
    c.requires.few_columns r.0 are
    (subst (AreRowsWithin c.args.columns.now) c.equations.ensures c.in_ok-rows.ensures.fits)
    (subst (λ rs. IsWorkWithin (KernelMakes (length c.args.columns.now) rs))
    (ap rows_of c.as_slice.ensures.value ∙ r.2) c.in_ok-kernel.ensures.fits)
