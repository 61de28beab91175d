use Rattle.std.specs.Prelude.{◌≤◌, ◌+◌, length, List}
use Rattle.std.proofs.Common.{sym, ap, subst, ◌∙◌, arith}
use Rattle.std.proofs.lemmas.Result.{err_from_is_err_and}
use Rattle.lie_geometry.specs.Coordinates.{Space}
use Rattle.lie_math.specs.LinearForm.{LinearForm}
use Rattle.lie_systems.specs.Works.{greatest_column_count}
use Rattle.lie_algebra.specs.ColumnLists.{listed_columns, AreColumnsOf, IsColumnsCause}
use Rattle.lie_algebra.specs.GeneralColumns.{AreGeneralColumns}
use Rattle.lie_algebra.proofs.SystemBasis.{many_unknowns, many_columns, general_of_listed, unknowns_length}
use Rattle.lie_algebra.proofs.system_basis.basis.Goals as goal

pub returns-then-unknowns-gt-MAX_UNKNOWNS-clause-cause : goal.returns-then-unknowns-gt-MAX_UNKNOWNS-clause-cause
returns-then-unknowns-gt-MAX_UNKNOWNS-clause-cause c =
    many_unknowns c.args.system.now.system (let e = unknowns_length c.args.system.now.system c.unknowns.result.now c.unknowns.ensures in omega arith)

pub columns_of-requires : goal.columns_of-requires
columns_of-requires c =
    let g = ap length c.general.ensures in
    let v = c.space.ensures.valid.components in
    let n = ap (λ (s : Space). s.p + s.q) c.space.ensures.space in
    omega (arith, g, v, n, c.count_components-count.ensures.count, c.count_components-count.ensures.low)

pub returns-in_err-columns-clause-cause : goal.returns-in_err-columns-clause-cause
returns-in_err-columns-clause-cause c =
    let p = err_from_is_err_and c.from_residual.result c.from_residual.ensures.1 in
    rw (p.1, p.2) (many_columns c.args.system.now.system c.in_err-columns.field-0.0
    (subst (λ (Es : List LinearForm). IsColumnsCause c.in_err-columns.field-0.0 (listed_columns 0 Es)) c.general.ensures c.in_err-columns.ensures.cause))

pub basis_in-requires-clause-valid : goal.basis_in-requires-clause-valid
basis_in-requires-clause-valid c = c.space.ensures.valid

pub basis_in-requires-clause-count : goal.basis_in-requires-clause-count
basis_in-requires-clause-count c = c.count_components-count.ensures.count ∙ ap (λ (s : Space). s.p + s.q) c.space.ensures.space

pub basis_in-requires-clause-components : goal.basis_in-requires-clause-components
basis_in-requires-clause-components c = omega (arith, c.count_components-count.ensures.few)

pub basis_in-requires-clause-columns : goal.basis_in-requires-clause-columns
basis_in-requires-clause-columns c =
    subst (AreGeneralColumns c.args.system.now.system) (sym c.as_slice.ensures.value)
    (general_of_listed c.args.system.now.system c.in_ok-columns.columns.items
    (subst (λ (Es : List LinearForm). AreColumnsOf (listed_columns 0 Es) c.in_ok-columns.columns.items) c.general.ensures c.in_ok-columns.ensures.columns))

pub basis_in-requires-clause-few_unknowns : goal.basis_in-requires-clause-few_unknowns
basis_in-requires-clause-few_unknowns c = let e = unknowns_length c.args.system.now.system c.unknowns.result.now c.unknowns.ensures in omega arith

pub basis_in-requires-clause-few_columns : goal.basis_in-requires-clause-few_columns
basis_in-requires-clause-few_columns c = subst (λ ks. length ks ≤ greatest_column_count) (sym c.as_slice.ensures.value) c.in_ok-columns.ensures.few
