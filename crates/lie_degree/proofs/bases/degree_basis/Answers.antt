use Rattle.std.specs.Prelude.{◌≡◌, ◌+◌, ◌≤◌, length, IfOk}
use Rattle.std.proofs.Common.{sym, ap, subst, ◌∙◌, arith}
use Rattle.std.proofs.lemmas.Result.{err_from_is_err_and}
use Rattle.lie_geometry.specs.Coordinates.{Space}
use Rattle.lie_math.specs.LinearSystem.{Gives}
use Rattle.lie_systems.specs.Works.{greatest_column_count}
use Rattle.lie_spans.specs.Fields.{IsFieldBasis}
use Rattle.lie_spans.specs.Openings.{IsOpening, HasDegreeAtMost, AreDegreeColumns}
use Rattle.lie_algebra.specs.ColumnLists.{IsColumnsCause}
use Rattle.lie_degree.specs.Columns.{columns_from, monomials_to}
use Rattle.lie_degree.proofs.DegreeColumns.{are_degree_columns}
use Rattle.lie_degree.proofs.DegreeBasis.{columns_cause}
use Rattle.lie_degree.proofs.bases.degree_basis.Goals as goal

pub returns-in_err-columns-clause-cause : goal.returns-in_err-columns-clause-cause
returns-in_err-columns-clause-cause c =
    let n = c.args.opening.now.space.p + c.args.opening.now.space.q in
    let e : c.count_components-count.result ≡ n = c.count_components-count.ensures.count ∙ ap
    (λ (s : Space). s.p + s.q) c.space.ensures.space in
    let p = err_from_is_err_and c.from_residual.result c.from_residual.ensures.1 in
    rw (p.1, p.2) (columns_cause n c.args.highest c.args.opening.now.system c.in_err-columns.field-0.0
    (subst (λ k. IsColumnsCause c.in_err-columns.field-0.0 (columns_from 0 k (monomials_to k c.args.highest))) e
    c.in_err-columns.ensures.cause))

pub basis_in-requires-clause-opening : goal.basis_in-requires-clause-opening
basis_in-requires-clause-opening c =
    subst (λ k. IsOpening k c.args.opening.now.system)
    (sym (c.count_components-count.ensures.count ∙ ap (λ (s : Space). s.p + s.q) c.space.ensures.space)) c.requires.opening

pub basis_in-requires-clause-few_components : goal.basis_in-requires-clause-few_components
basis_in-requires-clause-few_components c = omega (arith, c.count_components-count.ensures.low)

pub basis_in-requires-clause-columns : goal.basis_in-requires-clause-columns
basis_in-requires-clause-columns c =
    subst (AreDegreeColumns c.count_components-count.result c.args.highest) (sym c.as_slice.ensures.value)
    (are_degree_columns c.count_components-count.result c.args.highest c.in_ok-columns.columns.items c.in_ok-columns.ensures.columns)

pub basis_in-requires-clause-few_columns : goal.basis_in-requires-clause-few_columns
basis_in-requires-clause-few_columns c = subst (λ ks. length ks ≤ greatest_column_count)
    (sym c.as_slice.ensures.value) c.in_ok-columns.ensures.few

pub returns-clause-basis : goal.returns-clause-basis
returns-clause-basis c =
    subst (λ k. IfOk c.basis_in.result
    (λ made. IsFieldBasis k (λ V. Gives c.args.opening.now.system V × HasDegreeAtMost c.args.highest V) made.items))
    (c.count_components-count.ensures.count ∙ ap (λ (s : Space). s.p + s.q) c.space.ensures.space) c.basis_in.ensures.basis
