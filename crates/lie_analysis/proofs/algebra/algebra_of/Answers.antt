use Rattle.std.specs.Prelude.{◌+◌}
use Rattle.std.proofs.Common.{refl, sym, subst}
use Rattle.lie_math.specs.LinearSystem.{Gives}
use Rattle.lie_systems.specs.Works.{IsWorkWithin}
use Rattle.lie_spans.specs.Fields.{IsFieldBasis}
use Rattle.lie_brackets.specs.Causes.{IsWorkCause}
use Rattle.lie_brackets.specs.Tables.{TableMakes}
use Rattle.lie_analysis.proofs.AlgebraSteps.{basis_cause, table_cause, algebra_within}
use Rattle.lie_analysis.proofs.algebra.algebra_of.Goals as goal

pub returns-in-Err-clause-cause : goal.returns-in-Err-clause-cause
returns-in-Err-clause-cause c =
    let S = c.args.last.now.space in
    let U = c.args.last.now.system in
    rw c.unfinished_at.ensures (basis_cause S U c.args.steps c.requires.finite c.in-Err.fail (c.args.steps + 2) refl c.in-Err.ensures.cause)

pub returns-in-Err-table-clause-cause : goal.returns-in-Err-table-clause-cause
returns-in-Err-table-clause-cause c =
    let S = c.args.last.now.space in
    let U = c.args.last.now.system in
    let Vs = c.as_slice.result.now in
    let fail = c.in-Err-table.fail in
    let basis = subst (λ Ws. IsFieldBasis (S.p + S.q) (Gives U) Ws) (sym c.as_slice.ensures.value) c.in-Ok.ensures.basis in
    let cause = subst (λ L. IsWorkCause fail (TableMakes L Vs)) c.space.ensures.space c.in-Err-table.ensures.past in
    rw c.unfinished_at-in-Err-table.ensures
    (table_cause S U c.args.steps c.requires.finite Vs basis c.in-Ok.ensures.fits fail (c.args.steps + 3) refl cause)

pub returns-clause-fits : goal.returns-clause-fits
returns-clause-fits c =
    let S = c.args.last.now.space in
    let U = c.args.last.now.system in
    let Vs = c.as_slice.result.now in
    let basis = subst (λ Ws. IsFieldBasis (S.p + S.q) (Gives U) Ws) (sym c.as_slice.ensures.value) c.in-Ok.ensures.basis in
    let fits = subst (λ L. IsWorkWithin (TableMakes L Vs)) c.space.ensures.space c.in-Ok-table.ensures.fits in
    algebra_within S U c.args.steps c.requires.finite Vs basis c.in-Ok.ensures.fits c.system_basis_is_unique.ensures fits
