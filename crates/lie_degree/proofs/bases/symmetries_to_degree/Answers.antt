use Rattle.std.specs.Prelude.{◌+◌}
use Rattle.std.proofs.Common.{sym, subst}
use Rattle.lie_geometry.specs.CoordinateLaws.{IsSpace}
use Rattle.lie_geometry.specs.Coordinates.{Space}
use Rattle.lie_math.specs.LinearSystem.{Gives}
use Rattle.lie_solved.specs.Solved.{equations_of}
use Rattle.lie_spans.specs.Fields.{IsFieldBasis}
use Rattle.lie_spans.specs.Openings.{IsOpening, HasDegreeAtMost}
use Rattle.lie_degree.specs.Works.{IsBasisWithin, IsBasisCause}
use Rattle.lie_degree.proofs.Openings.{opening_is_for_components}
use Rattle.lie_degree.proofs.Steps.{opening_stop, basis_stop, all_within, basis_means}
use Rattle.lie_degree.proofs.bases.symmetries_to_degree.Goals as goal

pub returns-in-Err-clause-stop : goal.returns-in-Err-clause-stop
returns-in-Err-clause-stop c =
    let S = c.args.solved.now.system.space in
    let rs = equations_of c.args.solved.now in
    rw c.stop_at.ensures (opening_stop S rs c.args.highest c.in-Err.fail c.in-Err.ensures.past)

pub degree_basis-requires-clause-opening : goal.degree_basis-requires-clause-opening
degree_basis-requires-clause-opening c =
    let S = c.args.solved.now.system.space in
    let rs = equations_of c.args.solved.now in
    let is : IsSpace S = (c.space_is_small.ensures.some_p, c.space_is_small.ensures.some_q) in
    subst (λ (s : Space). IsOpening (s.p + s.q) c.in-Ok.opening.system) (sym c.in-Ok.ensures.space)
    (opening_is_for_components c.opening_is_valid.ensures S is rs c.in-Ok.opening.system c.in-Ok.ensures.opening)

pub returns-in-Ok-degree_basis-clause-basis : goal.returns-in-Ok-degree_basis-clause-basis
returns-in-Ok-degree_basis-clause-basis c =
    let S = c.args.solved.now.system.space in
    let rs = equations_of c.args.solved.now in
    basis_means S rs c.args.highest c.field_in_is_field_on.ensures c.in-Ok.opening.system c.in-Ok.ensures.meaning
    c.in-Ok-degree_basis.fields.items
    (subst (λ (s : Space). IsFieldBasis (s.p + s.q)
    (λ V. Gives c.in-Ok.opening.system V × HasDegreeAtMost c.args.highest V) c.in-Ok-degree_basis.fields.items) c.in-Ok.ensures.space
    c.in-Ok-degree_basis.ensures.basis)

pub returns-in-Ok-degree_basis-clause-fits : goal.returns-in-Ok-degree_basis-clause-fits
returns-in-Ok-degree_basis-clause-fits c =
    let S = c.args.solved.now.system.space in
    let rs = equations_of c.args.solved.now in
    all_within S rs c.args.highest c.in-Ok.opening.system c.in-Ok.ensures.opening c.in-Ok.ensures.fits c.opening_is_unique.ensures
    (subst (λ (s : Space). IsBasisWithin (s.p + s.q) c.args.highest c.in-Ok.opening.system) c.in-Ok.ensures.space
    c.in-Ok-degree_basis.ensures.fits)

pub returns-clause-stop : goal.returns-clause-stop
returns-clause-stop c =
    let S = c.args.solved.now.system.space in
    let rs = equations_of c.args.solved.now in
    rw c.stop_at-in-Err-degree_basis.ensures
    (basis_stop S rs c.args.highest c.in-Ok.opening.system c.in-Ok.ensures.opening c.in-Ok.ensures.fits c.in-Err-degree_basis.fail
    (subst (λ (s : Space). IsBasisCause (s.p + s.q) c.args.highest c.in-Ok.opening.system c.in-Err-degree_basis.fail)
    c.in-Ok.ensures.space c.in-Err-degree_basis.ensures.cause))
