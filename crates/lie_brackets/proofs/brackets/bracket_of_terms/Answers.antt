use Rattle.std.proofs.Common.{ap, ◌≡◌, ◌+◌, ◌<◌, ◌≤◌, ℕ, arith}
use Rattle.std.proofs.lemmas.Result.{err_from_is_err_and}
use Rattle.lie_math.specs.Limits.{IsWithinLimits}
use Rattle.lie_math.specs.VectorField.{VectorField, component}
use Rattle.lie_geometry.specs.Commutator.{commutator_component}
use Rattle.lie_geometry.specs.Coordinates.{Space}
use Rattle.lie_systems.specs.Works.{IsWorkWithin}
use Rattle.lie_brackets.specs.Bulks.{bracket_bulk, BracketMakes, part}
use Rattle.lie_brackets.specs.FieldTerms.{field_of_terms}
use Rattle.lie_brackets.proofs.BracketParts.{work_cause, components_more, below_more}
use Rattle.lie_brackets.proofs.brackets.bracket_of_terms.Goals as goal

all_within : (S : Space) (V W : VectorField) (n : ℕ) → S.p + S.q ≤ n → ((t : ℕ) → t < n → IsWithinLimits (bracket_bulk V W t)) → IsWorkWithin (BracketMakes S V W)
all_within S V W n h f b (part s l) = f s (omega arith)

pub returns-in_err-part-clause-past : goal.returns-in_err-part-clause-past
returns-in_err-part-clause-past c =
    let e : c.space.inside.p ≡ c.args.space.p = ap (λ (s : Space). s.p) c.space.view_is in
    let f : c.space.inside.q ≡ c.args.space.q = ap (λ (s : Space). s.q) c.space.view_is in
    let p = err_from_is_err_and c.from_residual.result c.from_residual.ensures.1 in
    rw (p.1, p.2) (work_cause c.in_err-part.field-0.0 (bracket_bulk (field_of_terms c.args.v.now) (field_of_terms c.args.w.now) c.loop-s.s) (BracketMakes c.args.space (field_of_terms c.args.v.now) (field_of_terms c.args.w.now))
    (part c.loop-s.s (let h = c.loop-s-test.true in omega arith)) c.in_err-part.ensures.past)

pub loop-s-preserved : goal.loop-s-preserved
loop-s-preserved c = record {
  parts = components_more (commutator_component (component (field_of_terms c.args.v.now)) (component (field_of_terms c.args.w.now))) c.loop-s.s c.push.new.self.items c.loop-s.parts.items c.in_ok-part.part c.in_ok-push.ensures.items c.in_ok-part.ensures.value c.loop-s.invariant.parts;
  fits = below_more (λ t. IsWithinLimits (bracket_bulk (field_of_terms c.args.v.now) (field_of_terms c.args.w.now) t)) c.loop-s.s c.loop-s.invariant.fits c.in_ok-part.ensures.fits;
}

pub returns-clause-fits : goal.returns-clause-fits
returns-clause-fits c =
    let e : c.space.inside.p ≡ c.args.space.p = ap (λ (s : Space). s.p) c.space.view_is in
    let f : c.space.inside.q ≡ c.args.space.q = ap (λ (s : Space). s.q) c.space.view_is in
    all_within c.args.space (field_of_terms c.args.v.now) (field_of_terms c.args.w.now) c.loop-s.s (let h = c.loop-s-test.false in omega arith) c.loop-s.invariant.fits
