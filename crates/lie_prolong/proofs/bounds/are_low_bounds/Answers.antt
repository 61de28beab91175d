use Rattle.std.proofs.Common.{◌≤◌, arith, sym, true≢false}
use Rattle.lie_geometry.specs.FieldNorms.{field_norm_bound}
use Rattle.lie_prolong.proofs.FieldBounds.{bound_rises}
use Rattle.lie_prolong.proofs.bounds.are_low_bounds.Goals as goal

pub returns-then-bound-gt-MAX_TERMS : goal.returns-then-bound-gt-MAX_TERMS
returns-then-bound-gt-MAX_TERMS c =
    let S = c.args.space in
    let end : c.loop.counter ≤ c.args.order = c.loop.auto.counter-end in
    let rise : field_norm_bound S c.args.norm c.args.degree c.loop.counter ≤ field_norm_bound S c.args.norm c.args.degree c.args.order = bound_rises S c.args.norm c.args.degree c.loop.counter c.args.order end in
    let here = c.loop.invariant in
    let past = c.if-bound-gt-MAX_TERMS.true in
    (λ e. absurd (true≢false (sym e)), λ h. let low = h.norms in absurd (omega arith))
