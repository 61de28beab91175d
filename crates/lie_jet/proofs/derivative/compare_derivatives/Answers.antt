use Rattle.std.proofs.Common.{arith, length, ◌≡◌, ◌∙◌, ap₂}
use Rattle.std.specs.Ordering.{nat_cmp, ordering_then}
use Rattle.std.specs.Cmp.Lexicographic.{slice_cmp}
use Rattle.lie_jet.proofs.DerivativeCounts.{compare_is}
use Rattle.lie_jet.proofs.derivative.compare_derivatives.Goals as goal

pub returns : goal.returns
returns c =
    let same : length c.args.right.now.counts ≡ length c.args.left.now.counts = omega arith in
    c.then-2.ensures
    ∙ ap₂ ordering_then (c.cmp-order.ensures ∙ ap₂ nat_cmp c.sum_of_counts.ensures c.sum_of_counts-2.ensures)
    (c.then.ensures ∙ ap₂ ordering_then c.cmp-unknown.ensures (c.cmp-counts.ensures ∙ ap₂ (slice_cmp nat_cmp) c.as_slice.ensures c.as_slice-2.ensures))
    ∙ compare_is c.args.left.now c.args.right.now same
