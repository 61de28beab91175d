use Rattle.std.proofs.Common.{subst, sym, ◌≡◌, ◌+◌, take, slice_set, slice_index}
use Rattle.lie_math.specs.Counts.{raise}
use Rattle.lie_geometry.specs.Coordinates.{jet}
use Rattle.lie_jet.specs.Jets.{coordinate_of, IsJet}
use Rattle.lie_jet.proofs.Raised.{raised_jet}
use Rattle.lie_jet.proofs.slopes.raise_jet.Goals as goal

pub returns : goal.returns
returns c =
    let made = subst (λ k. IsJet c.args.space 12 (record { dep = c.args.jet.now.dep; counts = slice_set c.args.jet.now.counts k (slice_index c.args.jet.now.counts k + 1) }) × (coordinate_of c.args.space (record { dep = c.args.jet.now.dep; counts = slice_set c.args.jet.now.counts k (slice_index c.args.jet.now.counts k + 1) }) ≡ jet c.args.jet.now.dep (raise c.args.i (take c.args.space.p c.args.jet.now.counts)))) (sym c.from.ensures) (raised_jet c.args.space c.args.jet.now c.args.i c.requires.within c.requires.jet) in
    record { jet = made.0; raised = made.1 }
