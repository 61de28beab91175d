use Rattle.std.proofs.Common.{take}
use Rattle.lie_math.specs.Limits.{absolute}
use Rattle.lie_math.specs.LinearForm.{◌+ᶠ◌, each_coefficient}
use Rattle.lie_geometry.specs.SymbolicProlongation.{symbolic_total}
use Rattle.lie_symbolic.specs.SymbolicBulks.{symbolic_multiples}
use Rattle.lie_symbolic.proofs.SymbolicWithin.{never_past}
use Rattle.lie_symbolic.proofs.symbolic_coefficient.symbolic_step.Goals as goal

pub unreachable-requires : goal.unreachable-requires
unreachable-requires c =
    let S = c.args.space in
    never_past c.in-Err-Past.field-0-0 (symbolic_total S c.args.k (each_coefficient absolute c.args.before.now) +ᶠ symbolic_multiples S c.args.k c.args.jet.now.dep (take S.p c.args.jet.now.counts)) c.requires.limits
    (rw c.in-Err-Past.field-0-is at c.in-Err-Past.ensures.past)
