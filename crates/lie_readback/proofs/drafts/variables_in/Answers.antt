use Rattle.std.proofs.Common.{arith}
use Rattle.std.specs.Prelude.{◌==◌}
use Rattle.std.specs.List.{list_any}
use Rattle.lie_readback.proofs.DraftSteps.{bits_fit, bit_small, variables_are}
use Rattle.lie_readback.proofs.drafts.variables_in.Goals as goal

pub overflow_mul-bits : goal.overflow_mul-bits
overflow_mul-bits c =
    let small = bits_fit (λ n. list_any (λ b. b == n) c.behind-letters.result.now) c.args.names.now c.loop-i.i c.loop-i.bits c.loop-i-test.true c.requires c.loop-i.invariant.so_far in
    omega arith

pub overflow_add-bits : goal.overflow_add-bits
overflow_add-bits c =
    let small = bits_fit (λ n. list_any (λ b. b == n) c.behind-letters.result.now) c.args.names.now c.loop-i.i c.loop-i.bits c.loop-i-test.true c.requires c.loop-i.invariant.so_far in
    let bit = bit_small c.contains.result in
    let is = c.from.ensures in
    omega arith

pub returns : goal.returns
returns c = variables_are c.args.line.now c.args.names.now c.behind-letters.result.now c.loop-i.i c.loop-i.bits c.loop-i-test.false c.behind-letters.ensures c.loop-i.invariant.so_far
