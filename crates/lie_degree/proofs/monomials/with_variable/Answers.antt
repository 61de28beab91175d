use Rattle.std.proofs.Common.{refl, arith}
use Rattle.std.specs.Prelude.{◌≤◌}
use Rattle.lie_math.specs.Monomial.{degree}
use Rattle.lie_math.proofs.EveryElement.{every_at}
use Rattle.lie_degree.specs.Columns.{with_powers, with_variable}
use Rattle.lie_degree.proofs.Loops.{piece_more, piece_end}
use Rattle.lie_degree.proofs.monomials.with_variable.Goals as goal

pub push_powers-requires-clause-low : goal.push_powers-requires-clause-low
push_powers-requires-clause-low c =
    every_at (λ m. degree m ≤ c.args.highest) c.args.monos.now c.loop-mono.mono-index c.mono-item.result
    (omega arith) c.mono-item.is c.requires.low

pub loop-mono-preserved : goal.loop-mono-preserved
loop-mono-preserved c =
    piece_more (with_variable c.args.var c.args.highest) (with_powers c.args.var c.args.highest)
    (λ x xs. refl) c.args.monos.now c.loop-mono.mono-index c.mono-item.result
    c.loop-mono.made.items c.push_powers.new.monos.items (with_variable c.args.var c.args.highest c.args.monos.now)
    (omega arith) c.mono-item.is c.in_ok-push_powers.ensures c.loop-mono.invariant

pub returns : goal.returns
returns c =
    piece_end (with_variable c.args.var c.args.highest) refl c.args.monos.now c.loop-mono.mono-index c.loop-mono.made.items
    (with_variable c.args.var c.args.highest c.args.monos.now)
    (omega arith) c.loop-mono.invariant
