use Rattle.lie_poly.proofs.WordLaws.{one_at}
use Rattle.std.proofs.Common.{arith}
use Rattle.lie_poly.proofs.words.is_one_of.Goals as goal

pub returns-then-var-other : goal.returns-then-var-other
returns-then-var-other c t = one_at c.args.vars.now c.loop-other.other-index c.args.var (omega (arith, c.loop-other-test.true)) c.if-var-other.true
