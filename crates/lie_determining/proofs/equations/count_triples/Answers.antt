use Rattle.std.proofs.Common.{arith, ◌+◌}
use Rattle.lie_determining.proofs.EquationSteps.{triples_more, triples_taken}
use Rattle.lie_determining.proofs.equations.count_triples.Goals as goal

pub returns-then-count-gt-MAX_TRIPLES : goal.returns-then-count-gt-MAX_TRIPLES
returns-then-count-gt-MAX_TRIPLES c =
    let more = triples_more c.args.list.now c.loop-eq.eq-index c.eq-item.result c.loop-eq-test.true c.eq-item.is in
    let few = triples_taken c.args.list.now (c.loop-eq.eq-index + 1) in omega arith

pub loop-eq-preserved : goal.loop-eq-preserved
loop-eq-preserved c =
    let more = triples_more c.args.list.now c.loop-eq.eq-index c.eq-item.result c.loop-eq-test.true c.eq-item.is in record {
      count = omega arith;
      small = omega arith;
    }
