use Rattle.lie_brackets.proofs.PivotPlaces.{degree_told}
use Rattle.lie_brackets.proofs.generators.degree_of.Goals as goal

pub returns : goal.returns
returns c = degree_told c.args.mono.now c.pairs-exponent-items.result.now c.loop-exponent.total c.loop-exponent.exponent-index c.pairs-exponent-items.ensures c.loop-exponent-test.false c.loop-exponent.invariant.sum
