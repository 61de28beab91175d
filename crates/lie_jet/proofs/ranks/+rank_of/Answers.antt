use Rattle.std.proofs.Common.{arith, ◌≡◌, ◌+◌}
use Rattle.std.proofs.lemmas.Grind.{common_steps}
use Rattle.lie_geometry.specs.Coordinates.{rank}
use Rattle.lie_jet.proofs.Binomials.{few_ranks}
use Rattle.lie_jet.proofs.ranks.+rank_of.Goals as goal

pub returns-clause-small : goal.returns-clause-small
returns-clause-small t c = let e : c.lists_below.result + c.rank_of.result ≡ rank c.args.counts.now = grind (arith, common_steps) in omega (arith, few_ranks c.args.counts.now c.requires.few c.requires.low)
