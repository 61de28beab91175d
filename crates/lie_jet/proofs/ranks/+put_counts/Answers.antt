use Rattle.std.proofs.Common.{arith, rules, ◌-◌}
use Rattle.lie_jet.proofs.CountLists.{rest_within, sum_put, rank_put}
use Rattle.lie_jet.proofs.ranks.+put_counts.Goals as goal

pub sum_at-rest-requires-clause-within : goal.sum_at-rest-requires-clause-within
sum_at-rest-requires-clause-within t c = rest_within _ _ _ (omega arith) c.requires.within

pub returns-clause-sum : goal.returns-clause-sum
returns-clause-sum t c = sum_put _ _ _ _ (omega arith) c.sum_at-rest.ensures.most c.put_counts.ensures.sum

pub returns-clause-rank : goal.returns-clause-rank
returns-clause-rank t c = rank_put c.args.counts.now c.put_counts.new.counts (c.args.sum - c.sum_at-rest.result) c.sum_at-rest.result c.args.rank (omega arith) (search rules) c.put_counts.ensures.sum (omega (arith, c.sum_at-rest.ensures.at)) (omega (arith, c.put_counts.ensures.rank, c.lists_below.ensures.count))
