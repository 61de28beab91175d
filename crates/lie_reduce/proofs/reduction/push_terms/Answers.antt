use Rattle.lie_reduce.proofs.ReductionSteps.{pushed_sum, pushed_bulk}
use Rattle.lie_reduce.proofs.reduction.push_terms.Goals as goal

pub returns-clause-sum : goal.returns-clause-sum
returns-clause-sum c = pushed_sum c.args.made.now.items c.in_ok-terms.terms.items c.args.p.now c.append.new.self.items c.in_ok-append.ensures.items c.in_ok-terms.ensures

pub returns-clause-bulk : goal.returns-clause-bulk
returns-clause-bulk c = pushed_bulk c.args.made.now.items c.in_ok-terms.terms.items c.args.p.now c.append.new.self.items c.in_ok-append.ensures.items c.in_ok-terms.ensures
