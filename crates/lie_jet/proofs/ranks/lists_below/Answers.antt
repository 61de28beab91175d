use Rattle.std.proofs.Common.{ℕ, sym, ap, arith, ◌≡◌, ◌∙◌}
use Rattle.lie_geometry.specs.Coordinates.{sum_below, ways}
use Rattle.lie_jet.proofs.Binomials.{below_of_none, below_of_one, below_of_two, below_of_three, below_of_four, low_product, few_below, quotient}
use Rattle.lie_jet.proofs.ranks.lists_below.Goals as goal
use Rattle.lie_jet.proofs.ranks.lists_below.Goals.{In_default}

at : (p k n : ℕ) → p ≡ k → sum_below (ways k) n ≡ sum_below (ways p) n
at p k n e = ap (λ x. sum_below (ways x) n) (sym e)

four : (c : In_default) → c.args.p ≡ 4
four c = omega arith

pub overflow_mul-result-in_default-3 : goal.overflow_mul-result-in_default-3
overflow_mul-result-in_default-3 c = omega (arith, low_product c.args.n c.requires.low)

pub returns-in-0-clause-count : goal.returns-in-0-clause-count
returns-in-0-clause-count c = c.min.ensures ∙ sym (below_of_none c.args.n) ∙ at _ 0 _ c.in-0.is

pub returns-in-1-clause-count : goal.returns-in-1-clause-count
returns-in-1-clause-count c = sym (below_of_one c.args.n) ∙ at _ 1 _ c.in-1.is

pub returns-in-2-clause-count : goal.returns-in-2-clause-count
returns-in-2-clause-count c = quotient 2 _ _ (omega arith) (below_of_two c.args.n) ∙ at _ 2 _ c.in-2.is

pub returns-in-3-clause-count : goal.returns-in-3-clause-count
returns-in-3-clause-count c = quotient 6 _ _ (omega arith) (below_of_three c.args.n) ∙ at _ 3 _ c.in-3.is

pub returns-in_default-clause-count : goal.returns-in_default-clause-count
returns-in_default-clause-count c = quotient 24 _ _ (omega arith) (below_of_four c.args.n) ∙ at _ 4 _ (four c)

pub returns-in_default-clause-small : goal.returns-in_default-clause-small
returns-in_default-clause-small c = rw (quotient 24 (sum_below (ways 4) c.args.n) _ (omega arith) (below_of_four c.args.n)) (few_below 4 _ (omega arith) c.requires.low)
