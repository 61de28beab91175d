use Rattle.std.proofs.Common.{rules, ◌≡◌}
use Rattle.std.proofs.lemmas.Fn.{always_returns_same}
use Rattle.lie_math.specs.Monomial.{Monomial, monomial_cmp}
use Rattle.lie_degree.proofs.Gathered.{monomial_searched}
use Rattle.lie_degree.proofs.conditions.place_of.Goals as goal

pub returns : goal.returns
returns c =
    monomial_searched c.args.mono.now c.args.monos.now c.binary_search_by.result c.requires c.binary_search_by.ensures.bound
    (c.binary_search_by.ensures.position (λ (k : Monomial). monomial_cmp k c.args.mono.now)
    (always_returns_same _ (λ a r. r ≡ monomial_cmp a.0.now c.args.mono.now) _ (λ a r f' k. search rules)))
