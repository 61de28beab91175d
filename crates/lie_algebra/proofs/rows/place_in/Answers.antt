use Rattle.std.specs.Prelude.{ℤ}
use Rattle.std.proofs.Common.{rules, ◌≡◌}
use Rattle.std.proofs.lemmas.Fn.{always_returns_same}
use Rattle.lie_math.specs.Monomial.{Monomial, monomial_cmp}
use Rattle.lie_algebra.proofs.UnknownRows.{term_searched}
use Rattle.lie_algebra.proofs.rows.place_in.Goals as goal

pub returns : goal.returns
returns c =
    term_searched c.args.mono.now c.args.list.now c.binary_search_by.result c.requires c.binary_search_by.ensures.bound
    (c.binary_search_by.ensures.position (λ (e : Monomial × ℤ). monomial_cmp e.0 c.args.mono.now)
    (always_returns_same _ (λ a r. r ≡ monomial_cmp a.0.now.0 c.args.mono.now) _ (λ a r f' k. search rules)))
