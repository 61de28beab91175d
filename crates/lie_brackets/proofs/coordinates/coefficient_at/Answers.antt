use Rattle.std.proofs.Common.{rules, ap, ◌≡◌, ◌∙◌, get_or}
use Rattle.std.specs.Prelude.{ℤ}
use Rattle.std.proofs.lemmas.Fn.{always_returns_same}
use Rattle.lie_math.specs.Monomial.{Monomial, monomial_cmp}
use Rattle.lie_brackets.proofs.TermSearches.{found, missing, none_ties}
use Rattle.lie_brackets.proofs.coordinates.coefficient_at.Goals as goal

pub returns-in-Ok : goal.returns-in-Ok
returns-in-Ok c =
    found c.args.mono.now c.args.terms.now c.in-Ok.place (get_or c.args.terms.now c.in-Ok.place c.index-terms-place.result) c.requires c.in-Ok.ensures.bound
    (ap (get_or c.args.terms.now c.in-Ok.place) c.index-terms-place.is)
    (c.in-Ok.ensures.position (λ (t : Monomial × ℤ). monomial_cmp t.0 c.args.mono.now)
    (always_returns_same _ (λ a r. r ≡ monomial_cmp a.0.now.0 c.args.mono.now) _ (λ a r f' k. search rules)) c.index-terms-place.result)

pub returns-in-Err : goal.returns-in-Err
returns-in-Err c =
    c.zero.ensures
    ∙ missing c.args.mono.now c.args.terms.now c.requires (none_ties c.args.mono.now c.args.terms.now c.in-Err.field-0 c.requires
    (c.in-Err.ensures.position (λ (t : Monomial × ℤ). monomial_cmp t.0 c.args.mono.now)
    (always_returns_same _ (λ a r. r ≡ monomial_cmp a.0.now.0 c.args.mono.now) _ (λ a r f' k. search rules))))
