use Rattle.std.proofs.Common.{◌≡◌, ap, length, sym, subst, ◌∙◌, eqb, List}
use Rattle.std.specs.Prelude.{ℤ, MatchBool}
use Rattle.std.specs.List.{AllByRecursion as Every}
use Rattle.lie_math.specs.Monomial.{Monomial, unit}
use Rattle.lie_jet.proofs.TotalParts.{entries_same}
use Rattle.lie_rules.proofs.LowestSteps.{one_constant, first_constant}
use Rattle.lie_rules.proofs.lowest.is_constant.Goals as goal

pub returns-then-len-ne1 : goal.returns-then-len-ne1
returns-then-len-ne1 c = λ h. c.if-len-ne1.true (c.len.ensures.count ∙ one_constant c.args.poly.now c.requires h)

pub returns : goal.returns
returns c =
    let same : c.in_ok-terms.terms.items ≡ c.args.poly.now.list = sym (entries_same c.in_ok-terms.terms.items) ∙ c.in_ok-terms.ensures in
    let b = eqb (length c.pairs.result.now) 0 in
    subst (λ (xs : List (Monomial × ℤ)). MatchBool b (Every (λ (x : Monomial × ℤ). x.0 ≡ unit) xs)
    (¬ (Every (λ (x : Monomial × ℤ). x.0 ≡ unit) xs))) same
    (first_constant c.in_ok-terms.terms.items c.index.result.now
    (ap length same ∙ sym c.len.ensures.count ∙ c.if-len-ne1.false) c.index.ensures b
    (ap (λ ps. eqb (length ps) 0) (sym c.pairs.ensures)))
