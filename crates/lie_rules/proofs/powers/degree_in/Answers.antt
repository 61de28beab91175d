use Rattle.std.proofs.Common.{ap, sym, ◌∙◌}
use Rattle.std.specs.Prelude.{ℤ}
use Rattle.lie_math.specs.Monomial.{Monomial, exponent}
use Rattle.lie_jet.proofs.TotalParts.{entries_same}
use Rattle.lie_rules.proofs.PowerParts.{most, most_end}
use Rattle.lie_rules.proofs.powers.degree_in.Goals as goal

pub returns : goal.returns
returns c =
    most_end (λ (m : Monomial) (a : ℤ). exponent m c.args.var) c.as_slice-term-items.result.now c.loop-term.term-index c.loop-term.degree _
    c.loop-term-test.false c.loop-term.invariant
    ∙ ap (most (λ (m : Monomial) (a : ℤ). exponent m c.args.var))
    (c.as_slice-term-items.ensures.value ∙ sym (entries_same c.in_ok-terms.terms.items) ∙ c.in_ok-terms.ensures)
