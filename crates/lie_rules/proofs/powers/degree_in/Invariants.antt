use Rattle.std.proofs.Common.{◌≡◌, ℤ, drop, max}
use Rattle.lie_math.specs.Monomial.{Monomial, exponent}
use Rattle.lie_rules.proofs.PowerParts.{most}
use Rattle.lie_rules.proofs.powers.degree_in.Given as goal

abbrev pub invariant-loop-term : goal.invariant-loop-term
invariant-loop-term l =
    max l.degree (most (λ (m : Monomial) (a : ℤ). exponent m l.var) (drop l.term-index l.term-items)) ≡ most
    (λ (m : Monomial) (a : ℤ). exponent m l.var) l.term-items
