use Rattle.std.proofs.Common.{sym, ap, ◌∙◌}
use Rattle.std.specs.Prelude.{◌++◌, ◌∷◌, []}
use Rattle.lie_math.specs.FiniteSum as finite
use Rattle.lie_math.specs.FiniteSumLaws.{term_additive}
use Rattle.lie_math.specs.Monomial.{monomial_of, power_of, powers}
use Rattle.lie_ring.proofs.monomial.Mono.power.Goals as goal

pub returns-then-exponent-eq0 : goal.returns-then-exponent-eq0
returns-then-exponent-eq0 c = c.one.ensures ∙ sym ((term_additive powers).on_nil c.args.variable) ∙ ap (power_of c.args.variable) (sym c.if-exponent-eq0.true)

pub returns : goal.returns
unfolding finite.term
returns c = ap monomial_of (c.push_reserved.ensures.items ∙ ap (λ ps. ps ++ (c.args.variable, c.args.exponent) ∷ []) c.new-pairs.ensures.items)
