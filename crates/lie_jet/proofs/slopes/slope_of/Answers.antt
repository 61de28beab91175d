use Rattle.std.proofs.Common.{sym, ap, ◌∙◌}
use Rattle.std.specs.Prelude.{pos}
use Rattle.lie_math.specs.Monomial.{Monomial}
use Rattle.lie_math.specs.Polynomial.{term, variable}
use Rattle.lie_geometry.specs.Coordinates.{number}
use Rattle.lie_jet.proofs.Raised.{low_jet, slope_of_jet, independent_below, slope_at_itself, slope_elsewhere}
use Rattle.lie_jet.proofs.slopes.slope_of.Goals as goal

pub raise_jet-requires-clause-jet : goal.raise_jet-requires-clause-jet
raise_jet-requires-clause-jet c = low_jet c.args.space c.in-Some.ensures.small c.args.var c.in-Some.jet c.requires.low c.in-Some.ensures.jet.0 c.in-Some.ensures.jet.1

pub returns-in-Some : goal.returns-in-Some
returns-in-Some c = ap (λ (m : Monomial). term m (pos 1)) c.variable.ensures ∙ ap variable (c.jet_number-number.ensures.number ∙ ap (number c.args.space) c.raise_jet.ensures.raised) ∙ sym (slope_of_jet c.args.space c.in-Some.ensures.small c.args.var c.args.i _ _ c.requires.within c.in-Some.ensures.jet.1)

pub returns-then-var-from : goal.returns-then-var-from
returns-then-var-from c = ap (λ (m : Monomial). term m (pos 1)) c.one.ensures ∙ sym (slope_at_itself c.args.space c.in-None.ensures.small c.args.var c.args.i (independent_below c.args.space c.in-None.ensures.small c.args.var c.requires.low c.in-None.ensures.jet) (sym (c.if-var-from.true ∙ c.from.ensures)))

pub returns-else-var-from : goal.returns-else-var-from
returns-else-var-from c = sym (slope_elsewhere c.args.space c.in-None.ensures.small c.args.var c.args.i (independent_below c.args.space c.in-None.ensures.small c.args.var c.requires.low c.in-None.ensures.jet) (λ e. c.if-var-from.false (sym e ∙ sym c.from.ensures)))
