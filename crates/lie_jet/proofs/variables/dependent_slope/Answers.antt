use Rattle.std.proofs.Common.{ap, ◌∙◌, ℤ, unsigned_abs}
use Rattle.lie_math.specs.Monomial.{single}
use Rattle.lie_math.specs.Polynomial.{term}
use Rattle.lie_jet.specs.Jets.{coordinate_of}
use Rattle.lie_jet.proofs.Raised.{is_dependent, dependent_raised}
use Rattle.lie_jet.proofs.TotalParts.{if_ok}
use Rattle.lie_jet.proofs.variables.dependent_slope.Goals as goal

pub raise_jet-requires-clause-jet : goal.raise_jet-requires-clause-jet
raise_jet-requires-clause-jet c = is_dependent c.args.space c.args.b c.space_is_small.ensures c.requires.dependent

pub signed_variable-requires : goal.signed_variable-requires
signed_variable-requires c = record { unit = ap unsigned_abs c.one.ensures }

pub returns-clause-slope : goal.returns-clause-slope
returns-clause-slope c =
    if_ok c.signed_variable.result (λ p h. dependent_raised c.args.space c.args.b c.args.i c.jet_number-number.result (coordinate_of c.args.space c.raise_jet.result) p c.space_is_small.ensures c.raise_jet.ensures.raised c.jet_number-number.ensures.number
    (h ∙ ap (λ (z : ℤ). term (single c.jet_number-number.result) z) c.one.ensures)) c.signed_variable.ensures.variable
