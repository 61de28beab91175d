-- A number times a variable is one term.
use Rattle.std.specs.Prelude.{◌≡◌, ℕ, ℤ, pos}
use Rattle.std.proofs.Common.{ap₂, ◌∙◌}
use lib.IntN.{*ℤ_comm}
use Rattle.lie_math.specs.Monomial.{single, unit}
use Rattle.lie_math.specs.MonomialOrder.{·_idl}
use Rattle.lie_math.specs.Polynomial.{◌*ᴾ◌, constant, variable, term}
use Rattle.lie_math.specs.PolynomialRing.{term_times_term}
use Rattle.lie_math.specs.Integer.{*ℤ-idl}

pub times_variable : (n : ℕ) (s : ℤ) → constant s *ᴾ variable n ≡ term (single n) s
times_variable n s = term_times_term unit (single n) s (pos 1) ∙ ap₂ term (·_idl (single n)) (*ℤ_comm s (pos 1) ∙ *ℤ-idl s)
