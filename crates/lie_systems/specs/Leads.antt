-- The lead of a form: the greatest derivative that occurs in it.
use Rattle.std.specs.Prelude.{◌≡◌}
use Rattle.std.proofs.Common.{Greater}
use Rattle.lie_math.specs.FiniteSum as finite
use Rattle.lie_math.specs.Polynomial.{0ᴾ}
use Rattle.lie_math.specs.Counts.{Derivative, derivative_cmp}
use Rattle.lie_math.specs.LinearForm.{LinearForm, forms}

-- the coefficient of the derivative is not 0
abbrev pub Occurs : Derivative → LinearForm → Type 0
Occurs d E = ¬ (finite.value forms E d ≡ 0ᴾ)

-- it occurs, and no derivative that occurs is printed before it
pub record IsLead (d : Derivative) (E : LinearForm) : Type 0 where
  pub occurs : Occurs d E
  pub greatest : (e : Derivative) → Occurs e E → ¬ (derivative_cmp d e ≡ Greater)
