-- Leads of equations in which an unknown does not occur.
use Rattle.std.specs.Prelude.{◌≡◌, ℕ, false, eqb}
use Rattle.std.proofs.Common.{arith}
use Rattle.std.proofs.lemmas.Bool.Decides.{nat_tests}
use Rattle.lie_math.specs.Counts.{Derivative}
use Rattle.lie_math.specs.LinearForm.{LinearForm}
use Rattle.lie_math.specs.Polynomial.{WholePolynomial}
use Rattle.lie_systems.specs.Leads.{IsLead}
use Rattle.lie_steps.specs.Equations.{mentions}
use Rattle.lie_steps.proofs.PutIn.{avoids_of}
use Rattle.lie_steps.proofs.Rests.{coefficient_has}

pub lead_is_other : (f : ℕ) (E : LinearForm) (l : Derivative) → mentions f E ≡ false → IsLead l E → ¬ (l.unknown ≡ f)
lead_is_other f E l none lead e =
    go (coefficient_has (λ (t : Derivative × WholePolynomial). eqb (t.0).unknown f ≡ false) E (avoids_of f E none) l lead.occurs)
  where
    go : eqb l.unknown f ≡ false → ⊥
    go k = grind (arith, nat_tests)
