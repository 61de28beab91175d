-- Derivatives of equations: an unknown is not derived by a variable on which it does not depend.
use Rattle.std.specs.Prelude.{ℕ, suc, ◌-◌, cond, List, [], ◌∷◌}
use Rattle.std.specs.Fn.{iterate}
use Rattle.lie_math.specs.PartialDerivative.{partial}
use Rattle.lie_math.specs.Counts.{raised}
use Rattle.lie_math.specs.LinearForm.{LinearForm, no_form, ◌+ᶠ◌, form_term, form_over}
use Rattle.lie_math.specs.LinearSystem.{Unknown}
use Rattle.lie_steps.specs.Equations.{depends}

-- the derivative by the i-th variable: each a·f_J becomes (∂a/∂z_i)·f_J, and a·f_(J+e_i) where f depends on z_i
unfoldable pub derivative : List Unknown → ℕ → LinearForm → LinearForm
derivative unknowns i E = form_over (λ d a. form_term d (partial i a)
    +ᶠ cond (depends unknowns d.unknown i) (form_term (raised i d) a) no_form) E

-- the derivative by counts, by the first variable first
abbrev pub derivatives_from : List Unknown → ℕ → List ℕ → LinearForm → LinearForm
derivatives_from unknowns i [] E = E
derivatives_from unknowns i (c ∷ K) E = derivatives_from unknowns (suc i) K (iterate (derivative unknowns i) c E)

abbrev pub derivatives : List Unknown → List ℕ → LinearForm → LinearForm
derivatives unknowns K E = derivatives_from unknowns 0 K E

-- how much more often J derives than K, by each variable
abbrev pub missing : List ℕ → List ℕ → List ℕ
missing K [] = []
missing [] (j ∷ J) = j ∷ J
missing (k ∷ K) (j ∷ J) = (j - k) ∷ missing K J
