-- The terms of a lead minus a polynomial, one after the other.
use Rattle.std.specs.Prelude.{◌≡◌, ℤ, pos, ◌+ℤ◌, neg_ℤ}
use Rattle.std.proofs.Common.{sym, ◌∙◌, Ordering, Equal}
use Rattle.lie_math.specs.Limits.{FitsNumber}
use Rattle.lie_math.specs.Monomial.{Monomial, monomial_cmp}
use Rattle.lie_math.specs.MonomialOrder.{monomial_cmp-IsAntisymmetric}
use Rattle.lie_canonical.specs.RightSides.{Leaves}

pub equal_fits : (lead m : Monomial) (t : Monomial × ℤ) (r : Ordering) → Leaves lead t → m ≡ t.0 → r ≡ monomial_cmp lead m → r ≡ Equal → FitsNumber (pos 1 +ℤ neg_ℤ t.1)
equal_fits lead m t r fits is at e = fits (sym (monomial_cmp-IsAntisymmetric lead m (sym at ∙ e) ∙ is))
