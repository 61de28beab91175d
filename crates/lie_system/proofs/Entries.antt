-- The entries of a polynomial and the terms that it is the sum of.
use Rattle.std.specs.Prelude.{◌≡◌, Bool, true, false, cond, List, [], ◌∷◌, ℤ, pos, ◌+ℤ◌}
use Rattle.std.proofs.Common.{refl, sym, ap, subst, ◌∙◌}
use Rattle.std.specs.List.{AllByRecursion as Every}
use Rattle.std.specs.Ordering.{eq_by_cmp}
use Rattle.lie_math.specs.Integer.{coefficients}
use Rattle.lie_math.specs.Monomial.{Monomial, monomial_cmp}
use Rattle.lie_math.specs.Polynomial.{terms}
use Rattle.lie_math.specs.SortedSum.{value_at}
use Rattle.lie_math.proofs.FiniteSum.{key}

-- a monomial with a number other than 0 is that of some term
pub at_entry : (Q : Monomial → Type 0) (es : List (Monomial × ℤ)) → Every (λ (e : Monomial × ℤ). Q e.0) es → (m : Monomial) → ¬ (value_at monomial_cmp coefficients m es ≡ pos 0) → Q m
at_entry Q [] h m n = absurd (n refl)
at_entry Q (e ∷ es) h m n = go (eq_by_cmp monomial_cmp m e.0) refl (at_entry Q es h.1 m)
  where
    go : (b : Bool) → eq_by_cmp monomial_cmp m e.0 ≡ b → (¬ (value_at monomial_cmp coefficients m es ≡ pos 0) → Q m) → Q m
    go true f rest = subst Q (sym (key terms m e.0 f)) h.0
    go false f rest = rest (λ z. n (ap (λ t. cond t e.1 (pos 0) +ℤ value_at monomial_cmp coefficients m es) f ∙ lib.IntN.+ℤ_idl (value_at monomial_cmp coefficients m es) ∙ z))
