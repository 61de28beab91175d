-- Which unknowns kept forms have, read one derivative after the other.
use Rattle.std.specs.Prelude.{◌≡◌, ℕ, ◌<◌, ◌≤◌, Bool, true, false, ◌||◌, eqb, List, [], ◌∷◌, length, take, get_or}
use Rattle.std.proofs.Common.{refl, sym, ap, ◌∙◌}
use Rattle.std.proofs.lemmas.List.Folds.{list_any_at}
use Rattle.std.specs.List.{list_any}
use Rattle.lie_math.specs.Counts.{Derivative}
use Rattle.lie_math.specs.LinearForm.{LinearForm}
use Rattle.lie_math.specs.Polynomial.{WholePolynomial}
use Rattle.lie_jet.specs.declared.derivative.Der.{Der}
use Rattle.lie_lin.specs.Forms.{coefficients_of}
use Rattle.lie_ring.proofs.Fronts.{all_taken}
use Rattle.lie_steps.specs.Equations.{mentions}

-- ---- a test of a list, element by element
module _ {X : Type 0} (p : X → Bool) (xs : List X) (i : ℕ) (x : X) (lt : i < length xs) (is : x ≡ get_or xs i x) where
  pub passed_at : p x ≡ true → list_any p xs ≡ true
  passed_at h = list_any_at p xs i x lt (ap p (sym is) ∙ h)

pub none_passed : {X : Type 0} (p : X → Bool) (xs : List X) (i : ℕ) → length xs ≤ i → list_any p (take i xs) ≡ false → list_any p xs ≡ false
none_passed p xs i le h = ap (list_any p) (sym (all_taken xs i le)) ∙ h

-- ---- kept derivatives
abbrev pub is_kept_of : ℕ → Der × WholePolynomial → Bool
is_kept_of f e = eqb (e.0).unknown f

pub mentions_kept : (f : ℕ) (E : LinearForm) (es : List (Der × WholePolynomial)) → coefficients_of es ≡ E.list
    → list_any (is_kept_of f) es ≡ mentions f E
mentions_kept f E es is = same es ∙ ap (list_any (λ (e : Derivative × WholePolynomial). eqb (e.0).unknown f)) is
  where
    same : (es : List (Der × WholePolynomial)) → list_any (is_kept_of f) es ≡ list_any
        (λ (e : Derivative × WholePolynomial). eqb (e.0).unknown f) (coefficients_of es)
    same [] = refl
    same (e ∷ es) = ap (λ t. eqb (e.0).unknown f || t) (same es)
