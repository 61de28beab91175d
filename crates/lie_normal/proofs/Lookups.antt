-- The coefficient of a derivative, looked up among terms in printed order.
use Rattle.std.specs.Prelude.{◌≡◌, ℕ, zero, suc, ◌<◌, true, false, cond, List, [], ◌∷◌, length, get_or, drop}
use Rattle.std.proofs.Common.{refl, sym, ap, subst, ◌∙◌, arith}
use Rattle.std.specs.Ordering.{eq_by_cmp}
use Rattle.lie_math.specs.Canonical.{value_at-head}
use Rattle.lie_math.specs.Counts.{Derivative, derivative_cmp}
use Rattle.lie_math.specs.LinearForm.{forms}
use Rattle.lie_math.specs.Polynomial.{WholePolynomial, 0ᴾ}
use Rattle.lie_math.specs.SortedSum.{value_at}
use Rattle.lie_math.proofs.CanonicalLists.{canonical_below, canonical_tail}
use Rattle.lie_math.proofs.FiniteSum.{key}
use Rattle.lie_jet.specs.Derivatives.{derivative_of}
use Rattle.lie_jet.specs.declared.derivative.Der.{Der}
use Rattle.lie_lin.specs.Forms.{coefficients_of, AreCoefficients}

module _ (d : Derivative) where
  -- its coefficient in the terms from the k-th on
  abbrev pub coefficient_from : ℕ → List (Der × WholePolynomial) → WholePolynomial
  coefficient_from k es = value_at derivative_cmp forms.values d (coefficients_of (drop k es))

  pub found_at : (es : List (Der × WholePolynomial)) (k : ℕ) (x : Der × WholePolynomial) → AreCoefficients es → k < length es → x ≡ get_or es k x
      → eq_by_cmp derivative_cmp d (derivative_of x.0) ≡ true → coefficient_from k es ≡ x.1
  found_at [] k x c h e t = absurd (omega arith)
  found_at (y ∷ es) zero x c h e t = head (subst (λ (z : Der × WholePolynomial). eq_by_cmp derivative_cmp d (derivative_of z.0) ≡ true) e t) ∙ ap (λ (z : Der × WholePolynomial). z.1) (sym e)
    where
      head : eq_by_cmp derivative_cmp d (derivative_of y.0) ≡ true → value_at derivative_cmp forms.values d (coefficients_of (y ∷ es)) ≡ y.1
      head q =
          ap (λ k. value_at derivative_cmp forms.values k (coefficients_of (y ∷ es))) (key forms d (derivative_of y.0) q)
          ∙ value_at-head derivative_cmp forms.values forms.total forms.same (derivative_of y.0, y.1) (coefficients_of es) (canonical_below forms (derivative_of y.0, y.1) (coefficients_of es) c)
  found_at (y ∷ es) (suc k) x c h e t = found_at es k x (canonical_tail forms (derivative_of y.0, y.1) (coefficients_of es) c) (omega arith) e t

  pub passed_at : (es : List (Der × WholePolynomial)) (k : ℕ) (x : Der × WholePolynomial) → k < length es → x ≡ get_or es k x
      → eq_by_cmp derivative_cmp d (derivative_of x.0) ≡ false → coefficient_from k es ≡ coefficient_from (suc k) es
  passed_at [] k x h e t = absurd (omega arith)
  passed_at (y ∷ es) zero x h e t =
      ap (λ b. forms.values.adder.plus (cond b y.1 forms.values.adder.nil) (value_at derivative_cmp forms.values d (coefficients_of es)))
      (subst (λ (z : Der × WholePolynomial). eq_by_cmp derivative_cmp d (derivative_of z.0) ≡ false) e t)
      ∙ forms.values.adder.idl _
  passed_at (y ∷ es) (suc k) x h e t = passed_at es k x (omega arith) e t

  pub none_from : (es : List (Der × WholePolynomial)) (k : ℕ) → ¬ (k < length es) → coefficient_from k es ≡ 0ᴾ
  none_from [] zero h = refl
  none_from [] (suc k) h = refl
  none_from (y ∷ es) zero h = absurd (h (omega arith))
  none_from (y ∷ es) (suc k) h = none_from es k (λ l. h (omega arith))
