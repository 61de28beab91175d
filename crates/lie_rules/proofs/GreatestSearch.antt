-- Along the derivatives of a form, the greatest first: the first that has a property is the greatest that has it.
use Rattle.std.specs.Prelude.{◌≡◌, ℕ, zero, suc, ◌+◌, ◌<◌, ◌≤◌, List, [], ◌∷◌, length, get_or, drop}
use Rattle.std.proofs.Common.{refl, sym, subst, arith, add-one, Greater}
use Rattle.std.specs.List.{AllByRecursion as Every}
use Rattle.lie_math.specs.Counts.{Derivative, derivative_cmp}
use Rattle.lie_math.specs.LinearForm.{LinearForm, forms}
use Rattle.lie_math.specs.Polynomial.{WholePolynomial}
use Rattle.lie_math.proofs.CanonicalLists.{canonical_tail}
use Rattle.lie_math.proofs.FiniteSum.{entries_of}
use Rattle.lie_systems.specs.Leads.{Occurs}
use Rattle.lie_jet.specs.Derivatives.{derivative_of}
use Rattle.lie_jet.specs.declared.derivative.Der.{Der}
use Rattle.lie_form.proofs.FormBounds.{at}
use Rattle.lie_lin.specs.Forms.{coefficients_of, AreCoefficients}
use Rattle.lie_steps.specs.Equations.{IsGreatest}
use Rattle.lie_integral.proofs.KeptTerms.{entry_at}
use Rattle.lie_steps.proofs.DescendingLists.{StandsIn, not_before, stands_later}

-- the coefficient of a kept derivative
pub kept_coefficient : (E : LinearForm) (ts : List (Der × WholePolynomial)) → coefficients_of ts ≡ E.list
    → (i : ℕ) (t : Der × WholePolynomial) → i < length ts → t ≡ get_or ts i t → at E (derivative_of t.0) ≡ t.1
kept_coefficient E ts all i t h is =
    entry_at (λ (e : Derivative × WholePolynomial). at E e.0 ≡ e.1) ts i t h is
    (subst (Every (λ (e : Derivative × WholePolynomial). at E e.0 ≡ e.1)) (sym all)
    (entries_of forms E (λ (e : Derivative × WholePolynomial). at E e.0 ≡ e.1) (λ e is n. is)))

module _ (P : Derivative → Type 0) where
  -- what has the property stands from the i-th place on
  abbrev pub StandFrom : ℕ → List (Der × WholePolynomial) → Type 0
  StandFrom i ts = (q : Derivative) → P q → StandsIn (drop i (coefficients_of ts)) q

  pub all_stand : (E : LinearForm) (ts : List (Der × WholePolynomial)) → coefficients_of ts ≡ E.list → ((q : Derivative) → P q → Occurs q E)
      → StandFrom 0 ts
  all_stand E ts all h q p = subst (λ es. StandsIn es q) (sym all) (h q p)

  pub first_greatest : (ts : List (Der × WholePolynomial)) (i : ℕ) (t : Der × WholePolynomial) → AreCoefficients ts → i < length ts
      → t ≡ get_or ts i t → StandFrom i ts → P (derivative_of t.0) → IsGreatest P (derivative_of t.0)
  first_greatest [] i t c h is from p = absurd (omega arith)
  first_greatest (x ∷ ts) zero t c h is from p =
      record {
        holds = p;
        greatest =
            λ q k. subst (λ (y : Der × WholePolynomial). ¬ (derivative_cmp (derivative_of y.0) q ≡ Greater)) (sym is)
            (not_before (derivative_of x.0, x.1) (coefficients_of ts) c q (from q k));
      }
  first_greatest (x ∷ ts) (suc i) t c h is from p =
      first_greatest ts i t (canonical_tail forms (derivative_of x.0, x.1) (coefficients_of ts) c) (omega arith) is from p

  pub stand_later : (ts : List (Der × WholePolynomial)) (i : ℕ) (t : Der × WholePolynomial) → AreCoefficients ts → i < length ts
      → t ≡ get_or ts i t → StandFrom i ts → ¬ (P (derivative_of t.0)) → StandFrom (i + 1) ts
  stand_later ts i t c h is from n = subst (λ j. StandFrom j ts) (sym (add-one i)) (go ts i c h is from)
    where
      go : (ts : List (Der × WholePolynomial)) (i : ℕ) → AreCoefficients ts → i < length ts → t ≡ get_or ts i t → StandFrom i ts
          → StandFrom (suc i) ts
      go [] i c h is from = absurd (omega arith)
      go (x ∷ ts) zero c h is from =
          λ q p. stands_later (derivative_of x.0, x.1) (coefficients_of ts) c q (from q p)
          (λ s. n (subst (λ (y : Der × WholePolynomial). P (derivative_of y.0)) (sym is) (subst P s p)))
      go (x ∷ ts) (suc i) c h is from = go ts i (canonical_tail forms (derivative_of x.0, x.1) (coefficients_of ts) c) (omega arith) is from

  pub none_stands : (ts : List (Der × WholePolynomial)) (i : ℕ) → length ts ≤ i → StandFrom i ts → (d : Derivative) → ¬ (P d)
  none_stands [] zero h from d p = from d p refl
  none_stands [] (suc i) h from d p = from d p refl
  none_stands (x ∷ ts) zero h from d p = absurd (omega arith)
  none_stands (x ∷ ts) (suc i) h from d p = none_stands ts i (omega arith) from d p
