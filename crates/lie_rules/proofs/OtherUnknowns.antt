-- Forms without an unknown, and forms in which one occurs.
use Rattle.std.specs.Prelude.{◌≡◌, ℕ, Bool, true, false, ◌||◌, eqb, List, [], ◌∷◌}
use Rattle.std.proofs.Common.{refl, sym, ap₂, ◌∙◌, true≢false, eq-eqb}
use Rattle.std.specs.List.{AllByRecursion as Every, list_any}
use Rattle.lie_math.specs.Counts.{Derivative}
use Rattle.lie_math.specs.LinearForm.{LinearForm, ◌+ᶠ◌, times_form}
use Rattle.lie_math.specs.Polynomial.{WholePolynomial}
use Rattle.lie_math.specs.Variables.{IsIn}
use Rattle.lie_math.proofs.EveryElement.{every-weaken}
use Rattle.lie_math.proofs.FormEntries.{each-plus, each-times}
use Rattle.lie_math.proofs.Tests.{other_number}
use Rattle.lie_systems.specs.Leads.{Occurs}
use Rattle.lie_steps.specs.Equations.{mentions}
use Rattle.lie_steps.proofs.PutIn.{avoids_of}
use Rattle.lie_steps.proofs.Rests.{coefficient_has}

module _ (f : ℕ) where
  -- the unknown of a derivative is another one
  abbrev pub IsOther : Derivative × WholePolynomial → Type 0
  IsOther e = ¬ ((e.0).unknown ≡ f)

  pub others_of : (E : LinearForm) → mentions f E ≡ false → Every IsOther E.list
  others_of E h = every-weaken (λ (e : Derivative × WholePolynomial). eqb (e.0).unknown f ≡ false) IsOther
      (λ e k s. true≢false (sym (eq-eqb (e.0).unknown f s) ∙ k)) E.list (avoids_of f E h)

  none_mentioned : (es : List (Derivative × WholePolynomial)) → Every IsOther es
      → list_any (λ (e : Derivative × WholePolynomial). eqb (e.0).unknown f) es ≡ false
  none_mentioned [] h = refl
  none_mentioned (e ∷ es) h = ap₂ ◌||◌ (other_number (e.0).unknown f h.0) (none_mentioned es h.1)

  pub not_mentioned : (E : LinearForm) → Every IsOther E.list → mentions f E ≡ false
  not_mentioned E h = none_mentioned E.list h

  anything : (p : WholePolynomial) → IsIn (λ v. true) p
  anything p v e = absurd (true≢false e)

  with_any : (E : LinearForm) → Every IsOther E.list
      → Every (λ (e : Derivative × WholePolynomial). (¬ ((e.0).unknown ≡ f)) × IsIn (λ v. true) e.1) E.list
  with_any E h = every-weaken IsOther _ (λ e n. (n, anything e.1)) E.list h

  without_any : (E : LinearForm) → Every (λ (e : Derivative × WholePolynomial). (¬ ((e.0).unknown ≡ f)) × IsIn (λ v. true) e.1) E.list
      → Every IsOther E.list
  without_any E h = every-weaken _ IsOther (λ e n. n.0) E.list h

  pub others_plus : (E F : LinearForm) → Every IsOther E.list → Every IsOther F.list → Every IsOther (E +ᶠ F).list
  others_plus E F h k = without_any (E +ᶠ F) (each-plus (λ d. ¬ (d.unknown ≡ f)) (λ v. true) E F (with_any E h) (with_any F k))

  pub others_times : (p : WholePolynomial) (E : LinearForm) → Every IsOther E.list → Every IsOther (times_form p E).list
  others_times p E h = without_any (times_form p E) (each-times (λ d. ¬ (d.unknown ≡ f)) (λ v. true) p (anything p) E (with_any E h))

-- the unknown of a derivative that occurs
pub occurs_mentioned : (d : Derivative) (E : LinearForm) → Occurs d E → mentions d.unknown E ≡ true
occurs_mentioned d E o = go (mentions d.unknown E) refl
  where
    go : (t : Bool) → mentions d.unknown E ≡ t → t ≡ true
    go true e = refl
    go false e = absurd (coefficient_has (IsOther d.unknown) E (others_of d.unknown E e) d o refl)
