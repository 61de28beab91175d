-- Forms without an unknown f: their derivatives, their normalised equations, and forms in which a form without f is put in for f.
use Rattle.std.specs.Prelude.{◌≡◌, ℕ, zero, suc, Bool, true, false, cond, eqb, ◌||◌, List, [], ◌∷◌, pos, map}
use Rattle.std.proofs.Common.{refl, ap, ◌∙◌, true≢false}
use Rattle.std.specs.Fn.{iterate}
use Rattle.std.specs.List.{AllByRecursion as Every, list_any}
use Rattle.lie_math.specs.Counts.{Derivative, raised}
use Rattle.lie_math.specs.LinearForm.{LinearForm, no_form, ◌+ᶠ◌, form_term, times_form}
use Rattle.lie_math.specs.LinearSystem.{Unknown}
use Rattle.lie_math.specs.PartialDerivative.{partial}
use Rattle.lie_math.specs.Polynomial.{WholePolynomial, constant, ◌*ᴾ◌}
use Rattle.lie_math.specs.Variables.{IsIn}
use Rattle.lie_math.proofs.EveryElement.{every-map, every-weaken, every_of_contained}
use Rattle.lie_math.proofs.FormEntries.{EachHas, each-none, each-over, each-plus, each-term, each-times}
use Rattle.lie_systems.specs.Normalised.{primitive}
use Rattle.lie_steps.specs.Derivatives.{derivative, derivatives, derivatives_from}
use Rattle.lie_steps.specs.Equations.{depends, mentions}
use Rattle.lie_steps.specs.Replacement.{put_in}
use Rattle.lie_steps.proofs.FormTriples.{each-primitive}
use Rattle.lie_steps.proofs.PutIn.{avoids_of}

in_all : (p : WholePolynomial) → IsIn (λ v. true) p
in_all p v out = absurd (true≢false out)

module _ (f : ℕ) where
  abbrev IsOther : Derivative → Type 0
  IsOther d = eqb d.unknown f ≡ false

  abbrev IsFree : LinearForm → Type 0
  IsFree E = EachHas IsOther (λ v. true) E

  free_of : (E : LinearForm) → mentions f E ≡ false → IsFree E
  free_of E h = every-weaken (λ (e : Derivative × WholePolynomial). eqb (e.0).unknown f ≡ false)
      (λ (e : Derivative × WholePolynomial). IsOther e.0 × IsIn (λ v. true) e.1) (λ e k. (k, in_all e.1)) E.list (avoids_of f E h)

  of_free : (E : LinearForm) → IsFree E → mentions f E ≡ false
  of_free E h = go E.list h
    where
      go : (es : List (Derivative × WholePolynomial)) → Every (λ (e : Derivative × WholePolynomial). IsOther e.0 × IsIn (λ v. true) e.1) es
          → list_any (λ (e : Derivative × WholePolynomial). eqb (e.0).unknown f) es ≡ false
      go [] k = refl
      go (e ∷ es) k = ap (λ t. t || list_any (λ (e : Derivative × WholePolynomial). eqb (e.0).unknown f) es) (k.0).0 ∙ go es k.1

  pub primitive_free : (E : LinearForm) → mentions f E ≡ false → mentions f (primitive E) ≡ false
  primitive_free E h = of_free (primitive E) (each-primitive IsOther (λ v. true) E (free_of E h))

  module _ (us : List Unknown) where
    derivative_free : (i : ℕ) (E : LinearForm) → IsFree E → IsFree (derivative us i E)
    unfolding derivative
    derivative_free i E h = each-over IsOther (λ v. true) (λ (e : Derivative × WholePolynomial). IsOther e.0 × IsIn (λ v. true) e.1) _
        (λ d a k. one d a k.0) E h
      where
        other : (d : Derivative) (a : WholePolynomial) → IsOther d → (t : Bool) → IsFree (cond t (form_term (raised i d) a) no_form)
        other d a o true = each-term IsOther (λ v. true) (raised i d) a o (in_all a)
        other d a o false = each-none IsOther (λ v. true)

        one : (d : Derivative) (a : WholePolynomial) → IsOther d
            → IsFree (form_term d (partial i a) +ᶠ cond (depends us d.unknown i) (form_term (raised i d) a) no_form)
        one d a o = each-plus IsOther (λ v. true) (form_term d (partial i a)) _
            (each-term IsOther (λ v. true) d (partial i a) o (in_all (partial i a))) (other d a o (depends us d.unknown i))

    iterated_free : (i c : ℕ) (E : LinearForm) → IsFree E → IsFree (iterate (derivative us i) c E)
    iterated_free i zero E h = h
    iterated_free i (suc c) E h = iterated_free i c (derivative us i E) (derivative_free i E h)

    derivatives_free : (i : ℕ) (K : List ℕ) (E : LinearForm) → IsFree E → IsFree (derivatives_from us i K E)
    derivatives_free i [] E h = h
    derivatives_free i (c ∷ K) E h = derivatives_free (suc i) K (iterate (derivative us i) c E) (iterated_free i c E h)

    module _ (W : LinearForm) (free : mentions f W ≡ false) (L : ℕ) where
      put_in_free : (E : LinearForm) → IsFree (put_in us f W L E)
      unfolding put_in
      put_in_free E = each-over IsOther (λ v. true) (λ (e : Derivative × WholePolynomial). Unit {0}) _
          (λ d a k. one d a (eqb d.unknown f) refl) E (every_of_contained (λ (e : Derivative × WholePolynomial). Unit {0}) E.list
          (λ e c. tt))
        where
          one : (d : Derivative) (a : WholePolynomial) (t : Bool) → eqb d.unknown f ≡ t
              → IsFree (cond t (times_form a (derivatives us d.counts W)) (form_term d (constant (pos L) *ᴾ a)))
          one d a true e = each-times IsOther (λ v. true) a (in_all a) (derivatives us d.counts W)
              (derivatives_free 0 d.counts W (free_of W free))
          one d a false e = each-term IsOther (λ v. true) d (constant (pos L) *ᴾ a) e (in_all (constant (pos L) *ᴾ a))

      -- forms in which W is put in for f
      pub forms_free : (Es : List LinearForm) → Every (λ E. mentions f E ≡ false) (map (put_in us f W L) Es)
      forms_free Es = every-map (λ E. mentions f E ≡ false) (put_in us f W L) Es
          (every_of_contained (λ E. mentions f (put_in us f W L E) ≡ false) Es (λ E c. of_free (put_in us f W L E) (put_in_free E)))
