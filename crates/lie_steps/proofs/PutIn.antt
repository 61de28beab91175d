-- A form over a number put in for an unknown: what the new form says, and that its derivatives are owned.
use Rattle.std.specs.Prelude.{◌≡◌, ℕ, zero, suc, ◌<◌, Bool, true, false, cond, eqb, List, [], ◌∷◌, ℤ, pos, ltb, ◌↔◌}
use Rattle.std.proofs.Common.{refl, sym, ap, ◌∙◌}
use mathlib.Core.Path.{fun_ext}
use Rattle.std.specs.Fn.{iterate}
use Rattle.std.specs.List.{AllByRecursion as Every, list_any}
use Rattle.lie_math.specs.Canonical.{sum_of_entries-map}
use Rattle.lie_math.specs.SortedSum.{sum_of_entries}
use Rattle.lie_math.specs.PartialDerivative.{partial}
use Rattle.lie_math.specs.Polynomial.{WholePolynomial, polynomials, constant, 0ᴾ, ◌+ᴾ◌, ◌*ᴾ◌}
use Rattle.lie_math.specs.PolynomialRing.{polynomial_ring, *ᴾ_assoc, *ᴾ-dist}
use Rattle.lie_math.specs.Counts.{Derivative, derived, partials, partials_from}
use Rattle.lie_math.specs.LinearForm.{LinearForm, form_term, times_form, apply}
use Rattle.lie_math.specs.LinearSystem.{Unknown}
use Rattle.lie_math.specs.Variables.{IsIn}
use Rattle.lie_math.proofs.FiniteSum.{sum_of_entries-same}
use Rattle.lie_math.proofs.LinearForm.{apply_over, apply_term, apply_times}
use Rattle.lie_math.proofs.PartialDerivative.{partial-*ᴾ}
use Rattle.lie_math.proofs.Ring.{times_nil, nil_times, times_left_comm}
use Rattle.lie_math.proofs.Variables.{in-constant, in-*ᴾ, partial-outside}
use Rattle.lie_math.proofs.Weighing.{torsion}
use Rattle.lie_math.proofs.Integer.{not_zero}
use Rattle.lie_math.specs.FiniteSumLaws.{plus_idl}
use Rattle.lie_math.specs.Polynomial.{terms}
use Rattle.lie_systems.specs.ValidSystems.{IsOwned, IsFormOf}
use Rattle.lie_steps.specs.Derivatives.{derivatives}
use Rattle.lie_steps.specs.Equations.{mentions}
use Rattle.lie_steps.specs.Replacement.{put_in, replaced}
use Rattle.lie_math.proofs.EveryElement.{every-weaken, every_both}
use Rattle.lie_math.proofs.FormEntries.{each-over, each-term, each-times}
use Rattle.lie_math.proofs.Tests.{or_false}
use Rattle.lie_steps.proofs.Unknowns.{IsOwn}
use Rattle.lie_steps.proofs.Derived.{IsRising, derivatives-form, apply_derivatives}

-- ---- numbers come out of derivatives
pub partial-constant : (v : ℕ) (c : ℤ) (p : WholePolynomial) → partial v (constant c *ᴾ p) ≡ constant c *ᴾ partial v p
partial-constant v c p =
    partial-*ᴾ v (constant c) p ∙ ap (λ x. x *ᴾ p +ᴾ constant c *ᴾ partial v p) (partial-outside (λ w. false) v refl (constant c) (in-constant (λ w. false) c))
    ∙ ap (λ x. x +ᴾ constant c *ᴾ partial v p) (nil_times polynomial_ring p) ∙ plus_idl terms _

pub iterate-constant : (v k : ℕ) (c : ℤ) (p : WholePolynomial) → iterate (partial v) k (constant c *ᴾ p) ≡ constant c *ᴾ iterate (partial v) k p
iterate-constant v zero c p = refl
iterate-constant v (suc k) c p = ap (iterate (partial v) k) (partial-constant v c p) ∙ iterate-constant v k c (partial v p)

partials_from-constant : (i : ℕ) (J : List ℕ) (c : ℤ) (p : WholePolynomial) → partials_from i J (constant c *ᴾ p) ≡ constant c *ᴾ partials_from i J p
partials_from-constant i [] c p = refl
partials_from-constant i (k ∷ J) c p = ap (iterate (partial i) k) (partials_from-constant (suc i) J c p) ∙ iterate-constant i k c (partials_from (suc i) J p)

pub partials-constant : (J : List ℕ) (c : ℤ) (p : WholePolynomial) → partials J (constant c *ᴾ p) ≡ constant c *ᴾ partials J p
partials-constant J c p = partials_from-constant 0 J c p

-- ---- functions for the old unknowns
-- L times what the old unknowns stand for
abbrev pub recovered : ℕ → LinearForm → ℕ → (ℕ → WholePolynomial) → ℕ → WholePolynomial
recovered f W L F g = cond (eqb g f) (apply F W) (constant (pos L) *ᴾ F g)

abbrev pub scaled : ℤ → (ℕ → WholePolynomial) → ℕ → WholePolynomial
scaled c F g = constant c *ᴾ F g

pub apply-scaled : (c : ℤ) (F : ℕ → WholePolynomial) (E : LinearForm) → apply (scaled c F) E ≡ constant c *ᴾ apply F E
unfolding apply
apply-scaled c F E =
    ap (λ φ. sum_of_entries polynomials φ E.list) (fun_ext (λ d. fun_ext (λ a. ap (λ p. a *ᴾ p) (partials-constant d.counts c (F d.unknown)) ∙ times_left_comm polynomial_ring a (constant c) (derived F d))))
    ∙ sym (sum_of_entries-map polynomials polynomials (λ x. constant c *ᴾ x) (times_nil polynomial_ring (constant c)) (*ᴾ-dist (constant c)) (λ d a. a *ᴾ derived F d) E.list)

-- functions that agree at the unknowns of a form
pub apply-same : (F G : ℕ → WholePolynomial) (E : LinearForm) → Every (λ (e : Derivative × WholePolynomial). F (e.0).unknown ≡ G (e.0).unknown) E.list → apply F E ≡ apply G E
unfolding apply
apply-same F G E h = sum_of_entries-same polynomials _ _ E.list (every-weaken (λ (e : Derivative × WholePolynomial). F (e.0).unknown ≡ G (e.0).unknown) _ (λ e k. ap (λ p. e.1 *ᴾ partials (e.0).counts p) k) E.list h)

-- ---- forms without f
-- no derivative of the form is one of f
abbrev pub Avoids : ℕ → LinearForm → Type 0
Avoids f E = Every (λ (e : Derivative × WholePolynomial). eqb (e.0).unknown f ≡ false) E.list

pub avoids_of : (f : ℕ) (E : LinearForm) → mentions f E ≡ false → Avoids f E
avoids_of f E h = go E.list h
  where
    go : (es : List (Derivative × WholePolynomial)) → list_any (λ (e : Derivative × WholePolynomial). eqb (e.0).unknown f) es ≡ false → Every (λ (e : Derivative × WholePolynomial). eqb (e.0).unknown f ≡ false) es
    go [] k = tt
    go (e ∷ es) k = let p = or_false (eqb (e.0).unknown f) _ k in (p.0, go es p.1)

pub recovered-avoiding : (f : ℕ) (W : LinearForm) (L : ℕ) (F : ℕ → WholePolynomial) (E : LinearForm) → Avoids f E → apply (recovered f W L F) E ≡ constant (pos L) *ᴾ apply F E
recovered-avoiding f W L F E h =
    apply-same (recovered f W L F) (scaled (pos L) F) E (every-weaken (λ (e : Derivative × WholePolynomial). eqb (e.0).unknown f ≡ false) _ (λ e k. ap (λ t. cond t (apply F W) (constant (pos L) *ᴾ F (e.0).unknown)) k) E.list h) ∙ apply-scaled (pos L) F E

-- ---- what the new form says
module _ (n : ℕ) (us : List Unknown) (r : IsRising us) (f : ℕ) (W : LinearForm) (form : IsFormOf n us W) (L : ℕ) where
  module _ (F : ℕ → WholePolynomial) (own : Every (IsOwn F) us) where
    pub apply-put_in : (E : LinearForm) → apply F (put_in us f W L E) ≡ apply (recovered f W L F) E
    unfolding put_in apply
    apply-put_in E =
        apply_over F _ E
        ∙ ap (λ φ. sum_of_entries polynomials φ E.list) (fun_ext (λ d. fun_ext (λ a. by_case d a (eqb d.unknown f))))
      where
        by_case : (d : Derivative) (a : WholePolynomial) (t : Bool) → apply F (cond t (times_form a (derivatives us d.counts W)) (form_term d (constant (pos L) *ᴾ a))) ≡ a *ᴾ partials d.counts (cond t (apply F W) (constant (pos L) *ᴾ F d.unknown))
        by_case d a true = apply_times F a (derivatives us d.counts W) ∙ ap (λ p. a *ᴾ p) (apply_derivatives n us r F own d.counts W form)
        by_case d a false =
            apply_term F d (constant (pos L) *ᴾ a) ∙ *ᴾ_assoc (constant (pos L)) a (derived F d) ∙ times_left_comm polynomial_ring (constant (pos L)) a (derived F d)
            ∙ ap (λ p. a *ᴾ p) (sym (partials-constant d.counts (pos L) (F d.unknown)))

    -- an equation says 0 after the replacement exactly if it does at the recovered functions
    pub replaced-solves : 0 < L → (E : LinearForm) → (apply F (replaced us f W L E) ≡ 0ᴾ) ↔ (apply (recovered f W L F) E ≡ 0ᴾ)
    replaced-solves positive E = go (mentions f E) refl
      where
        go : (t : Bool) → mentions f E ≡ t → (apply F (cond t (put_in us f W L E) E) ≡ 0ᴾ) ↔ (apply (recovered f W L F) E ≡ 0ᴾ)
        go true e = (λ z. sym (apply-put_in E) ∙ z, λ z. apply-put_in E ∙ z)
        go false e =
            let says : apply (recovered f W L F) E ≡ constant (pos L) *ᴾ apply F E = recovered-avoiding f W L F E (avoids_of f E e) in
            (λ z. says ∙ ap (λ p. constant (pos L) *ᴾ p) z ∙ times_nil polynomial_ring (constant (pos L)), λ z. torsion (pos L) (not_zero L positive) (apply F E) (sym says ∙ z))

  -- ---- its derivatives are owned
  module _ (old : List Unknown) (keeps : (d : Derivative) → IsOwned old d → eqb d.unknown f ≡ false → IsOwned us d) where
    pub put_in-form : (E : LinearForm) → IsFormOf n old E → IsFormOf n us (put_in us f W L E)
    unfolding put_in
    put_in-form E h = each-over (IsOwned us) (λ v. ltb v n) (λ (e : Derivative × WholePolynomial). IsOwned old e.0 × IsIn (λ v. ltb v n) e.1) _ (λ d a k. one d a k (eqb d.unknown f) refl) E h
      where
        one : (d : Derivative) (a : WholePolynomial) → IsOwned old d × IsIn (λ v. ltb v n) a → (t : Bool) → eqb d.unknown f ≡ t → IsFormOf n us (cond t (times_form a (derivatives us d.counts W)) (form_term d (constant (pos L) *ᴾ a)))
        one d a k true e = each-times (IsOwned us) (λ v. ltb v n) a k.1 (derivatives us d.counts W) (derivatives-form n us r d.counts W form)
        one d a k false e = each-term (IsOwned us) (λ v. ltb v n) d (constant (pos L) *ᴾ a) (keeps d k.0 e) (in-*ᴾ (λ v. ltb v n) (constant (pos L)) a (in-constant (λ v. ltb v n) (pos L)) k.1)

    pub avoiding-form : (E : LinearForm) → IsFormOf n old E → Avoids f E → IsFormOf n us E
    avoiding-form E h a = every_both (λ (e : Derivative × WholePolynomial). IsOwned old e.0 × IsIn (λ v. ltb v n) e.1) (λ (e : Derivative × WholePolynomial). eqb (e.0).unknown f ≡ false) _ (λ e k b. (keeps e.0 k.0 b, k.1)) E.list h a

    pub replaced-form : (E : LinearForm) → IsFormOf n old E → IsFormOf n us (replaced us f W L E)
    replaced-form E h = go (mentions f E) refl
      where
        go : (t : Bool) → mentions f E ≡ t → IsFormOf n us (cond t (put_in us f W L E) E)
        go true e = put_in-form E h
        go false e = avoiding-form E h (avoids_of f E e)
