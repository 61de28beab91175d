-- Forms solved for a derivative of f: the rest is a form in the other unknowns, and at functions for them it is a polynomial in the variables of f.
use Rattle.std.specs.Prelude.{◌≡◌, ℕ, ◌<◌, Bool, true, false, eqb, List, [], ◌∷◌, ℤ, pos, negsuc, ◌*ℤ◌, ◌+ℤ◌, neg_ℤ, unsigned_abs, ltb, suc, zero}
use Rattle.std.proofs.Common.{refl, sym, ap, ◌∙◌, arith, true≢false, Less, Equal, Greater, Ordering}
use borrow.Author.Differences.{ints}
use lib.IntN.{*ℤ-zero}
use Rattle.std.specs.List.{AllByRecursion as Every, Contains}
use Rattle.std.specs.Ordering.{ordering_reverse}
use Rattle.lie_math.specs.FiniteSumLaws.{term_additive}
use Rattle.lie_math.specs.Counts.{Derivative, derivative_cmp, derived}
use Rattle.lie_math.specs.DerivativeOrder.{derivative_cmp_total, derivative_same}
use Rattle.lie_math.specs.LinearForm.{LinearForm, apply}
use Rattle.lie_math.specs.LinearSystem.{LinearSystem, Unknown, has}
use Rattle.lie_math.specs.Monomial.{Monomial, exponent, unit}
use Rattle.lie_math.specs.PartialDerivative.{partial, lower}
use Rattle.lie_math.specs.Polynomial.{WholePolynomial, terms, term, coefficient, constant, 0ᴾ, ◌+ᴾ◌, ◌*ᴾ◌}
use Rattle.lie_math.specs.PolynomialRing.{constant-plus, constant-times}
use Rattle.lie_math.specs.Variables.{IsIn, FreeOf}
use Rattle.lie_math.proofs.Dependence.{partial_of_free}
use Rattle.lie_math.proofs.FiniteSum.{entries_of}
use Rattle.lie_math.proofs.Limits.{coefficient-term}
use Rattle.lie_math.proofs.LinearForm.{apply_plus, apply_term, apply_none}
use Rattle.lie_math.proofs.PartialDerivative.{partial-0ᴾ, partial-term}
use Rattle.lie_systems.specs.Normalised.{sign}
use Rattle.lie_systems.specs.Triples.{Triple, triples, triples_in, triples_with, form_of_triple, sum_of_triples}
use Rattle.lie_systems.specs.ValidSystems.{IsOwned, IsFormOf}
use Rattle.lie_systems.proofs.Triples.{sum_of_triples-triples}
use Rattle.lie_steps.specs.Equations.{depends, rest_of, IsGreatest}
use Rattle.lie_steps.specs.Replacement.{without, unknowns_after}
use Rattle.lie_steps.specs.Substitute.{IsSolvedFor}
use Rattle.lie_math.proofs.EveryElement.{every-append, every_contained, every_both, every-weaken}
use Rattle.lie_steps.proofs.Unknowns.{IsOwn, not_depends, dependent_of, same_unknown}
use Rattle.lie_steps.proofs.Derived.{IsRising, free_partials}
use Rattle.lie_steps.proofs.PutIn.{Avoids, avoids_of}
use Rattle.lie_steps.proofs.Replaced.{stays_listed, stays_owned}
use Rattle.lie_steps.proofs.Rests.{at_derivative, coefficient_has, each-rest}
use Rattle.lie_steps.proofs.FreshPowers.{free_sum, free_product}
use Rattle.lie_math.proofs.Integer.{unsigned_abs_zero}

-- ---- the greatest derivative is one, and so is the number before it
pub greatest_unique : (P : Derivative → Type 0) (d e : Derivative) → IsGreatest P d → IsGreatest P e → d ≡ e
greatest_unique P d e h g = go (derivative_cmp d e) refl
  where
    go : (r : Ordering) → derivative_cmp d e ≡ r → d ≡ e
    go Less k = absurd (g.greatest d h.holds (derivative_cmp_total.antisymm e d ∙ ap ordering_reverse k))
    go Equal k = derivative_same d e k
    go Greater k = absurd (h.greatest e g.holds k)

pub same_constant : (a b : ℤ) → constant a ≡ constant b → a ≡ b
same_constant a b h = sym (coefficient-term unit a) ∙ ap (λ p. coefficient p unit) h ∙ coefficient-term unit b

-- ---- a number, its sign and its absolute value
signs : (c : ℤ) → c *ℤ neg_ℤ (sign c) +ℤ pos (unsigned_abs c) ≡ pos 0
signs (pos n) = omega (arith, ints)
signs (negsuc n) = omega (arith, ints)

pub constant_signs : (c : ℤ) → constant c *ᴾ constant (neg_ℤ (sign c)) +ᴾ constant (pos (unsigned_abs c)) ≡ 0ᴾ
constant_signs c = ap (λ x. x +ᴾ constant (pos (unsigned_abs c))) (sym (constant-times c (neg_ℤ (sign c)))) ∙ sym (constant-plus _ (pos (unsigned_abs c))) ∙ ap constant (signs c) ∙ (term_additive terms).on_nil unit

pub size_positive : (c : ℤ) → ¬ (c ≡ pos 0) → 0 < unsigned_abs c
size_positive c n = go (unsigned_abs c) refl
  where
    go : (x : ℕ) → unsigned_abs c ≡ x → 0 < x
    go zero e = absurd (n (unsigned_abs_zero c e))
    go (suc x) e = omega arith

-- ---- triples without a variable
module _ (Q : Derivative → Type 0) (M : Monomial → Type 0) where
  abbrev pub Both : Triple → Type 0
  Both t = Q t.0 × M t.1

  with_both : (d : Derivative) (es : List (Monomial × ℤ)) → Q d → Every (λ (e : Monomial × ℤ). M e.0) es → Every Both (triples_with d es)
  with_both d [] q h = tt
  with_both d (e ∷ es) q h = ((q, h.0), with_both d es q h.1)

  pub triples_both : (es : List (Derivative × WholePolynomial)) → Every (λ (e : Derivative × WholePolynomial). Q e.0 × Every (λ (x : Monomial × ℤ). M x.0) e.1.list) es → Every Both (triples_in es)
  triples_both [] h = tt
  triples_both (e ∷ es) h = every-append Both (triples_with e.0 e.1.list) (triples_in es) (with_both e.0 e.1.list (h.0).0 (h.0).1) (triples_both es h.1)

pub free_entries : (v : ℕ) (p : WholePolynomial) → FreeOf v p → Every (λ (x : Monomial × ℤ). exponent x.0 v ≡ 0) p.list
free_entries v p h = entries_of terms p (λ (x : Monomial × ℤ). exponent x.0 v ≡ 0) (λ x is apart. h x.0 (λ z. apart (sym is ∙ z)))

-- the monomial and the function are without v
abbrev pub FreeTriple : ℕ → (ℕ → WholePolynomial) → Triple → Type 0
FreeTriple v G t = (partial v (G (t.0).unknown) ≡ 0ᴾ) × (exponent t.1 v ≡ 0)

pub free_of_triples : (v : ℕ) (G : ℕ → WholePolynomial) (ts : List Triple) → Every (FreeTriple v G) ts → partial v (apply G (sum_of_triples ts)) ≡ 0ᴾ
free_of_triples v G [] h = ap (partial v) (apply_none G) ∙ partial-0ᴾ v
free_of_triples v G (t ∷ ts) h =
    ap (partial v) (apply_plus G (form_of_triple t) (sum_of_triples ts)) ∙ free_sum v _ _ (ap (partial v) (apply_term G t.0 (term t.1 t.2)) ∙ free_product v (term t.1 t.2) (derived G t.0) none (free_partials v (t.0).counts (G (t.0).unknown) (h.0).0)) (free_of_triples v G ts h.1)
  where
    none : partial v (term t.1 t.2) ≡ 0ᴾ
    none = partial-term v t.1 t.2 ∙ ap (λ e. term (lower v t.1) (t.2 *ℤ pos e)) (h.0).1 ∙ ap (term (lower v t.1)) (*ℤ-zero t.2) ∙ (term_additive terms).on_nil (lower v t.1)

module _ (n : ℕ) (S : LinearSystem) (E : LinearForm) (form : IsFormOf n S.unknowns E) (d : Derivative) (c : ℤ) (h : IsSolvedFor S.unknowns E d c) where
  abbrev Owned : Derivative × WholePolynomial → Type 0
  Owned e = IsOwned S.unknowns e.0 × IsIn (λ v. ltb v n) e.1

  pub occurs : ¬ (at_derivative E d ≡ 0ᴾ)
  occurs z = h.apart (same_constant c (pos 0) (sym h.leads ∙ z ∙ sym ((term_additive terms).on_nil unit)))

  pub d_owned : IsOwned S.unknowns d
  d_owned = (coefficient_has Owned E form d occurs).0

  pub rest_owned : Every (λ (e : Derivative × WholePolynomial). IsOwned S.unknowns e.0 × IsIn (λ v. ltb v n) e.1) (rest_of d E).list
  rest_owned = every-weaken (λ (e : Derivative × WholePolynomial). Owned e × ¬ (e.0 ≡ d)) Owned (λ e k. k.0) (rest_of d E).list (each-rest Owned d E form)

  pub rest_avoids : Avoids d.unknown (rest_of d E)
  rest_avoids = avoids_of d.unknown (rest_of d E) h.alone

  -- the rest is a form in the unknowns without f
  pub rest_form : (fresh : List Unknown) → IsFormOf n (unknowns_after S d.unknown fresh) (rest_of d E)
  rest_form fresh = every_both Owned (λ (e : Derivative × WholePolynomial). eqb (e.0).unknown d.unknown ≡ false) (λ (e : Derivative × WholePolynomial). IsOwned (unknowns_after S d.unknown fresh) e.0 × IsIn (λ v. ltb v n) e.1) (λ e k a. (stays_owned S d.unknown fresh e.0 k.0 a, k.1))
      (rest_of d E).list rest_owned rest_avoids

  module _ (G : ℕ → WholePolynomial) (own : Every (IsOwn G) (without d.unknown S.unknowns)) where
    unknown_free : (w : ℕ) (e : Derivative) → IsOwned S.unknowns e → eqb e.unknown d.unknown ≡ false → depends S.unknowns e.unknown w ≡ false → partial w (G e.unknown) ≡ 0ᴾ
    unknown_free w e o a z =
        ap (λ g. partial w (G g)) (sym o.number)
        ∙ partial_of_free w (G (o.unknown).number) (every_contained (IsOwn G) (without d.unknown S.unknowns) o.unknown own (stays_listed d.unknown S.unknowns o.unknown o.listed (ap (λ g. eqb g d.unknown) o.number ∙ a)) w
        (not_depends S.unknowns o.unknown w o.listed (ap (λ g. depends S.unknowns g w) o.number ∙ z)))

    -- where no unknown of the rest depends on v
    pub rest_at : (v : ℕ) → Every (λ (e : Derivative × WholePolynomial). depends S.unknowns (e.0).unknown v ≡ false) (rest_of d E).list → Every (λ (e : Derivative × WholePolynomial). partial v (G (e.0).unknown) ≡ 0ᴾ) (rest_of d E).list
    rest_at v k = every_both (λ (e : Derivative × WholePolynomial). Owned e × (eqb (e.0).unknown d.unknown ≡ false)) (λ (e : Derivative × WholePolynomial). depends S.unknowns (e.0).unknown v ≡ false) _ (λ e o z. unknown_free v e.0 (o.0).0 o.1 z)
        (rest_of d E).list (every_both Owned (λ (e : Derivative × WholePolynomial). eqb (e.0).unknown d.unknown ≡ false) _ (λ e o a. (o, a)) (rest_of d E).list rest_owned rest_avoids) k

    -- a variable on which f does not depend is nowhere in the rest
    pub rest_triples : (w : ℕ) → depends S.unknowns d.unknown w ≡ false → Every (FreeTriple w G) (triples (rest_of d E))
    rest_triples w z =
        triples_both (λ e. partial w (G e.unknown) ≡ 0ᴾ) (λ m. exponent m w ≡ 0) (rest_of d E).list
        (every_both (λ (e : Derivative × WholePolynomial). Owned e × (eqb (e.0).unknown d.unknown ≡ false)) (λ (e : Derivative × WholePolynomial). FreeOf w e.1 × (depends S.unknowns (e.0).unknown w ≡ false)) _ (λ e o l. (unknown_free w e.0 (o.0).0 o.1 l.1, free_entries w e.1 l.0))
        (rest_of d E).list
        (every_both Owned (λ (e : Derivative × WholePolynomial). eqb (e.0).unknown d.unknown ≡ false) _ (λ e o a. (o, a)) (rest_of d E).list rest_owned rest_avoids) (h.within w z))

    pub rest_free : (w : ℕ) → depends S.unknowns d.unknown w ≡ false → partial w (apply G (rest_of d E)) ≡ 0ᴾ
    rest_free w z = ap (λ R. partial w (apply G R)) (sym (sum_of_triples-triples (rest_of d E))) ∙ free_of_triples w G (triples (rest_of d E)) (rest_triples w z)

-- an unknown without v is the only one of its number
pub no_dependence : (us : List Unknown) → IsRising us → (u : Unknown) (w : ℕ) → Contains us u → has u w ≡ false → depends us u.number w ≡ false
no_dependence us r u w c e = go (depends us u.number w) refl
  where
    go : (t : Bool) → depends us u.number w ≡ t → t ≡ false
    go true k = let p = dependent_of us u.number w k in absurd (true≢false (sym (ap (λ x. has x w) (sym (same_unknown us p.0 u r p.1 c p.2)) ∙ p.3) ∙ e))
    go false k = refl
