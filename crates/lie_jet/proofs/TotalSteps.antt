-- The steps of a total derivative: one product, one power, one term.
use Rattle.std.specs.Prelude.{◌≡◌, ℕ, ◌<◌, ◌≤◌, ◌^◌, List, [], ◌∷◌, ◌++◌, ℤ, pos, ◌*ℤ◌, unsigned_abs, OnOk, IfErr}
use Rattle.std.proofs.Common.{Result, Ok, Err, sym, ap, ap₂, subst, ◌∙◌, arith}
use Rattle.std.proofs.lemmas.Int.{unsigned_abs-mul}
use borrow.Author.Differences.{ints}
use Rattle.lie_math.specs.Limits.{absolutes}
use Rattle.lie_math.specs.Limits.{HasWideCoefficient}
use Rattle.lie_math.specs.Monomial.{Monomial, ◌·◌}
use Rattle.lie_math.specs.MonomialOrder.{·_comm}
use Rattle.lie_math.specs.Polynomial.{WholePolynomial, terms, term, 0ᴾ, polynomial_of, ◌+ᴾ◌, ◌*ᴾ◌}
use Rattle.lie_math.specs.PolynomialRing.{polynomial_ring, term_times_term, 0ᴾ-*ᴾ}
use Rattle.lie_math.proofs.CanonicalLists.{of-append}
use Rattle.lie_math.proofs.Ring.{plus_idr}
use Rattle.lie_ring.specs.Entries.{entries}
use Rattle.lie_poly.proofs.TermLists.{entries-append}
use Rattle.lie_math.proofs.Integer.{no_zero_divisors_ℤ}
use Rattle.lie_math.proofs.Limits.{absolutes-append, term_is}
use Rattle.lie_ring.proofs.Limits.{wide_term}
use Rattle.lie_ring.specs.Causes.{IsCause, IsProductCause}
use Rattle.lie_ring.specs.declared.failures.PastKind.TheVariants.{Coefficient, Exponent, Terms, Order, Unknowns, Width}
use Rattle.lie_ring.specs.declared.failures.PolyFail.{PolyFail}
use Rattle.lie_ring.specs.declared.failures.PolyFail.TheVariants.{Past, NoMemory}
use Rattle.lie_poly.specs.Failures.{IsTermCause}
use Rattle.lie_poly.proofs.TimesSteps.{term_cause}
use Rattle.lie_jet.specs.Listed.{sum_listed, bulk_listed}
use Rattle.lie_math.specs.Integer.{*ℤ-idl}

-- ---- the absolute value of a multiple
pub size_times : (c : ℤ) (n : ℕ) → pos (unsigned_abs (c *ℤ pos n)) ≡ pos (unsigned_abs c) *ℤ pos n
size_times c n = ap pos (unsigned_abs-mul c (pos n))

pub times_not_zero : (c : ℤ) (n : ℕ) → ¬ (c ≡ pos 0) → 0 < n → ¬ (c *ℤ pos n ≡ pos 0)
times_not_zero c n h k e = not_pos n k (no_zero_divisors_ℤ c (pos n) h e)
  where
    not_pos : (n : ℕ) → 0 < n → pos n ≡ pos 0 → ⊥
    not_pos n k e = omega (arith, ints)

-- ---- the term m with c, n times, is past
pub wide_product : (m : Monomial) (c : ℤ) (n : ℕ) → 2 ^ 127 ≤ unsigned_abs (c *ℤ pos n) → HasWideCoefficient (term m (pos (unsigned_abs c) *ℤ pos n))
wide_product m c n h = subst (λ z. HasWideCoefficient (term m z)) (size_times c n) (wide_term m (pos (unsigned_abs (c *ℤ pos n))) h)

pub high_product : (fail : PolyFail) (m : Monomial) (c : ℤ) (n : ℕ) → ¬ (c ≡ pos 0) → 0 < n → IsProductCause fail m → IsCause fail (term m (pos (unsigned_abs c) *ℤ pos n))
high_product fail m c n h k cause = subst (λ z. IsCause fail (term m z)) (size_times c n) (term_cause fail m (c *ℤ pos n) _ (record { at_most = λ n. omega arith }) (times_not_zero c n h k) (as_term fail cause))
  where
    as_term : (fail : PolyFail) → IsProductCause fail m → IsTermCause fail m (c *ℤ pos n)
    as_term (Past Exponent) h = h
    as_term (Past Coefficient) h = absurd h
    as_term (Past Terms) h = absurd h
    as_term (Past Order) h = absurd h
    as_term (Past Unknowns) h = absurd h
    as_term (Past Width) h = absurd h
    as_term NoMemory h = tt

-- ---- one product behind others
pub sum_one : (xs ys : List (Monomial × ℤ)) (m : Monomial) (z : ℤ) → ys ≡ xs ++ (m, z) ∷ [] → sum_listed ys ≡ sum_listed xs +ᴾ term m z
sum_one xs ys m z e = ap sum_listed e ∙ ap polynomial_of (entries-append (λ c. c) xs ((m, z) ∷ [])) ∙ of-append terms (entries (λ c. c) xs) ((m, z) ∷ []) ∙ ap (λ p. sum_listed xs +ᴾ p) (sym (term_is m z))

pub bulk_one : (xs ys : List (Monomial × ℤ)) (m : Monomial) (z : ℤ) → ys ≡ xs ++ (m, z) ∷ [] → bulk_listed ys ≡ bulk_listed xs +ᴾ term m (pos (unsigned_abs z))
bulk_one xs ys m z e =
    ap bulk_listed e ∙ ap (λ es. polynomial_of (absolutes es)) (entries-append (λ c. c) xs ((m, z) ∷ [])) ∙ ap polynomial_of (absolutes-append (entries (λ c. c) xs) ((m, z) ∷ []))
    ∙ of-append terms (absolutes (entries (λ c. c) xs)) ((m, pos (unsigned_abs z)) ∷ []) ∙ ap (λ p. bulk_listed xs +ᴾ p) (sym (term_is m (pos (unsigned_abs z))))

-- the slope times the rest of the term
pub slope_times : (f m l : Monomial) (z : ℤ) (d : WholePolynomial) → m ≡ l → term f (pos 1) ≡ d → term (m · f) z ≡ d *ᴾ term l z
slope_times f m l z d h e = ap₂ (λ n y. term n y) (·_comm m f ∙ ap (λ n. f · n) h) (sym (*ℤ-idl z)) ∙ sym (term_times_term f l (pos 1) z) ∙ ap (λ p. p *ᴾ term l z) e

pub no_slope : (p t d : WholePolynomial) → 0ᴾ ≡ d → p ≡ p +ᴾ d *ᴾ t
no_slope p t d e = sym (ap (λ x. p +ᴾ x *ᴾ t) (sym e) ∙ ap (λ x. p +ᴾ x) (0ᴾ-*ᴾ t) ∙ plus_idr polynomial_ring p)

-- ---- answers
pub always : {A E : Type 0} {B : Type 0} (r : Result A E) → B → OnOk r B
always (Ok a) b = b
always (Err e) b = tt

pub on_ok : {V E : Type 0} {A B : Type 0} (r : Result V E) → (A → B) → OnOk r A → OnOk r B
on_ok (Ok v) f h = f h
on_ok (Err e) f h = tt

pub if_err : {V E : Type 0} {A B : E → Type 0} (r : Result V E) → ((e : E) → A e → B e) → IfErr r A → IfErr r B
if_err (Ok v) f h = tt
if_err (Err e) f h = f e h
