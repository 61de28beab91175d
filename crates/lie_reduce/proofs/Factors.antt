-- Products over lists: what is met on the way, factor by factor, is a cause of the whole.
use Rattle.std.specs.Prelude.{◌≡◌, ℕ, zero, suc, ◌+◌, ◌<◌, List, [], ◌∷◌, ◌++◌, length, take, drop, get_or, pos}
use Rattle.std.proofs.Common.{refl, sym, ap, subst, ◌∙◌, arith}
use Rattle.std.specs.List.{AllByRecursion as Every}
use Rattle.lie_math.specs.Limits.{absolute}
use Rattle.lie_math.specs.Polynomial.{WholePolynomial, constant, 0ᴾ, ◌*ᴾ◌}
use Rattle.lie_math.specs.PolynomialRing.{*ᴾ_assoc, one-*ᴾ}
use Rattle.lie_math.proofs.ZeroDivisors.{no_zero_divisors}
use Rattle.lie_ring.specs.Causes.{IsCause}
use Rattle.lie_ring.specs.declared.failures.PolyFail.{PolyFail}
use Rattle.lie_poly.proofs.SumSteps.{cause_covered}
use Rattle.lie_math.proofs.EveryElement.{every-front, every-back}
use Rattle.lie_reduce.proofs.Products.{IsProper, bounded_times, nonneg_times, proper_one, proper_times, cause_times}
use Rattle.lie_reduce.proofs.PowerSteps.{times_one}
use Rattle.lie_ring.proofs.Fronts.{take_more}
use Rattle.lie_jet.proofs.PolynomialBounds.{IsBound, absolute_bound, covered_absolute, plain_bound}

-- ---- lists up to a place
pub parted_at : {X : Type 0} (xs : List X) (i : ℕ) (x : X) → i < length xs → x ≡ get_or xs i x → xs ≡ take i xs ++ x ∷ drop (suc i) xs
parted_at [] i x lt is = absurd (omega arith)
parted_at (y ∷ xs) zero x lt is = ap (λ z. z ∷ xs) (sym is)
parted_at (y ∷ xs) (suc i) x lt is = ap (λ ys. y ∷ ys) (parted_at xs i x (omega arith) is)

pub every_rest : {X : Type 0} (Q : X → Type 0) (xs : List X) (i : ℕ) (x : X) → i < length xs → x ≡ get_or xs i x → Every Q xs → Q x × Every Q (drop (suc i) xs)
every_rest Q xs i x lt is h = every-back Q (take i xs) (x ∷ drop (suc i) xs) (subst (Every Q) (parted_at xs i x lt is) h)

pub every_before : {X : Type 0} (Q : X → Type 0) (xs : List X) (i : ℕ) (x : X) → i < length xs → x ≡ get_or xs i x → Every Q xs → Every Q (take i xs)
every_before Q xs i x lt is h = every-front Q (take i xs) (x ∷ drop (suc i) xs) (subst (Every Q) (parted_at xs i x lt is) h)

pub read_same : {X : Type 0} (xs : List X) (i : ℕ) (c d : X) → i < length xs → get_or xs i c ≡ get_or xs i d
read_same [] i c d lt = absurd (omega arith)
read_same (x ∷ xs) zero c d lt = refl
read_same (x ∷ xs) (suc i) c d lt = read_same xs i c d (omega arith)

-- ---- products
module _ {X : Type 0} where
  abbrev pub product : (X → WholePolynomial) → List X → WholePolynomial
  product f [] = constant (pos 1)
  product f (x ∷ xs) = f x *ᴾ product f xs

  pub product-append : (f : X → WholePolynomial) (xs ys : List X) → product f (xs ++ ys) ≡ product f xs *ᴾ product f ys
  product-append f [] ys = sym (one-*ᴾ (product f ys))
  product-append f (x ∷ xs) ys = ap (λ p. f x *ᴾ p) (product-append f xs ys) ∙ sym (*ᴾ_assoc (f x) (product f xs) (product f ys))

  pub proper_product : (g : X → WholePolynomial) (xs : List X) → Every (λ x. IsProper (g x)) xs → IsProper (product g xs)
  proper_product g [] h = proper_one
  proper_product g (x ∷ xs) h = proper_times (g x) (product g xs) h.0 (proper_product g xs h.1)

  pub apart_product : (f : X → WholePolynomial) (xs : List X) → Every (λ x. ¬ (f x ≡ 0ᴾ)) xs → ¬ (product f xs ≡ 0ᴾ)
  apart_product f [] h = proper_one.apart
  apart_product f (x ∷ xs) h = λ e. apart_product f xs h.1 (no_zero_divisors (f x) (product f xs) h.0 e)

  pub bounded_products : (f g : X → WholePolynomial) → ((x : X) → IsBound (f x) (g x)) → (xs : List X) → IsBound (product f xs) (product g xs)
  bounded_products f g h [] = plain_bound (constant (pos 1)) proper_one.plain
  bounded_products f g h (x ∷ xs) = bounded_times (f x) (product f xs) (g x) (product g xs) (h x) (bounded_products f g h xs)

  -- one more factor
  pub product_more : (f : X → WholePolynomial) (xs : List X) (i : ℕ) (x : X) (start now next : WholePolynomial) → i < length xs → x ≡ get_or xs i x → now ≡ start *ᴾ product f (take i xs) → next ≡ now *ᴾ f x → next ≡ start *ᴾ product f (take (i + 1) xs)
  product_more f xs i x start now next lt is h e =
      e ∙ ap (λ p. p *ᴾ f x) h ∙ *ᴾ_assoc start (product f (take i xs)) (f x)
      ∙ ap (λ p. start *ᴾ p) (ap (λ p. product f (take i xs) *ᴾ p) (sym (times_one (f x))) ∙ sym (product-append f (take i xs) (x ∷ [])) ∙ ap (product f) (take_more xs i x lt is))

  pub product_cause : (fail : PolyFail) (f g : X → WholePolynomial) → ((x : X) → IsBound (f x) (g x)) → (xs : List X) (i : ℕ) (x : X) (start now : WholePolynomial) → i < length xs → x ≡ get_or xs i x → Every (λ x. IsProper (g x)) xs
      → now ≡ start *ᴾ product f (take i xs) → IsCause fail (absolute now *ᴾ g x) → IsCause fail (absolute start *ᴾ product g xs)
  product_cause fail f g h xs i x start now lt is proper e c =
      let P : WholePolynomial = absolute start *ᴾ product g (take i xs) in
      let bounded : IsBound now P = subst (λ p. IsBound p P) (sym e) (bounded_times start (product f (take i xs)) (absolute start) (product g (take i xs)) (absolute_bound start) (bounded_products f g h (take i xs))) in
      let rest = every_rest (λ x. IsProper (g x)) xs i x lt is proper in
      subst (IsCause fail) (*ᴾ_assoc P (g x) (product g (drop (suc i) xs)) ∙ *ᴾ_assoc (absolute start) (product g (take i xs)) (g x *ᴾ product g (drop (suc i) xs))
      ∙ ap (λ p. absolute start *ᴾ p) (sym (product-append g (take i xs) (x ∷ drop (suc i) xs)) ∙ ap (product g) (sym (parted_at xs i x lt is))))
      (cause_times fail (P *ᴾ g x) (product g (drop (suc i) xs)) (nonneg_times P (g x) (bounded.plain) rest.0.plain) (proper_product g (drop (suc i) xs) rest.1)
      (cause_covered fail (absolute now *ᴾ g x) (P *ᴾ g x) ((bounded_times (absolute now) (g x) P (g x) (covered_absolute now P bounded) (plain_bound (g x) rest.0.plain)).covered) c))
