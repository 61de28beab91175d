-- A least common denominator exists.
use Rattle.std.specs.Prelude.{◌≡◌, ℕ, zero, suc, ◌+◌, ◌*◌, ◌<◌, ◌≤◌, ◌⊎◌, Bool, true, false, ltb, List, [], ◌∷◌, ℤ, pos, ◌*ℤ◌, unsigned_abs}
use Rattle.std.proofs.Common.{refl, sym, subst, arith, inl, inr, ltb-true, ltb-false}
use Rattle.std.specs.Int.{◌∣◌}
use Rattle.std.specs.List.{AllByRecursion as Every}
use Rattle.std.proofs.lemmas.Int.{unsigned_abs-mul}
use Rattle.std.proofs.Math.Decide.{dec_dvd}
use Rattle.std.proofs.Math.Nat.{dvd-mul_left_of_dvd, dvd-mul_right_of_dvd, dvd-mul_right}
use Rattle.lie_systems.specs.Triples.{Triple}
use Rattle.lie_math.specs.Monomial.{exponent}
use Rattle.lie_steps.specs.Integrate.{rising, divisor, Clears, IsLeastDenominator}
use Rattle.lie_math.proofs.EveryElement.{every-weaken}
use Rattle.lie_steps.proofs.SolvedForms.{size_positive}
use Rattle.lie_math.proofs.FirstNumbers.{least_number}

rising_positive : (m k : ℕ) → 0 < rising m k
rising_positive m zero = omega arith
rising_positive m (suc k) = let h = rising_positive m k in both (rising m k) (m + suc k) h (omega arith)
  where
    both : (a b : ℕ) → 0 < a → 0 < b → 0 < a * b
    both a b h g = grind arith

module _ (c : ℤ) (apart : ¬ (c ≡ pos 0)) (v k : ℕ) where
  pub divisor_positive : (t : Triple) → 0 < unsigned_abs (divisor c v k t)
  divisor_positive t = subst (λ x. 0 < x) (sym (unsigned_abs-mul c (pos (rising (exponent t.1 v) k)))) (both (unsigned_abs c) (rising (exponent t.1 v) k) (size_positive c apart) (rising_positive (exponent t.1 v) k))
    where
      both : (a b : ℕ) → 0 < a → 0 < b → 0 < a * b
      both a b h g = grind arith

  abbrev product : List Triple → ℕ
  product [] = 1
  product (t ∷ ts) = unsigned_abs (divisor c v k t) * product ts

  product_positive : (ts : List Triple) → 0 < product ts
  product_positive [] = omega arith
  product_positive (t ∷ ts) = both (unsigned_abs (divisor c v k t)) (product ts) (divisor_positive t) (product_positive ts)
    where
      both : (a b : ℕ) → 0 < a → 0 < b → 0 < a * b
      both a b h g = grind arith

  each_divides : (ts : List Triple) → Every (λ (t : Triple). unsigned_abs (divisor c v k t) ∣ product ts) ts
  each_divides [] = tt
  each_divides (t ∷ ts) = (dvd-mul_right (unsigned_abs (divisor c v k t)) (product ts), every-weaken (λ (u : Triple). unsigned_abs (divisor c v k u) ∣ product ts) _ (λ u h. dvd-mul_left_of_dvd (unsigned_abs (divisor c v k u)) h (unsigned_abs (divisor c v k t))) ts (each_divides ts))

  product_clears : (ts : List Triple) → Clears c v k ts (product ts)
  product_clears ts = every-weaken (λ (t : Triple). unsigned_abs (divisor c v k t) ∣ product ts) _ (λ t h. subst (λ x. unsigned_abs (divisor c v k t) ∣ x) (sym (unsigned_abs-mul (pos (product ts)) t.2)) (dvd-mul_right_of_dvd (unsigned_abs (divisor c v k t)) h (unsigned_abs t.2))) ts (each_divides ts)

  tell_clears : (L : ℕ) (ts : List Triple) → Clears c v k ts L ⊎ ¬ (Clears c v k ts L)
  tell_clears L [] = inl tt
  tell_clears L (t ∷ ts) = elim (dec_dvd (unsigned_abs (divisor c v k t)) (unsigned_abs (pos L *ℤ t.2))) [ yes h ↦ both h (tell_clears L ts) | no n ↦ inr (λ g. n g.0) ]
    where
      both : unsigned_abs (divisor c v k t) ∣ unsigned_abs (pos L *ℤ t.2) → Clears c v k ts L ⊎ ¬ (Clears c v k ts L) → Clears c v k (t ∷ ts) L ⊎ ¬ (Clears c v k (t ∷ ts) L)
      both h (inl g) = inl (h, g)
      both h (inr n) = inr (λ g. n g.1)

  abbrev IsDenominator : List Triple → ℕ → Type 0
  IsDenominator ts L = (0 < L) × Clears c v k ts L

  tell : (ts : List Triple) (L : ℕ) → IsDenominator ts L ⊎ ¬ (IsDenominator ts L)
  tell ts L = go (ltb 0 L) refl (tell_clears L ts)
    where
      go : (t : Bool) → ltb 0 L ≡ t → Clears c v k ts L ⊎ ¬ (Clears c v k ts L) → IsDenominator ts L ⊎ ¬ (IsDenominator ts L)
      go true e (inl h) = inl (ltb-true 0 L e, h)
      go true e (inr n) = inr (λ h. n h.1)
      go false e r = inr (λ h. let a = h.0 in let b = ltb-false 0 L e in absurd (omega arith))

  pub denominator_exists : (ts : List Triple) → (L : ℕ) × IsLeastDenominator c v k ts L
  denominator_exists ts =
      let r = least_number (IsDenominator ts) (tell ts) (product ts) (product_positive ts, product_clears ts) in
      (r.0, record { positive = (r.1).0; clears = (r.1).1; least = λ M p h. at_least r.0 M (λ lt. r.2 M lt (p, h)) })
    where
      at_least : (a b : ℕ) → ¬ (b < a) → a ≤ b
      at_least a b n = omega arith
