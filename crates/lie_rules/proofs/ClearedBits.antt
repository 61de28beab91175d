-- The variables of an unknown without one of them: its bits without one.
use Rattle.std.specs.Prelude.{◌≡◌, ℕ, ◌<◌, ◌*◌, ◌%◌, ◌^◌, Bool, true, false, cond, ◌&&◌, not, eqb, List, [], ◌∷◌, filter}
use Rattle.std.specs.List.{AllByRecursion as Every, range_with_len}
use Rattle.std.specs.Int.{bit_not}
use Rattle.std.proofs.Common.{refl, sym, ap, ap₂, ◌∙◌, lit<, w8, eq-eqb, true≢false}
use Rattle.std.proofs.lemmas.Nat.Bits.{bit_at_clear_same, bit_at_clear_other}
use Rattle.lie_math.proofs.Tests.{same_number}
use Rattle.lie_lin.specs.Systems.{has_bit}
use lib.Bits.{bit_and}

filter_both : (h g p : ℕ → Bool) (xs : List ℕ) → Every (λ w. g w ≡ (h w && p w)) xs → filter g xs ≡ filter p (filter h xs)
filter_both h g p [] k = refl
filter_both h g p (x ∷ xs) k = ap₂ (λ b ys. cond b (x ∷ ys) ys) k.0 (filter_both h g p xs k.1) ∙ go (h x)
  where
    inner : (b : Bool) → p x ≡ b → cond b (x ∷ filter p (filter h xs)) (filter p (filter h xs)) ≡ filter p (x ∷ filter h xs)
    inner b e = ap (λ c. cond c (x ∷ filter p (filter h xs)) (filter p (filter h xs))) (sym e)

    go : (b : Bool) → cond (b && p x) (x ∷ filter p (filter h xs)) (filter p (filter h xs)) ≡ filter p
        (cond b (x ∷ filter h xs) (filter h xs))
    go true = inner (p x) refl
    go false = refl

module _ (bits i : ℕ) (within : i < 8) where
  abbrev pub cleared : ℕ
  cleared = bit_and bits (bit_not w8 (1 * 2 ^ i % 2 ^ 8))

  bit_of : (w : ℕ) → w < 8 → has_bit cleared w ≡ (has_bit bits w && not (eqb w i))
  bit_of w lt = go (eqb w i) refl
    where
      none : (b : Bool) → false ≡ (b && false)
      none true = refl
      none false = refl

      same : (b : Bool) → b ≡ (b && true)
      same true = refl
      same false = refl

      go : (t : Bool) → eqb w i ≡ t → has_bit cleared w ≡ (has_bit bits w && not t)
      go true e = ap (has_bit cleared) (same_number w i e) ∙ ap (λ n. eqb n 1) (bit_at_clear_same w8 bits i within) ∙ none (has_bit bits w)
      go false e =
          ap (λ n. eqb n 1) (bit_at_clear_other w8 bits i within w lt (λ s. true≢false (sym (eq-eqb w i s) ∙ e))) ∙ same (has_bit bits w)

  pub variables_without : filter (has_bit cleared) (range_with_len 0 8) ≡ filter (λ v. not (eqb v i))
      (filter (has_bit bits) (range_with_len 0 8))
  variables_without =
      filter_both (has_bit bits) (has_bit cleared) (λ v. not (eqb v i)) (range_with_len 0 8) (
        bit_of 0 (lit< tt),
        (
          bit_of 1 (lit< tt),
          (
            bit_of 2 (lit< tt),
            (
              bit_of 3 (lit< tt),
              (bit_of 4 (lit< tt), (bit_of 5 (lit< tt), (bit_of 6 (lit< tt), (bit_of 7 (lit< tt), tt)))),
            ),
          ),
        ),
      )
