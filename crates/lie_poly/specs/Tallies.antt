-- Sums in the making: for each monomial the sum of its coefficients, and the sum of their absolute values.
use Rattle.std.specs.Prelude.{◌≡◌, ◌≤◌, cond, List, [], ◌∷◌, length, ℤ, pos}
use Rattle.std.proofs.Common.{Ordering}
use Rattle.lie_math.specs.Monomial.{Monomial, monomial_cmp}
use Rattle.lie_math.specs.Integer.{is_zero_int}
use Rattle.lie_math.specs.Polynomial.{WholePolynomial, polynomial_of}
use Rattle.lie_ring.specs.Entries.{entries}
use Rattle.lie_ring.specs.Firsts.{first_cmp}
use Rattle.lie_poly.specs.Bulk.{IsBulkOf, AreWithin}
use Rattle.lie_poly.specs.declared.tally.Tally.{Tally}
use Rattle.lie_poly.specs.Sorted.{IsInPrintOrder}

-- the monomials with the sums of their coefficients
abbrev pub sums : {C : Type 0} → (C → ℤ) → List (Tally C) → List (Monomial × ℤ)
sums value [] = []
sums value (t ∷ ts) = (t.mono, value t.sum) ∷ sums value ts

-- the monomials with the sums of the absolute values
abbrev pub bulks : {C : Type 0} → List (Tally C) → List (Monomial × ℤ)
bulks [] = []
bulks (t ∷ ts) = (t.mono, pos t.bulk) ∷ bulks ts

abbrev pub sum_of : {C : Type 0} → (C → ℤ) → List (Tally C) → WholePolynomial
sum_of value ts = polynomial_of (sums value ts)

abbrev pub bulk_of : {C : Type 0} → List (Tally C) → WholePolynomial
bulk_of ts = polynomial_of (bulks ts)

-- in print order, each monomial once, no sum above its bulk, and all within the limits
pub record IsTallied {C : Type 0} (value : C → ℤ) (ts : List (Tally C)) : Type 0 where
  pub ordered : IsInPrintOrder (bulks ts)
  pub bulk : IsBulkOf (sums value ts) (bulks ts)
  pub within : AreWithin (bulks ts)
  pub few : length ts ≤ 1000000

-- tallies of the sum p with the bulk b
pub record Tells {C : Type 0} (value : C → ℤ) (ts : List (Tally C)) (p b : WholePolynomial) : Type 0 where
  pub tallied : IsTallied value ts
  pub sum : sum_of value ts ≡ p
  pub bulk : bulk_of ts ≡ b

-- the order of the first monomials of two lists; an empty list has none, which is after all
abbrev pub firsts : {C : Type 0} → List (Tally C) → List (Tally C) → Ordering
firsts {C} xs ys = first_cmp (λ (x : Tally C) (y : Tally C). monomial_cmp x.mono y.mono) xs ys

-- the term before others, unless its coefficient is 0
abbrev pub with_term : Monomial → ℤ → List (Monomial × ℤ) → List (Monomial × ℤ)
with_term m z es = cond (is_zero_int z) es ((m, z) ∷ es)

-- the terms whose coefficient is not 0
abbrev pub without_zeros : List (Monomial × ℤ) → List (Monomial × ℤ)
without_zeros [] = []
without_zeros (e ∷ es) = with_term e.0 e.1 (without_zeros es)

-- terms that are those, without zeros, of tallies of the sum p with the bulk b
abbrev pub IsTold : {C : Type 0} → (C → ℤ) → List (Monomial × C) → WholePolynomial → WholePolynomial → Type 0
IsTold {C} value es p b = (ts : List (Tally C)) × (entries value es ≡ without_zeros (sums value ts)) × Tells value ts p b
