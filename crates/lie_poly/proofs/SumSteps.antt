-- How a sum of terms is told by tallies.
use Rattle.std.proofs.Common.{◌≡◌, ℕ, ◌-◌, List, [], ◌∷◌, ◌++◌, length, take, drop, get_or, reverse, refl, sym, ap, ap₂, ◌∙◌, subst, subst₂, arith, ℤ, pos}
use Rattle.std.specs.Prelude.{unsigned_abs}
use Rattle.lie_math.specs.Monomial.{Monomial}
use Rattle.lie_math.specs.Polynomial.{WholePolynomial, polynomial_of, terms, ◌+ᴾ◌}
use Rattle.lie_math.specs.Limits.{absolutes}
use Rattle.lie_math.proofs.Integer.{unsigned_abs_zero}
use Rattle.lie_math.proofs.CanonicalLists.{of-append}
use Rattle.lie_math.proofs.Limits.{IsCovered, covered_first, covered_second, nonneg_absolutes, absolutes-append}
use Rattle.lie_ring.proofs.Limits.{wide_covered, high_covered, many_covered}
use Rattle.lie_ring.specs.declared.failures.PastKind.TheVariants.{Coefficient, Exponent, Terms, Order, Unknowns, Width}
use Rattle.lie_ring.specs.declared.failures.PolyFail.{PolyFail}
use Rattle.lie_ring.specs.declared.failures.PolyFail.TheVariants.{Past, NoMemory}
use Rattle.lie_ring.specs.Causes.{IsCause}
use Rattle.lie_ring.specs.Entries.{entries}
use Rattle.lie_poly.specs.declared.tally.Tally.{Tally}
use Rattle.lie_poly.specs.Tallies.{sum_of, bulk_of, Tells}
use Rattle.lie_poly.proofs.TermLists.{entries-append}
use Rattle.lie_poly.proofs.TallyLists.{zeros_sum}
use Rattle.std.proofs.lemmas.List.{take-append-drop, take_rest}

-- what is past in a part is past in the whole
pub cause_covered : (fail : PolyFail) (p b : WholePolynomial) → IsCovered p b → IsCause fail p → IsCause fail b
cause_covered (Past Coefficient) p b c h = wide_covered p b c h
cause_covered (Past Exponent) p b c h = high_covered p b c h
cause_covered (Past Terms) p b c h = many_covered p b c h
cause_covered (Past Order) p b c h = absurd h
cause_covered (Past Unknowns) p b c h = absurd h
cause_covered (Past Width) p b c h = absurd h
cause_covered NoMemory p b c h = tt

pub not_zero_of_absolute : (z : ℤ) → ¬ (unsigned_abs z ≡ 0) → ¬ (z ≡ pos 0)
not_zero_of_absolute z n e = n (ap unsigned_abs e)

module _ {C : Type 0} (value : C → ℤ) where
  pub tells_same : (ts : List (Tally C)) (p q b d : WholePolynomial) → p ≡ q → b ≡ d → Tells value ts p b → Tells value ts q d
  tells_same ts p q b d e f h = subst₂ (Tells value ts) e f h

  pub tells_none : Tells value [] (polynomial_of []) (polynomial_of [])
  tells_none = record { tallied = record { ordered = tt; bulk = tt; within = tt; few = omega arith }; sum = refl; bulk = refl }

  pub from_empty : (xs : List (Tally C)) (p b : WholePolynomial) → xs ≡ [] → Tells value [] p b → Tells value (reverse xs) p b
  from_empty xs p b e h = subst (λ ys. Tells value (reverse ys) p b) (sym e) h

  pub tells_zero : (m : Monomial) (z : ℤ) → unsigned_abs z ≡ 0 → Tells value [] (polynomial_of ((m, z) ∷ [])) (polynomial_of ((m, pos (unsigned_abs z)) ∷ []))
  tells_zero m z e =
      let zero : z ≡ pos 0 = unsigned_abs_zero z e in
      let none : polynomial_of [] ≡ polynomial_of ((m, pos 0) ∷ []) = zeros_sum ((m, pos 0) ∷ []) in
      tells_same [] (polynomial_of []) (polynomial_of ((m, z) ∷ [])) (polynomial_of []) (polynomial_of ((m, pos (unsigned_abs z)) ∷ []))
      (none ∙ ap (λ y. polynomial_of ((m, y) ∷ [])) (sym zero)) (none ∙ ap (λ n. polynomial_of ((m, pos n) ∷ [])) (sym e)) tells_none

  -- ---- two halves

  module _ (xs : List (Monomial × C)) (i : ℕ) where
    abbrev pub lower_half : List (Monomial × ℤ)
    lower_half = entries value (take i xs)

    abbrev pub upper_half : List (Monomial × ℤ)
    upper_half = entries value (take (length xs - i) (drop i xs))

    pub halves : entries value xs ≡ lower_half ++ upper_half
    halves = sym (ap (λ b. entries value (take i xs) ++ entries value b) (take_rest xs i) ∙ sym (entries-append value (take i xs) (drop i xs)) ∙ ap (entries value) (take-append-drop i xs))

    pub halves_sum : polynomial_of lower_half +ᴾ polynomial_of upper_half ≡ polynomial_of (entries value xs)
    halves_sum = sym (of-append terms lower_half upper_half) ∙ ap polynomial_of (sym halves)

    pub halves_bulk : polynomial_of (absolutes lower_half) +ᴾ polynomial_of (absolutes upper_half) ≡ polynomial_of (absolutes (entries value xs))
    halves_bulk = sym (of-append terms (absolutes lower_half) (absolutes upper_half)) ∙ ap polynomial_of (sym (absolutes-append lower_half upper_half) ∙ ap absolutes (sym halves))

    pub lower_covered : IsCovered (polynomial_of (absolutes lower_half)) (polynomial_of (absolutes (entries value xs)))
    lower_covered = subst (IsCovered (polynomial_of (absolutes lower_half))) halves_bulk (covered_first (polynomial_of (absolutes lower_half)) (polynomial_of (absolutes upper_half)) (nonneg_absolutes lower_half) (nonneg_absolutes upper_half))

    pub upper_covered : IsCovered (polynomial_of (absolutes upper_half)) (polynomial_of (absolutes (entries value xs)))
    upper_covered = subst (IsCovered (polynomial_of (absolutes upper_half))) halves_bulk (covered_second (polynomial_of (absolutes lower_half)) (polynomial_of (absolutes upper_half)) (nonneg_absolutes lower_half) (nonneg_absolutes upper_half))

  pub one_entry : (xs : List (Monomial × C)) (x : Monomial × C) → length xs ≡ 1 → x ≡ get_or xs 0 x → xs ≡ x ∷ []
  one_entry [] x h e = absurd (omega arith)
  one_entry (y ∷ []) x h e = ap (λ z. z ∷ []) (sym e)
  one_entry (y ∷ z ∷ zs) x h e = absurd (omega arith)

  -- ---- what a merge makes of two parts

  pub joined_sum : (ls rs : List (Tally C)) (p q w b d : WholePolynomial) → Tells value ls p b → Tells value rs q d → p +ᴾ q ≡ w → sum_of value ls +ᴾ sum_of value rs ≡ w
  joined_sum ls rs p q w b d h k e = ap₂ ◌+ᴾ◌ h.sum k.sum ∙ e

  pub joined_bulk : (ls rs : List (Tally C)) (p q b d w : WholePolynomial) → Tells value ls p b → Tells value rs q d → b +ᴾ d ≡ w → bulk_of ls +ᴾ bulk_of rs ≡ w
  joined_bulk ls rs p q b d w h k e = ap₂ ◌+ᴾ◌ h.bulk k.bulk ∙ e
