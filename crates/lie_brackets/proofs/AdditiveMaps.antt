-- Additive maps of polynomials, term by term: what is made of a term is covered by what is made of a sum, where no coefficient gets negative.
use Rattle.std.specs.Prelude.{◌≡◌, ℕ, ◌+◌, ◌<◌, List, [], ◌∷◌, ◌++◌, length, take, ℤ, pos, unsigned_abs}
use Rattle.std.proofs.Common.{sym, ap, subst, ◌∙◌, get_or}
use Rattle.std.proofs.lemmas.List.{take_more}
use Rattle.lie_math.specs.Limits.{absolutes}
use Rattle.lie_math.specs.Monomial.{Monomial}
use Rattle.lie_math.specs.Polynomial.{WholePolynomial, polynomials, terms, term, polynomial_of, 0ᴾ, ◌+ᴾ◌}
use Rattle.lie_math.specs.PolynomialRing.{polynomial_of-none}
use Rattle.lie_math.specs.SortedSum.{sum_of_entries}
use Rattle.lie_math.proofs.CanonicalLists.{of-cons}
use Rattle.lie_math.proofs.Limits.{IsCovered, IsNonNegative, term_is}
use Rattle.lie_jet.specs.Listed.{sum_listed, bulk_listed}
use Rattle.lie_jet.proofs.TotalParts.{entries_same, sum_nonneg, sum_covers}
use Rattle.lie_jet.proofs.TotalSteps.{sum_one, bulk_one}

pub record IsAdditive (F : WholePolynomial → WholePolynomial) : Type 0 where
  pub plus : (p q : WholePolynomial) → F (p +ᴾ q) ≡ F p +ᴾ F q
  pub nothing : F 0ᴾ ≡ 0ᴾ

-- no negative coefficient is made of a positive term
abbrev pub KeepsPlain : (WholePolynomial → WholePolynomial) → Type 0
KeepsPlain F = (m : Monomial) (n : ℕ) → IsNonNegative (F (term m (pos n)))

module _ {F : WholePolynomial → WholePolynomial} (is : IsAdditive F) where
  pub additive_none : F (sum_listed []) ≡ 0ᴾ
  additive_none = ap F polynomial_of-none ∙ is.nothing

  pub additive_no_bulk : F (bulk_listed []) ≡ 0ᴾ
  additive_no_bulk = ap F polynomial_of-none ∙ is.nothing

  -- one term more
  pub additive_more : (xs : List (Monomial × ℤ)) (k : ℕ) (x : Monomial × ℤ) → k < length xs → x ≡ get_or xs k x
      → F (sum_listed (take (k + 1) xs)) ≡ F (sum_listed (take k xs)) +ᴾ F (term x.0 x.1)
  additive_more xs k x h e =
      ap F (sum_one (take k xs) (take (k + 1) xs) x.0 x.1 (take_more xs k x h ∙ ap (λ (y : Monomial × ℤ). take k xs ++ y ∷ []) (sym e)))
      ∙ is.plus (sum_listed (take k xs)) (term x.0 x.1)

  pub additive_more_bulk : (xs : List (Monomial × ℤ)) (k : ℕ) (x : Monomial × ℤ) → k < length xs → x ≡ get_or xs k x
      → F (bulk_listed (take (k + 1) xs)) ≡ F (bulk_listed (take k xs)) +ᴾ F (term x.0 (pos (unsigned_abs x.1)))
  additive_more_bulk xs k x h e =
      ap F (bulk_one (take k xs) (take (k + 1) xs) x.0 x.1 (take_more xs k x h ∙ ap (λ (y : Monomial × ℤ). take k xs ++ y ∷ []) (sym e)))
      ∙ is.plus (bulk_listed (take k xs)) (term x.0 (pos (unsigned_abs x.1)))

  -- ---- what is made of a part of a bulk
  abbrev of_absolute : Monomial → ℤ → WholePolynomial
  of_absolute m c = F (term m (pos (unsigned_abs c)))

  of_absolutes : (es : List (Monomial × ℤ)) → F (polynomial_of (absolutes es)) ≡ sum_of_entries polynomials of_absolute es
  of_absolutes [] = ap F polynomial_of-none ∙ is.nothing
  of_absolutes (e ∷ es) =
      ap F (of-cons terms (e.0, pos (unsigned_abs e.1)) (absolutes es) ∙ ap (λ p. p +ᴾ polynomial_of (absolutes es)) (sym (term_is e.0 (pos (unsigned_abs e.1)))))
      ∙ is.plus (term e.0 (pos (unsigned_abs e.1))) (polynomial_of (absolutes es)) ∙ ap (λ p. of_absolute e.0 e.1 +ᴾ p) (of_absolutes es)

  of_bulk : (xs : List (Monomial × ℤ)) → F (bulk_listed xs) ≡ sum_of_entries polynomials of_absolute xs
  of_bulk xs = ap (λ es. F (polynomial_of (absolutes es))) (entries_same xs) ∙ of_absolutes xs

  pub additive_plain : KeepsPlain F → (xs : List (Monomial × ℤ)) → IsNonNegative (F (bulk_listed xs))
  additive_plain plain xs = subst IsNonNegative (sym (of_bulk xs)) (sum_nonneg of_absolute (λ m c. plain m (unsigned_abs c)) xs)

  pub additive_covers : KeepsPlain F → (xs : List (Monomial × ℤ)) (k : ℕ) (x : Monomial × ℤ) → k < length xs → x ≡ get_or xs k x
      → IsCovered (F (term x.0 (pos (unsigned_abs x.1)))) (F (bulk_listed xs))
  additive_covers plain xs k x h e =
      subst (λ (y : Monomial × ℤ). IsCovered (F (term y.0 (pos (unsigned_abs y.1)))) (F (bulk_listed xs))) (sym e)
      (subst (IsCovered (F (term (get_or xs k x).0 (pos (unsigned_abs (get_or xs k x).1))))) (sym (of_bulk xs))
      (sum_covers of_absolute (λ m c. plain m (unsigned_abs c)) xs k x h))
