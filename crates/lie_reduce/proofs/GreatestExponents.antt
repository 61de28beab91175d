-- The greatest exponents in terms and in polynomials, one by one; they are those of the absolute values.
use Rattle.std.specs.Prelude.{◌≡◌, ℕ, ◌+◌, ◌<◌, List, [], ◌∷◌, ◌++◌, length, take, get_or, max, ℤ}
use Rattle.std.proofs.Common.{refl, sym, ap, ap₂, ◌∙◌, arith}
use Rattle.lie_math.specs.Canonical.{sum_of_entries-append}
use Rattle.lie_math.specs.FiniteSumLaws.{list-of}
use Rattle.lie_math.specs.Limits.{absolute, absolutes}
use Rattle.lie_math.specs.Monomial.{Monomial, exponent}
use Rattle.lie_math.specs.Natural.{maxima}
use Rattle.lie_math.specs.Polynomial.{WholePolynomial, terms}
use Rattle.lie_math.specs.Powers.{degree_in}
use Rattle.lie_math.specs.SortedSum.{sum_of_entries}
use Rattle.lie_math.proofs.Limits.{canonical_absolutes}
use Rattle.lie_ring.specs.Entries.{entries}
use Rattle.lie_jet.proofs.TotalParts.{listed_terms}
use Rattle.lie_reduce.specs.Reductions.{greatest_exponent}
use Rattle.lie_ring.proofs.Fronts.{take_more}

abbrev pub greatest_listed : ℕ → List (Monomial × ℤ) → ℕ
greatest_listed w ts = sum_of_entries maxima (λ m a. exponent m w) ts

pub listed_more : (w : ℕ) (ts : List (Monomial × ℤ)) (i : ℕ) (t : Monomial × ℤ) (g n r : ℕ) → i < length ts → t ≡ get_or ts i t → g ≡ greatest_listed w (take i ts) → n ≡ exponent t.0 w → r ≡ max g n → r ≡ greatest_listed w (take (i + 1) ts)
listed_more w ts i t g n r lt is f h e =
    e ∙ ap₂ max f (h ∙ plain (exponent t.0 w)) ∙ sym (sum_of_entries-append maxima (λ m a. exponent m w) (take i ts) (t ∷ [])) ∙ ap (greatest_listed w) (take_more ts i t lt is)
  where
    plain : (n : ℕ) → n ≡ max n 0
    plain n = omega arith

exponent-append : (Ps : List WholePolynomial) (P : WholePolynomial) (w : ℕ) → greatest_exponent (Ps ++ P ∷ []) w ≡ max (greatest_exponent Ps w) (degree_in w P)
exponent-append [] P w = swap (degree_in w P)
  where
    swap : (n : ℕ) → max n 0 ≡ max 0 n
    swap n = omega arith
exponent-append (Q ∷ Ps) P w = ap (max (degree_in w Q)) (exponent-append Ps P w) ∙ grouped (degree_in w Q) (greatest_exponent Ps w) (degree_in w P)
  where
    grouped : (a b c : ℕ) → max a (max b c) ≡ max (max a b) c
    grouped a b c = omega arith

pub exponent_more : (Ps : List WholePolynomial) (i : ℕ) (P : WholePolynomial) (w g n r : ℕ) (xs ys : List (Monomial × ℤ)) → i < length Ps → P ≡ get_or Ps i P → g ≡ greatest_exponent (take i Ps) w → n ≡ greatest_listed w xs → xs ≡ ys → entries (λ z. z) ys ≡ P.list → r ≡ max g n → r ≡ greatest_exponent (take (i + 1) Ps) w
exponent_more Ps i P w g n r xs ys lt is f h l k e =
    e ∙ ap₂ max f (h ∙ ap (greatest_listed w) (listed_terms P xs ys l k)) ∙ sym (exponent-append (take i Ps) P w) ∙ ap (λ Qs. greatest_exponent Qs w) (take_more Ps i P lt is)

-- ---- absolute values have the same exponents
listed_absolutes : (w : ℕ) (ts : List (Monomial × ℤ)) → greatest_listed w (absolutes ts) ≡ greatest_listed w ts
listed_absolutes w [] = refl
listed_absolutes w (t ∷ ts) = ap (max (exponent t.0 w)) (listed_absolutes w ts)

pub degree_absolute : (w : ℕ) (P : WholePolynomial) → degree_in w (absolute P) ≡ degree_in w P
unfolding absolute
degree_absolute w P = ap (greatest_listed w) (list-of terms (absolutes P.list) (canonical_absolutes P.list P.canonical)) ∙ listed_absolutes w P.list
