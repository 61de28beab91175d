-- Norms and degrees as far as the limits, term by term and part by part.
use Rattle.std.specs.Prelude.{◌≡◌, ℕ, ◌+◌, ◌<◌, List, [], ◌∷◌, ◌++◌, length, take, get_or, min, max}
use Rattle.std.proofs.Common.{ap, ◌∙◌, arith}
use Rattle.lie_math.specs.Canonical.{sum_of_entries-append, idr}
use Rattle.lie_math.specs.Monoid.{Adder}
use Rattle.lie_math.specs.Polynomial.{WholePolynomial}
use Rattle.lie_math.specs.SortedSum.{sum_of_entries}
use Rattle.std.proofs.lemmas.List.{take_more}
use Rattle.lie_prolong.specs.FieldBounds.{greatest_of}

-- one entry more
pub entries_more : {K A B : Type 0} (adder : Adder B) (φ : K → A → B) (es : List (K × A)) (i : ℕ) (d : K × A) → i < length es → sum_of_entries adder φ (take (i + 1) es) ≡ adder.plus (sum_of_entries adder φ (take i es)) (φ (get_or es i d).0 (get_or es i d).1)
entries_more adder φ es i d lt =
    ap (sum_of_entries adder φ) (take_more es i d lt) ∙ sum_of_entries-append adder φ (take i es) (get_or es i d ∷ []) ∙ ap (adder.plus (sum_of_entries adder φ (take i es))) (idr adder (φ (get_or es i d).0 (get_or es i d).1))

-- a sum as far as the number c, and one number more
pub sum_more : (s x t a y b c : ℕ) → t ≡ s + x → a ≡ min s c → y ≡ x → b ≡ min (a + y) c → b ≡ min t c
sum_more s x t a y b c e f g h = omega arith

-- a greatest number as far as the number c, and one number more
pub greatest_more : (s x t a y b c : ℕ) → t ≡ max s x → a ≡ min s c → y ≡ min x c → b ≡ max a y → b ≡ min t c
greatest_more s x t a y b c e f g h = omega arith

-- one part more
greatest-append : (f : WholePolynomial → ℕ) (Ps : List WholePolynomial) (P : WholePolynomial) → greatest_of f (Ps ++ P ∷ []) ≡ max (greatest_of f Ps) (f P)
greatest-append f [] P = swap (f P)
  where
    swap : (n : ℕ) → max n 0 ≡ max 0 n
    swap n = omega arith
greatest-append f (Q ∷ Ps) P = ap (max (f Q)) (greatest-append f Ps P) ∙ grouped (f Q) (greatest_of f Ps) (f P)
  where
    grouped : (a b c : ℕ) → max a (max b c) ≡ max (max a b) c
    grouped a b c = omega arith

pub part_more : (f : WholePolynomial → ℕ) (Ps : List WholePolynomial) (i : ℕ) (P : WholePolynomial) → i < length Ps → greatest_of f (take (i + 1) Ps) ≡ max (greatest_of f (take i Ps)) (f (get_or Ps i P))
part_more f Ps i P lt = ap (greatest_of f) (take_more Ps i P lt) ∙ greatest-append f (take i Ps) (get_or Ps i P)
