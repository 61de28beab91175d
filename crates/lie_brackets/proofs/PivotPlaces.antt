-- The degree of a monomial, the first of the lowest terms, and the pivot of a field that is given by terms.
use Rattle.std.specs.Prelude.{◌≡◌, ℕ, zero, suc, ◌+◌, ◌<◌, ◌≤◌, List, [], ◌∷◌, length, drop, get_or, ℤ, pos}
use Rattle.std.proofs.Common.{refl, sym, ap, ◌∙◌, arith}
use Rattle.lie_math.specs.Monomial.{Monomial, degree}
use Rattle.lie_math.specs.FiniteSumLaws.{value-none}
use Rattle.lie_math.specs.Natural.{naturals}
use Rattle.lie_math.specs.Polynomial.{terms, coefficient}
use Rattle.lie_math.specs.PolynomialRing.{polynomial_of-none}
use Rattle.lie_math.specs.VectorField.{component}
use Rattle.lie_jet.specs.Listed.{sum_listed}
use Rattle.lie_math.specs.SortedSum.{sum_of_entries}
use Rattle.lie_math.proofs.Monomial.{pairs_degree}
use Rattle.lie_brackets.specs.FieldTerms.{Part, field_of_terms}
use Rattle.lie_brackets.specs.Generators.{terms_at}

sum_of_pairs : (ps : List (ℕ × ℕ)) → pairs_degree ps ≡ sum_of_entries naturals (λ v e. e) ps
sum_of_pairs [] = refl
sum_of_pairs (p ∷ ps) = ap (λ n. p.1 + n) (sum_of_pairs ps)

none_left : (ps : List (ℕ × ℕ)) (k : ℕ) → length ps ≤ k → pairs_degree (drop k ps) ≡ 0
none_left [] zero h = refl
none_left [] (suc k) h = refl
none_left (p ∷ ps) zero h = absurd (omega arith)
none_left (p ∷ ps) (suc k) h = none_left ps k (omega arith)

pub degree_told : (m : Monomial) (ps : List (ℕ × ℕ)) (total k : ℕ) → ps ≡ m.list → length ps ≤ k
    → total + pairs_degree (drop k ps) ≡ pairs_degree ps → total ≡ degree m
degree_told m ps total k e h s =
    let z : pairs_degree (drop k ps) ≡ 0 = none_left ps k h in
    let t : total ≡ pairs_degree ps = omega arith in
    t ∙ ap pairs_degree e ∙ sum_of_pairs m.list

pub terms_of_part : (xs : List Part) (s : ℕ) (x : Part) → s < length xs → x ≡ get_or xs s x → terms_at xs s ≡ x.items
terms_of_part [] s x l e = absurd (omega arith)
terms_of_part (y ∷ xs) zero x l e = ap (λ (z : Part). z.items) (sym e)
terms_of_part (y ∷ xs) (suc s) x l e = terms_of_part xs s x (omega arith) e

-- ---- where no part has a term
pub empty_sum : (ts : List (Monomial × ℤ)) (m : Monomial) → length ts ≡ 0 → coefficient (sum_listed ts) m ≡ pos 0
empty_sum [] m h = ap (λ p. coefficient p m) polynomial_of-none ∙ value-none terms m
empty_sum (t ∷ ts) m h = absurd (omega arith)

pub no_entry : (xs : List Part) → ((t : ℕ) → t < length xs → length (terms_at xs t) ≡ 0) → (s : ℕ) (m : Monomial)
    → coefficient (component (field_of_terms xs) s) m ≡ pos 0
no_entry [] h s m = value-none terms m
no_entry (x ∷ xs) h zero m = empty_sum x.items m (h 0 (omega arith))
no_entry (x ∷ xs) h (suc s) m = no_entry xs (λ t l. h (suc t) (omega arith)) s m

pub empty_part : (xs : List Part) (s : ℕ) (x : Part) (ts : List (Monomial × ℤ)) → s < length xs → x ≡ get_or xs s x → ts ≡ x.items → length ts ≤ 0
    → length (terms_at xs s) ≡ 0
empty_part xs s x ts l is read h =
    let e : length (terms_at xs s) ≡ length ts = ap length (terms_of_part xs s x l is ∙ sym read) in omega arith
