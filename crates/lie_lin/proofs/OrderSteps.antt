-- Counting triples, and comparing two lists of them one after the other.
use Rattle.std.specs.Prelude.{◌≡◌, ℕ, zero, suc, ◌+◌, ◌<◌, ◌≤◌, ◌⊎◌, List, [], ◌∷◌, length, get_or, take, drop, ℤ}
use Rattle.std.proofs.Common.{Ordering, inl, inr, ⊎_elim, refl, sym, ap, ap₂, ◌∙◌, arith, length-append, nat_cmp}
use Rattle.std.specs.Cmp.Lexicographic.{slice_cmp}
use Rattle.lie_math.specs.Monomial.{Monomial}
use Rattle.lie_math.specs.Polynomial.{WholePolynomial}
use Rattle.lie_systems.specs.EquationOrder.{triple_cmp}
use Rattle.lie_systems.specs.Triples.{triples_in, triples_with}
use Rattle.lie_jet.specs.declared.derivative.Der.{Der}
use Rattle.lie_jet.specs.Derivatives.{derivative_of}
use Rattle.lie_lin.specs.Forms.{triples_of, coefficients_of}
use Rattle.lie_ring.proofs.PairOrder.{used_up}
use Rattle.lie_lin.proofs.Forms.{triples_more}
use Rattle.lie_form.proofs.FormCauses.{length-with}

-- ---- the triples of one more derivative
pub count_more : (es : List (Der × WholePolynomial)) (i n k : ℕ) (x : Der × WholePolynomial) → i < length es → x ≡ get_or es i x → n ≡ length (triples_in (coefficients_of (take i es))) → k ≡ length x.1.list → n + k ≡ length (triples_in (coefficients_of (take (i + 1) es)))
count_more es i n k x lt is e f =
    ap₂ ◌+◌ e (f ∙ sym (length-with (derivative_of x.0) x.1.list))
    ∙ sym (ap length (triples_more es i x lt is) ∙ length-append (triples_in (coefficients_of (take i es))) (triples_with (derivative_of x.0) x.1.list))

-- ---- two lists from the i-th triples on
abbrev pub Kept : Type 0
Kept = Der × Monomial × ℤ

abbrev pub order_from : ℕ → List Kept → List Kept → Ordering
order_from i xs ys = slice_cmp triple_cmp (triples_of (drop i xs)) (triples_of (drop i ys))

kept_length : (xs : List Kept) → length (triples_of xs) ≡ length xs
kept_length [] = refl
kept_length (x ∷ xs) = ap suc (kept_length xs)

kept_rest : (i : ℕ) (xs : List Kept) → drop i (triples_of xs) ≡ triples_of (drop i xs)
kept_rest zero xs = refl
kept_rest (suc i) [] = refl
kept_rest (suc i) (x ∷ xs) = kept_rest i xs

-- one of them is used up
pub order_end : (xs ys : List Kept) (i : ℕ) → i ≤ length xs → i ≤ length ys → (length xs ≤ i) ⊎ (length ys ≤ i) → nat_cmp (length xs) (length ys) ≡ order_from i xs ys
order_end xs ys i h k e =
    let m = kept_length xs in
    let n = kept_length ys in
    sym (ap₂ nat_cmp m n) ∙ used_up triple_cmp (triples_of xs) (triples_of ys) i (omega arith) (omega arith) (⊎_elim (λ p. inl (omega arith)) (λ p. inr (omega arith)) e) ∙ ap₂ (slice_cmp triple_cmp) (kept_rest i xs) (kept_rest i ys)
