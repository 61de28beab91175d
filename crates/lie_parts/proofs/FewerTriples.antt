-- A form that another one bounds has no more triples.
use Rattle.std.specs.Prelude.{◌≡◌, ℕ, ◌+◌, ◌≤◌, Bool, true, false, cond, not, T, List, [], ◌∷◌, length}
use Rattle.std.specs.Ordering.{eq_by_cmp, ordering_reverse}
use Rattle.std.proofs.Common.{refl, sym, ap, subst, ◌∙◌, arith, Ordering, Less, Equal, Greater, is_lt, length-append}
use Rattle.lie_math.specs.Canonical.{value_at-head, value_at-tail, value_at-below, below_less, both}
use Rattle.lie_math.specs.Counts.{Derivative, derivative_cmp}
use Rattle.lie_math.specs.FiniteSum as finite
use Rattle.lie_math.specs.FiniteSum.{IsCanonical}
use Rattle.lie_math.specs.LinearForm.{forms, LinearForm}
use Rattle.lie_math.specs.Polynomial.{WholePolynomial, 0ᴾ}
use Rattle.lie_math.specs.SortedSum.{value_at, below_all}
use Rattle.lie_math.proofs.CanonicalLists.{canonical_value, canonical_tail, canonical_below}
use Rattle.lie_math.proofs.FiniteSum.{key}
use Rattle.lie_math.proofs.Limits.{length_covered}
use Rattle.lie_systems.specs.Triples.{triples, triples_in, triples_with}
use Rattle.lie_form.proofs.FormBounds.{at, IsFormBound}
use Rattle.lie_form.proofs.FormCauses.{length-with}

-- ---- how many terms the coefficients have
abbrev term_count : List (Derivative × WholePolynomial) → ℕ
term_count [] = 0
term_count (e ∷ es) = length e.1.list + term_count es

triples_counted : (es : List (Derivative × WholePolynomial)) → length (triples_in es) ≡ term_count es
triples_counted [] = refl
triples_counted (e ∷ es) = length-append (triples_with e.0 e.1.list) (triples_in es) ∙ (let a = length-with e.0 e.1.list in let b = triples_counted es in omega arith)

abbrev valued : Derivative → List (Derivative × WholePolynomial) → WholePolynomial
valued d es = value_at derivative_cmp forms.values d es

-- no coefficient of the first list has more terms
abbrev HasFewer : List (Derivative × WholePolynomial) → List (Derivative × WholePolynomial) → Type 0
HasFewer es fs = (d : Derivative) → length (valued d es).list ≤ length (valued d fs).list

pub none_length : length (0ᴾ).list ≡ 0
unfolding finite.none finite.of
none_length = refl

some_length : (e : Derivative × WholePolynomial) (es : List (Derivative × WholePolynomial)) → IsCanonical forms (e ∷ es) → ¬ (length e.1.list ≡ 0)
some_length e es c z = subst (λ b. T (not b)) (empty e.1.list z) (canonical_value forms e es c)
  where
    empty : {X : Type 0} (xs : List X) → length xs ≡ 0 → finite.list_is_empty xs ≡ true
    empty [] q = refl
    empty (x ∷ xs) q = absurd (omega arith)

head_at : (e : Derivative × WholePolynomial) (es : List (Derivative × WholePolynomial)) → IsCanonical forms (e ∷ es) → valued e.0 (e ∷ es) ≡ e.1
head_at e es c = value_at-head derivative_cmp forms.values forms.total forms.same e es (canonical_below forms e es c)

tail_at : (e : Derivative × WholePolynomial) (es : List (Derivative × WholePolynomial)) (d : Derivative) → IsCanonical forms (e ∷ es) → valued d es ≡ cond (eq_by_cmp derivative_cmp d e.0) 0ᴾ (valued d (e ∷ es))
tail_at e es d c = value_at-tail derivative_cmp forms.values forms.total forms.same d e es (canonical_below forms e es c)

before_at : (d : Derivative) (f : Derivative × WholePolynomial) (fs : List (Derivative × WholePolynomial)) → derivative_cmp d f.0 ≡ Less → IsCanonical forms (f ∷ fs) → valued d (f ∷ fs) ≡ 0ᴾ
before_at d f fs p c =
    value_at-below derivative_cmp forms.values forms.total forms.same d (f ∷ fs) (both _ (below_all derivative_cmp forms.values d fs) (subst (λ r. T (is_lt r)) (sym p) tt) (below_less derivative_cmp forms.values forms.total forms.same d f.0 fs p (canonical_below forms f fs c)))

missing : (e : Derivative × WholePolynomial) (es fs : List (Derivative × WholePolynomial)) → IsCanonical forms (e ∷ es) → HasFewer (e ∷ es) fs → valued e.0 fs ≡ 0ᴾ → ⊥
missing e es fs c w z = some_length e es c (none _ (subst (λ (p : WholePolynomial). length p.list ≤ length (valued e.0 fs).list) (head_at e es c) (w e.0)) (ap (λ (p : WholePolynomial). length p.list) z ∙ none_length))
  where
    none : (n : ℕ) {m : ℕ} → m ≤ n → n ≡ 0 → m ≡ 0
    none n h k = omega arith

fewer : (es fs : List (Derivative × WholePolynomial)) → IsCanonical forms es → IsCanonical forms fs → HasFewer es fs → term_count es ≤ term_count fs
fewer [] fs c g w = omega arith
fewer (e ∷ es) fs c g w = go (λ gs. fewer es gs (canonical_tail forms e es c)) fs g w
  where
    go : ((gs : List (Derivative × WholePolynomial)) → IsCanonical forms gs → HasFewer es gs → term_count es ≤ term_count gs) → (fs : List (Derivative × WholePolynomial)) → IsCanonical forms fs → HasFewer (e ∷ es) fs → term_count (e ∷ es) ≤ term_count fs
    go rest [] g w = absurd (missing e es [] c w refl)
    go rest (f ∷ fs) g w =
        let skipped : (derivative_cmp f.0 e.0 ≡ Less → term_count (e ∷ es) ≤ term_count fs) = λ p. go rest fs (canonical_tail forms f fs g) (past p) in
        by_order (derivative_cmp e.0 f.0) refl skipped
      where
        -- past a first key that the first list does not have
        past : derivative_cmp f.0 e.0 ≡ Less → HasFewer (e ∷ es) fs
        past p d = here (eq_by_cmp derivative_cmp d f.0) refl
          where
            here : (t : Bool) → eq_by_cmp derivative_cmp d f.0 ≡ t → length (valued d (e ∷ es)).list ≤ length (valued d fs).list
            here true q = let z : length (valued d (e ∷ es)).list ≡ 0 = ap (λ k. length (valued k (e ∷ es)).list) (key forms d f.0 q) ∙ ap (λ (p : WholePolynomial). length p.list) (before_at f.0 e es p c) ∙ none_length in omega arith
            here false q = subst (λ (p : WholePolynomial). length (valued d (e ∷ es)).list ≤ length p.list) (sym (tail_at f fs d g ∙ ap (λ t. cond t 0ᴾ (valued d (f ∷ fs))) q)) (w d)

        -- past equal first keys
        tails : e.0 ≡ f.0 → HasFewer es fs
        tails s d = here (eq_by_cmp derivative_cmp d e.0) refl
          where
            here : (t : Bool) → eq_by_cmp derivative_cmp d e.0 ≡ t → length (valued d es).list ≤ length (valued d fs).list
            here true q = let z : length (valued d es).list ≡ 0 = ap (λ (p : WholePolynomial). length p.list) (tail_at e es d c ∙ ap (λ t. cond t 0ᴾ (valued d (e ∷ es))) q) ∙ none_length in omega arith
            here false q =
                let a : valued d es ≡ valued d (e ∷ es) = tail_at e es d c ∙ ap (λ t. cond t 0ᴾ (valued d (e ∷ es))) q in
                let b : valued d fs ≡ valued d (f ∷ fs) = tail_at f fs d g ∙ ap (λ k. cond (eq_by_cmp derivative_cmp d k) 0ᴾ (valued d (f ∷ fs))) (sym s) ∙ ap (λ t. cond t 0ᴾ (valued d (f ∷ fs))) q in
                subst (λ (p : WholePolynomial). length p.list ≤ length (valued d fs).list) (sym a) (subst (λ (p : WholePolynomial). length (valued d (e ∷ es)).list ≤ length p.list) (sym b) (w d))

        heads : e.0 ≡ f.0 → length e.1.list ≤ length f.1.list
        heads s = subst (λ (p : WholePolynomial). length p.list ≤ length f.1.list) (head_at e es c) (subst (λ (p : WholePolynomial). length (valued e.0 (e ∷ es)).list ≤ length p.list) (ap (λ k. valued k (f ∷ fs)) s ∙ head_at f fs g) (w e.0))

        by_order : (r : Ordering) → derivative_cmp e.0 f.0 ≡ r → (derivative_cmp f.0 e.0 ≡ Less → term_count (e ∷ es) ≤ term_count fs) → term_count (e ∷ es) ≤ term_count (f ∷ fs)
        by_order Less q skipped = absurd (missing e es (f ∷ fs) c w (before_at e.0 f fs q g))
        by_order Equal q skipped = let s = forms.same e.0 f.0 q in let a = rest fs (canonical_tail forms f fs g) (tails s) in let b = heads s in omega (arith, a, b)
        by_order Greater q skipped = let a : term_count (e ∷ es) ≤ term_count fs = skipped (forms.total.antisymm f.0 e.0 ∙ ap ordering_reverse q) in omega (arith, a)

-- ---- a bound and what it bounds
pub fewer_triples : (E B : LinearForm) → IsFormBound E B → length (triples E) ≤ length (triples B)
fewer_triples E B h =
    let a : length (triples E) ≡ term_count E.list = triples_counted E.list in
    let b : length (triples B) ≡ term_count B.list = triples_counted B.list in
    let c : term_count E.list ≤ term_count B.list = fewer E.list B.list E.canonical B.canonical (λ d. length_covered (at E d) (at B d) (h.each d).covered) in
    omega arith
