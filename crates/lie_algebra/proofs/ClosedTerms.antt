-- The terms of a component of the closed system, the greatest unknown first.
use Rattle.std.specs.Prelude.{◌≡◌, ℕ, suc, ◌+◌, ◌<◌, ◌≤◌, Bool, true, false, not, cond, T, List, [], ◌∷◌, ◌++◌, map, drop, length, get_or}
use Rattle.std.proofs.Common.{refl, sym, ap, ap₂, subst, ◌∙◌, append-nil, arith, Less, is_lt}
use Rattle.std.proofs.Math.ListN.{drop_of_length-le}
use Rattle.std.specs.Cmp.{nat_cmp_is}
use Rattle.std.proofs.lemmas.List.{map-append}
use Rattle.std.proofs.lemmas.List.FromFn.{map-range_with_len_more}
use Rattle.std.specs.List.{AllByRecursion as Every, range_with_len}
use Rattle.std.specs.Ordering.{nat_cmp, ordering_then}
use Rattle.std.specs.Cmp.Lexicographic.{slice_cmp}
use Rattle.lie_math.specs.Canonical.{both, first, second}
use Rattle.lie_math.specs.Counts.{Derivative, derivative_cmp}
use Rattle.lie_math.specs.FiniteSum as finite
use Rattle.lie_math.specs.FiniteSum.{IsCanonical}
use Rattle.lie_math.specs.FiniteSumLaws.{none_of_is, plus_comm, term_additive}
use Rattle.lie_math.specs.LinearForm.{LinearForm, forms, form_term, ◌+ᶠ◌}
use Rattle.lie_math.specs.Polynomial.{WholePolynomial, terms, 0ᴾ}
use Rattle.lie_math.specs.SortedSum.{below_all}
use Rattle.lie_math.specs.VectorField.{VectorField, component}
use Rattle.lie_math.proofs.CanonicalLists.{canonical_cons, canonical_value, canonical_below, canonical_tail, of-append}
use Rattle.lie_math.proofs.EveryElement.{every-append, every-weaken}
use Rattle.lie_math.specs.LinearSystem.{Unknown}
use Rattle.lie_lin.specs.declared.system.Unknown as kept
use Rattle.lie_lin.specs.Forms.{unless_zero}
use Rattle.lie_lin.specs.Systems.{unknown_of, system_of}
use Rattle.lie_rows.proofs.RowLoops.{drop_at}
use Rattle.lie_algebra.proofs.FiniteLists.{same_read}
use Rattle.lie_spans.specs.ClosedSystems.{component_form, closed_system}

abbrev the_unknown : ℕ → Derivative
the_unknown i = record { unknown = i; counts = [] }

-- the fields from the number i on, in the component s
abbrev pub falling_terms : ℕ → List VectorField → ℕ → List (Derivative × WholePolynomial)
falling_terms s [] i = []
falling_terms s (V ∷ Vs) i = falling_terms s Vs (suc i) ++ unless_zero (the_unknown i) (component V s) []

-- ---- their sum is the component of the general form
sum_unless_zero : (d : Derivative) (p : WholePolynomial) → finite.of forms (unless_zero d p []) ≡ form_term d p
unfolding finite.none finite.term
sum_unless_zero d p = at (finite.is_none terms p) refl
  where
    at : (t : Bool) → finite.is_none terms p ≡ t → finite.of forms (cond t [] ((d, p) ∷ [])) ≡ form_term d p
    at false e = refl
    at true e = sym (ap (form_term d) (none_of_is terms p e) ∙ (term_additive forms).on_nil d)

pub sum_falling : (s : ℕ) (Vs : List VectorField) (i : ℕ) → finite.of forms (falling_terms s Vs i) ≡ component_form s Vs i
unfolding finite.none
sum_falling s [] i = refl
sum_falling s (V ∷ Vs) i =
    of-append forms (falling_terms s Vs (suc i)) (unless_zero (the_unknown i) (component V s) [])
    ∙ ap₂ ◌+ᶠ◌ (sum_falling s Vs (suc i)) (sum_unless_zero (the_unknown i) (component V s))
    ∙ plus_comm forms (component_form s Vs (suc i)) (form_term (the_unknown i) (component V s))

-- ---- they fall, and none is 0
IsFrom : ℕ → Derivative × WholePolynomial → Type 0
IsFrom i e = (j : ℕ) × (i ≤ j) × (e.0 ≡ the_unknown j)

greater_first : (i j : ℕ) → i < j → derivative_cmp (the_unknown j) (the_unknown i) ≡ Less
greater_first i j l = ap (λ r. ordering_then r (slice_cmp nat_cmp [] [])) (sym (nat_cmp_is i j Less l))

falling_from : (s : ℕ) (Vs : List VectorField) (i : ℕ) → Every (IsFrom i) (falling_terms s Vs i)
unfolding IsFrom
falling_from s [] i = tt
falling_from s (V ∷ Vs) i =
    every-append (IsFrom i) (falling_terms s Vs (suc i)) (unless_zero (the_unknown i) (component V s) [])
    (every-weaken (IsFrom (suc i)) (IsFrom i) (λ e f. (f.0, (let l = f.1 in omega arith), f.2)) (falling_terms s Vs (suc i)) (falling_from s Vs (suc i)))
    (at (finite.is_none terms (component V s)))
  where
    at : (t : Bool) → Every (IsFrom i) (cond t [] ((the_unknown i, component V s) ∷ []))
    at true = tt
    at false = ((i, omega arith, refl), tt)

-- a term after all others
canonical_after : (es : List (Derivative × WholePolynomial)) (e : Derivative × WholePolynomial) → IsCanonical forms es → T (not (finite.is_none terms e.1))
    → Every (λ f. derivative_cmp f.0 e.0 ≡ Less) es → IsCanonical forms (es ++ e ∷ [])
canonical_after [] e h n l = canonical_cons forms e [] n tt tt
canonical_after (f ∷ es) e h n l =
    canonical_cons forms f (es ++ e ∷ []) (canonical_value forms f es h) (below es (canonical_below forms f es h)) (canonical_after es e (canonical_tail forms f es h) n l.1)
  where
    below : (gs : List (Derivative × WholePolynomial)) → T (below_all derivative_cmp forms.values f.0 gs) → T (below_all derivative_cmp forms.values f.0 (gs ++ e ∷ []))
    below [] b = both _ true (subst (λ r. T (is_lt r)) (sym l.0) tt) tt
    below (g ∷ gs) b = both _ (below_all derivative_cmp forms.values f.0 (gs ++ e ∷ [])) (first _ (below_all derivative_cmp forms.values f.0 gs) b) (below gs (second _ _ b))

pub falling_canonical : (s : ℕ) (Vs : List VectorField) (i : ℕ) → IsCanonical forms (falling_terms s Vs i)
unfolding IsFrom
falling_canonical s [] i = tt
falling_canonical s (V ∷ Vs) i = at (finite.is_none terms (component V s)) refl (falling_canonical s Vs (suc i))
  where
    before : Every (λ (f : Derivative × WholePolynomial). derivative_cmp f.0 (the_unknown i) ≡ Less) (falling_terms s Vs (suc i))
    before =
        every-weaken (IsFrom (suc i)) (λ (f : Derivative × WholePolynomial). derivative_cmp f.0 (the_unknown i) ≡ Less)
        (λ f g. ap (λ d. derivative_cmp d (the_unknown i)) g.2 ∙ greater_first i g.0 (let l = g.1 in omega arith)) (falling_terms s Vs (suc i)) (falling_from s Vs (suc i))

    at : (t : Bool) → finite.is_none terms (component V s) ≡ t → IsCanonical forms (falling_terms s Vs (suc i))
        → IsCanonical forms (falling_terms s Vs (suc i) ++ cond t [] ((the_unknown i, component V s) ∷ []))
    at true e h = subst (IsCanonical forms) (sym (append-nil (falling_terms s Vs (suc i)))) h
    at false e h =
        canonical_after (falling_terms s Vs (suc i)) (the_unknown i, component V s) h (subst (λ t. T (not t)) (sym e) tt) before

-- ---- one field more
pub falling_more : (s : ℕ) (Vs : List VectorField) (left i : ℕ) (V : VectorField) (p : WholePolynomial) (out new : List (Derivative × WholePolynomial))
    → left ≡ i + 1 → i < length Vs → V ≡ get_or Vs i V → p ≡ component V s → new ≡ out ++ unless_zero (the_unknown left) p []
    → out ≡ falling_terms s (drop left Vs) (left + 1) → new ≡ falling_terms s (drop i Vs) (i + 1)
falling_more s Vs left i V p out new m l e q n h =
    n ∙ ap₂ (λ es r. es ++ unless_zero (the_unknown left) r []) h q
    ∙ ap (λ k. falling_terms s (drop k Vs) (k + 1) ++ unless_zero (the_unknown k) (component V s) []) m
    ∙ ap (λ k. falling_terms s (drop (i + 1) Vs) k ++ unless_zero (the_unknown (i + 1)) (component V s) []) (let f : i + 1 + 1 ≡ suc (i + 1) = omega arith in f)
    ∙ sym (ap (λ Ws. falling_terms s Ws (i + 1)) (drop_at Vs i V l e))

pub falling_all : (s : ℕ) (Vs : List VectorField) (left : ℕ) (es : List (Derivative × WholePolynomial)) → left ≡ 0
    → es ≡ falling_terms s (drop left Vs) (left + 1) → es ≡ falling_terms s Vs 1
falling_all s Vs left es e h = h ∙ ap (λ k. falling_terms s (drop k Vs) (k + 1)) e

pub falling_start : (s : ℕ) (Vs : List VectorField) → [] ≡ falling_terms s (drop (length Vs) Vs) (length Vs + 1)
falling_start s Vs = ap (λ Ws. falling_terms s Ws (length Vs + 1)) (sym (drop_of_length-le Vs (omega arith)))

-- ---- the unknowns
pub constants_more : (us new : List kept.Unknown) (i x : ℕ) → new ≡ us ++ (record { number = x; vars = 0 }) ∷ []
    → map unknown_of us ≡ map (λ j. record { number = j; variables = [] }) (range_with_len 1 i) → x ≡ i + 1
    → map unknown_of new ≡ map (λ j. record { number = j; variables = [] }) (range_with_len 1 (i + 1))
constants_more us new i x n h e =
    ap (map unknown_of) n ∙ map-append unknown_of us ((record { number = x; vars = 0 }) ∷ [])
    ∙ ap₂ (λ (fs : List Unknown) (k : ℕ). fs ++ (record { number = k; variables = [] }) ∷ []) h e
    ∙ sym (map-range_with_len_more (λ (j : ℕ). record { number = j; variables = [] }) 1 i (i + 1) (omega arith))

-- ---- the system of these parts
pub closed_made : (n : ℕ) (Vs : List VectorField) (us : List kept.Unknown) (Es Gs : List LinearForm) (next : ℕ)
    → map unknown_of us ≡ map (λ j. record { number = j; variables = [] }) (range_with_len 1 (length Vs)) → Es ≡ []
    → Gs ≡ map (λ s. component_form s Vs 1) (range_with_len 0 n) → next ≡ length Vs + 1 → system_of us Es Gs next ≡ closed_system n Vs
closed_made n Vs us Es Gs next u e g f =
    λ i. record { unknowns = u i; equations = e i; general = g i; next = (f ∙ (let q : length Vs + 1 ≡ suc (length Vs) = omega arith in q)) i }

-- the component of a field that is read at its place
pub part_read : (V : VectorField) (ps : List WholePolynomial) (i s : ℕ) (p : WholePolynomial) → ps ≡ V.parts → i ≡ s → s < length V.parts
    → p ≡ get_or ps i p → p ≡ component V s
part_read V ps i s p e q l h =
    h ∙ same_read ps i p 0ᴾ (let m = ap length e in omega arith) ∙ ap₂ (λ xs k. get_or xs k 0ᴾ) e q
