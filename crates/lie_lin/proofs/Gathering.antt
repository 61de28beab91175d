-- A sum of triples, gathered by its derivatives.
use Rattle.std.specs.Prelude.{◌≡◌, ℕ, ◌+◌, ◌<◌, Bool, true, false, cond, not, T, List, [], ◌∷◌, ◌++◌, length, ℤ, pos, unsigned_abs, get_or, take}
use Rattle.std.proofs.Common.{Less, refl, sym, ap, ap₂, subst, ◌∙◌, arith, is_lt, true≢false, add-one}
use Rattle.std.proofs.Math.Seq.{take-suc}
use Rattle.std.specs.List.{AllByRecursion as Every}
use Rattle.std.specs.List.Sorted.{IsStrictlySortedBy}
use Rattle.std.specs.Ordering.{eq_by_cmp}
use Rattle.lie_math.specs.SortedSum.{value_at, below_all}
use Rattle.lie_math.specs.Canonical.{value_at-below, both}
use Rattle.lie_math.specs.FiniteSum as finite
use Rattle.lie_math.specs.FiniteSumLaws.{ext, value-of, value-none, value-plus, value-term, list-of, plus_idl, plus_comm, none_of_is}
use Rattle.lie_math.specs.Monomial.{Monomial}
use Rattle.lie_math.specs.Polynomial.{WholePolynomial, terms, term, polynomial_of, 0ᴾ, ◌+ᴾ◌}
use Rattle.lie_math.specs.PolynomialRing.{polynomial_of-none}
use Rattle.lie_math.specs.Counts.{Derivative, derivative_cmp}
use Rattle.lie_math.specs.DerivativeOrder.{derivative_cmp_total, derivative_same}
use Rattle.lie_math.specs.LinearForm.{forms}
use Rattle.lie_math.specs.Limits.{absolutes}
use Rattle.lie_math.proofs.FiniteSum.{key}
use Rattle.lie_math.proofs.Limits.{term_is, absolutes-append}
use Rattle.lie_math.specs.FiniteSum.{IsCanonical}
use Rattle.lie_math.proofs.CanonicalLists.{canonical_cons, of-cons}
use Rattle.lie_systems.specs.Triples.{Triple, triples, triples_in, triples_with, sum_of_triples}
use Rattle.lie_systems.specs.Bulk.{absolute_triples}
use Rattle.lie_lin.specs.Forms.{terms_at, coefficient_at, gathered, unless_zero, kept, is_in}

-- the coefficient of a derivative in the sum
pub value-sum : (d : Derivative) (ts : List Triple) → finite.value forms (sum_of_triples ts) d ≡ coefficient_at d ts
value-sum d [] = value-none forms d ∙ sym polynomial_of-none
value-sum d (t ∷ ts) =
    value-plus forms (finite.term forms t.0 (term t.1 t.2)) (sum_of_triples ts) d
    ∙ ap₂ ◌+ᴾ◌ (value-term forms t.0 (term t.1 t.2) d) (value-sum d ts) ∙ go (eq_by_cmp derivative_cmp d t.0)
  where
    go : (b : Bool) → cond b (term t.1 t.2) 0ᴾ +ᴾ coefficient_at d ts ≡ polynomial_of (cond b ((t.1, t.2) ∷ terms_at d ts) (terms_at d ts))
    go true = ap (λ p. p +ᴾ coefficient_at d ts) (term_is t.1 t.2) ∙ sym (of-cons terms (t.1, t.2) (terms_at d ts))
    go false = plus_idl terms (coefficient_at d ts)

triples_in-kept : (es : List (Derivative × WholePolynomial)) → triples_in (kept es) ≡ triples_in es
triples_in-kept [] = refl
triples_in-kept (e ∷ es) = go e.1.list refl (triples_in-kept es)
  where
    go : (ts : List (Monomial × ℤ)) → e.1.list ≡ ts → triples_in (kept es) ≡ triples_in es → triples_in (cond (finite.list_is_empty e.1.list) (kept es) (e ∷ kept es)) ≡ triples_with e.0 e.1.list ++ triples_in es
    go [] is i = ap (λ xs. triples_in (cond (finite.list_is_empty xs) (kept es) (e ∷ kept es))) is ∙ i ∙ ap (λ xs. triples_with e.0 xs ++ triples_in es) (sym is)
    go (t ∷ ts) is i = ap (λ xs. triples_in (cond (finite.list_is_empty xs) (kept es) (e ∷ kept es))) is ∙ ap (λ us. triples_with e.0 e.1.list ++ us) i

below_kept : (d : Derivative) (ds : List Derivative) (ts : List Triple) → Every (λ e. derivative_cmp d e ≡ Less) ds → T (below_all derivative_cmp forms.values d (kept (gathered ds ts)))
below_kept d [] ts h = tt
below_kept d (e ∷ ds) ts h = go (finite.is_none terms (coefficient_at e ts)) (below_kept d ds ts h.1)
  where
    go : (b : Bool) → T (below_all derivative_cmp forms.values d (kept (gathered ds ts))) → T (below_all derivative_cmp forms.values d (cond b (kept (gathered ds ts)) ((e, coefficient_at e ts) ∷ kept (gathered ds ts))))
    go true i = i
    go false i = both _ (below_all derivative_cmp forms.values d (kept (gathered ds ts))) (subst (λ r. T (is_lt r)) (sym h.0) tt) i

pub canonical_kept : (ds : List Derivative) (ts : List Triple) → IsStrictlySortedBy derivative_cmp ds → IsCanonical forms (kept (gathered ds ts))
unfolding IsStrictlySortedBy
canonical_kept [] ts h = tt
canonical_kept (d ∷ ds) ts h = go (finite.is_none terms (coefficient_at d ts)) refl (canonical_kept ds ts h.1)
  where
    go : (b : Bool) → finite.is_none terms (coefficient_at d ts) ≡ b → IsCanonical forms (kept (gathered ds ts)) → IsCanonical forms (cond b (kept (gathered ds ts)) ((d, coefficient_at d ts) ∷ kept (gathered ds ts)))
    go true e i = i
    go false e i = canonical_cons forms (d, coefficient_at d ts) (kept (gathered ds ts)) (subst (λ t. T (not t)) (sym e) tt) (below_kept d ds ts h.0) i

-- no other derivative has triples
abbrev pub Covers : List Derivative → List Triple → Type 0
Covers ds ts = Every (λ (t : Triple). is_in ds t.0 ≡ true) ts

-- ---- the list of the sum
value-unless_zero : (q d : Derivative) (p : WholePolynomial) (es : List (Derivative × WholePolynomial)) → value_at derivative_cmp forms.values q (unless_zero d p es) ≡ cond (eq_by_cmp derivative_cmp q d) p 0ᴾ +ᴾ value_at derivative_cmp forms.values q es
value-unless_zero q d p es = go (finite.is_none terms p) refl
  where
    rest : WholePolynomial
    rest = value_at derivative_cmp forms.values q es

    nothing : (t : Bool) → 0ᴾ ≡ cond t 0ᴾ 0ᴾ
    nothing true = refl
    nothing false = refl

    go : (b : Bool) → finite.is_none terms p ≡ b → value_at derivative_cmp forms.values q (cond b es ((d, p) ∷ es)) ≡ cond (eq_by_cmp derivative_cmp q d) p 0ᴾ +ᴾ value_at derivative_cmp forms.values q es
    go true e =
        sym (plus_idl terms (value_at derivative_cmp forms.values q es))
        ∙ ap (λ x. x +ᴾ value_at derivative_cmp forms.values q es) (nothing (eq_by_cmp derivative_cmp q d) ∙ ap (λ x. cond (eq_by_cmp derivative_cmp q d) x 0ᴾ) (sym (none_of_is terms p e)))
    go false e = refl

value-kept : (q : Derivative) (ds : List Derivative) (ts : List Triple) → IsStrictlySortedBy derivative_cmp ds → value_at derivative_cmp forms.values q (kept (gathered ds ts)) ≡ cond (is_in ds q) (coefficient_at q ts) 0ᴾ
unfolding IsStrictlySortedBy
value-kept q [] ts h = refl
value-kept q (d ∷ ds) ts h = value-unless_zero q d (coefficient_at d ts) (kept (gathered ds ts)) ∙ go (eq_by_cmp derivative_cmp q d) refl (value-kept q ds ts h.1)
  where
    go : (b : Bool) → eq_by_cmp derivative_cmp q d ≡ b → value_at derivative_cmp forms.values q (kept (gathered ds ts)) ≡ cond (is_in ds q) (coefficient_at q ts) 0ᴾ
        → cond b (coefficient_at d ts) 0ᴾ +ᴾ value_at derivative_cmp forms.values q (kept (gathered ds ts)) ≡ cond (cond b true (is_in ds q)) (coefficient_at q ts) 0ᴾ
    go true e i =
        let s : q ≡ d = key forms q d e in
        ap (λ x. coefficient_at d ts +ᴾ x) (ap (λ x. value_at derivative_cmp forms.values x (kept (gathered ds ts))) s ∙ value_at-below derivative_cmp forms.values derivative_cmp_total derivative_same d (kept (gathered ds ts)) (below_kept d ds ts h.0))
        ∙ plus_comm terms (coefficient_at d ts) 0ᴾ ∙ plus_idl terms (coefficient_at d ts) ∙ ap (λ x. coefficient_at x ts) (sym s)
    go false e i = plus_idl terms (value_at derivative_cmp forms.values q (kept (gathered ds ts))) ∙ i

no_terms : (ds : List Derivative) (q : Derivative) (ts : List Triple) → is_in ds q ≡ false → Covers ds ts → terms_at q ts ≡ []
no_terms ds q [] n c = refl
no_terms ds q (t ∷ ts) n c = go (eq_by_cmp derivative_cmp q t.0) refl (no_terms ds q ts n c.1)
  where
    go : (b : Bool) → eq_by_cmp derivative_cmp q t.0 ≡ b → terms_at q ts ≡ [] → cond b ((t.1, t.2) ∷ terms_at q ts) (terms_at q ts) ≡ []
    go true e i = absurd (true≢false (sym c.0 ∙ ap (is_in ds) (sym (key forms q t.0 e)) ∙ n))
    go false e i = i

module _ (ds : List Derivative) (ts : List Triple) (sorted : IsStrictlySortedBy derivative_cmp ds) (covers : Covers ds ts) where
  at_all : (q : Derivative) → cond (is_in ds q) (coefficient_at q ts) 0ᴾ ≡ coefficient_at q ts
  at_all q = go (is_in ds q) refl
    where
      go : (b : Bool) → is_in ds q ≡ b → cond b (coefficient_at q ts) 0ᴾ ≡ coefficient_at q ts
      go true e = refl
      go false e = sym (ap polynomial_of (no_terms ds q ts e covers) ∙ polynomial_of-none)

  pub sum_is_kept : finite.of forms (kept (gathered ds ts)) ≡ sum_of_triples ts
  sum_is_kept = ext forms (finite.of forms (kept (gathered ds ts))) (sum_of_triples ts) (λ q. value-of forms (kept (gathered ds ts)) q ∙ value-kept q ds ts sorted ∙ at_all q ∙ sym (value-sum q ts))

  pub triples_gathered : triples (sum_of_triples ts) ≡ triples_in (gathered ds ts)
  triples_gathered = ap triples (sym sum_is_kept) ∙ ap triples_in (list-of forms (kept (gathered ds ts)) (canonical_kept ds ts sorted)) ∙ triples_in-kept (gathered ds ts)

-- ---- absolute values
pub terms_at-absolute : (d : Derivative) (ts : List Triple) → terms_at d (absolute_triples ts) ≡ absolutes (terms_at d ts)
terms_at-absolute d [] = refl
terms_at-absolute d (t ∷ ts) = go (eq_by_cmp derivative_cmp d t.0) (terms_at-absolute d ts)
  where
    go : (b : Bool) → terms_at d (absolute_triples ts) ≡ absolutes (terms_at d ts) → cond b ((t.1, pos (unsigned_abs t.2)) ∷ terms_at d (absolute_triples ts)) (terms_at d (absolute_triples ts)) ≡ absolutes (cond b ((t.1, t.2) ∷ terms_at d ts) (terms_at d ts))
    go true i = ap (λ es. (t.1, pos (unsigned_abs t.2)) ∷ es) i
    go false i = i

pub covers_absolute : (ds : List Derivative) (ts : List Triple) → Covers ds ts → Covers ds (absolute_triples ts)
covers_absolute ds [] c = tt
covers_absolute ds (t ∷ ts) c = (c.0, covers_absolute ds ts c.1)

-- ---- part by part
pub terms_at-append : (d : Derivative) (ts us : List Triple) → terms_at d (ts ++ us) ≡ terms_at d ts ++ terms_at d us
terms_at-append d [] us = refl
terms_at-append d (t ∷ ts) us = go (eq_by_cmp derivative_cmp d t.0) (terms_at-append d ts us)
  where
    go : (b : Bool) → terms_at d (ts ++ us) ≡ terms_at d ts ++ terms_at d us → cond b ((t.1, t.2) ∷ terms_at d (ts ++ us)) (terms_at d (ts ++ us)) ≡ cond b ((t.1, t.2) ∷ terms_at d ts) (terms_at d ts) ++ terms_at d us
    go true i = ap (λ es. (t.1, t.2) ∷ es) i
    go false i = i

pub absolutes_more : (es : List (Monomial × ℤ)) (i : ℕ) (e : Monomial × ℤ) → i < length es → e ≡ get_or es i e → absolutes (take (i + 1) es) ≡ absolutes (take i es) ++ (e.0, pos (unsigned_abs e.1)) ∷ []
absolutes_more es i e lt is =
    ap (λ n. absolutes (take n es)) (add-one i) ∙ ap absolutes (take-suc es i e lt ∙ ap (λ y. take i es ++ y ∷ []) (sym is)) ∙ absolutes-append (take i es) (e ∷ [])

pub gathered-append : (ds fs : List Derivative) (ts : List Triple) → gathered (ds ++ fs) ts ≡ gathered ds ts ++ gathered fs ts
gathered-append [] fs ts = refl
gathered-append (d ∷ ds) fs ts = ap (λ es. (d, coefficient_at d ts) ∷ es) (gathered-append ds fs ts)

pub kept-push : (es : List (Derivative × WholePolynomial)) (e : Derivative × WholePolynomial) → kept (es ++ e ∷ []) ≡ kept es ++ unless_zero e.0 e.1 []
kept-push [] e = refl
kept-push (x ∷ es) e = go (finite.is_none terms x.1) (kept-push es e)
  where
    go : (b : Bool) → kept (es ++ e ∷ []) ≡ kept es ++ unless_zero e.0 e.1 [] → cond b (kept (es ++ e ∷ [])) (x ∷ kept (es ++ e ∷ [])) ≡ cond b (kept es) (x ∷ kept es) ++ unless_zero e.0 e.1 []
    go true i = i
    go false i = ap (λ ys. x ∷ ys) i

-- ---- a coefficient by the number of its terms
pub unless_zero_none : (d : Derivative) (p : WholePolynomial) → length p.list ≡ 0 → unless_zero d p [] ≡ []
unless_zero_none d p e = go p.list e
  where
    go : (es : List (Monomial × ℤ)) → length es ≡ 0 → cond {A = List (Derivative × WholePolynomial)} (finite.list_is_empty es) [] ((d, p) ∷ []) ≡ []
    go [] e = refl
    go (x ∷ es) e = absurd (omega arith)

pub unless_zero_some : (d : Derivative) (p : WholePolynomial) → ¬ (length p.list ≡ 0) → unless_zero d p [] ≡ (d, p) ∷ []
unless_zero_some d p n = go p.list n
  where
    go : (es : List (Monomial × ℤ)) → ¬ (length es ≡ 0) → cond {A = List (Derivative × WholePolynomial)} (finite.list_is_empty es) [] ((d, p) ∷ []) ≡ (d, p) ∷ []
    go [] n = absurd (n refl)
    go (x ∷ es) n = refl
