-- Buckets that are filled one triple after the other.
use Rattle.std.specs.Prelude.{◌≡◌, ℕ, ◌+◌, ◌<◌, ◌≤◌, Bool, true, false, cond, List, [], ◌∷◌, ◌++◌, length, take, get_or, ℤ}
use Rattle.std.proofs.Common.{refl, sym, ap, subst, ◌∙◌, add-one, append_assoc, append-nil}
use Rattle.std.proofs.Math.Seq.{take-suc}
use Rattle.std.proofs.lemmas.List.{map-append}
use Rattle.std.specs.List.Sorted.{IsStrictlySortedBy}
use Rattle.std.specs.Ordering.{eq_by_cmp}
use Rattle.lie_math.specs.Counts.{Derivative}
use Rattle.lie_math.specs.Monomial.{Monomial, monomial_cmp}
use Rattle.lie_math.specs.Polynomial.{WholePolynomial}
use Rattle.lie_systems.specs.Triples.{Triple, triples_in, triples_with}
use Rattle.lie_jet.specs.declared.derivative.Der.{Der}
use Rattle.lie_jet.specs.Derivatives.{derivative_of}
use Rattle.lie_form.specs.DerivativeTerms.{derivative_terms}
use Rattle.lie_parts.specs.declared.buckets.Bucket.{Bucket}
use Rattle.lie_parts.specs.Parts.{monomials_of, bucket_at, triples_at, split_triple, split_triples, HaveMore, AreBucketsOf}
use Rattle.lie_form.proofs.FormParts.{triples_in-append}
use Rattle.lie_ring.proofs.Fronts.{all_taken}

triples_at-append : (μ : Monomial) (ss ts : List (Monomial × Triple)) → triples_at μ (ss ++ ts) ≡ triples_at μ ss ++ triples_at μ ts
triples_at-append μ [] ts = refl
triples_at-append μ (s ∷ ss) ts = go (eq_by_cmp monomial_cmp μ s.0) (triples_at-append μ ss ts)
  where
    go : (b : Bool) → triples_at μ (ss ++ ts) ≡ triples_at μ ss ++ triples_at μ ts → cond b (s.1 ∷ triples_at μ (ss ++ ts)) (triples_at μ (ss ++ ts)) ≡ cond b (s.1 ∷ triples_at μ ss) (triples_at μ ss) ++ triples_at μ ts
    go true i = ap (λ us. s.1 ∷ us) i
    go false i = i

pub more_none : (bs : List Bucket) → IsStrictlySortedBy monomial_cmp (monomials_of bs) → HaveMore [] bs bs
more_none bs s = record { ordered = s; same = λ μ. sym (append-nil _) }

pub nothing_sorted : IsStrictlySortedBy monomial_cmp []
unfolding IsStrictlySortedBy
nothing_sorted = tt

more_append : (ss ts : List (Monomial × Triple)) (os bs cs : List Bucket) → HaveMore ss os bs → HaveMore ts bs cs → HaveMore (ss ++ ts) os cs
more_append ss ts os bs cs h k = record {
  ordered = k.ordered;
  same = λ μ. k.same μ ∙ ap (λ us. us ++ triples_at μ ts) (h.same μ) ∙ append_assoc (bucket_at μ os) (triples_at μ ss) (triples_at μ ts) ∙ ap (λ us. bucket_at μ os ++ us) (sym (triples_at-append μ ss ts));
}

module _ (A : ℕ → Bool) where
  more_triples : (ts us vs : List Triple) (os bs cs : List Bucket) → ts ++ us ≡ vs → HaveMore (split_triples A ts) os bs → HaveMore (split_triples A us) bs cs → HaveMore (split_triples A vs) os cs
  more_triples ts us vs os bs cs e h k =
      subst (λ ss. HaveMore ss os cs) (sym (map-append (split_triple A) ts us) ∙ ap (split_triples A) e) (more_append (split_triples A ts) (split_triples A us) os bs cs h k)

  with_more : (d : Derivative) (xs ys : List (Monomial × ℤ)) → triples_with d (xs ++ ys) ≡ triples_with d xs ++ triples_with d ys
  with_more d [] ys = refl
  with_more d (x ∷ xs) ys = ap (λ ts. (d, x.0, x.1) ∷ ts) (with_more d xs ys)

  -- one more term of a derivative
  pub term_more : (d : Derivative) (es : List (Monomial × ℤ)) (i : ℕ) (e : Monomial × ℤ) (os bs cs : List Bucket) → i < length es → e ≡ get_or es i e → HaveMore (split_triples A (triples_with d (take i es))) os bs → HaveMore (split_triple A (d, e.0, e.1) ∷ []) bs cs
      → HaveMore (split_triples A (triples_with d (take (i + 1) es))) os cs
  term_more d es i e os bs cs lt is h k =
      more_triples (triples_with d (take i es)) ((d, e.0, e.1) ∷ []) (triples_with d (take (i + 1) es)) os bs cs
      (sym (ap (λ n. triples_with d (take n es)) (add-one i) ∙ ap (triples_with d) (take-suc es i e lt ∙ ap (λ y. take i es ++ y ∷ []) (sym is)) ∙ with_more d (take i es) (e ∷ []))) h k

  -- all terms
  pub terms_all : (d : Derivative) (es ps : List (Monomial × ℤ)) (i : ℕ) (os bs : List Bucket) → length es ≤ i → es ≡ ps → HaveMore (split_triples A (triples_with d (take i es))) os bs → HaveMore (split_triples A (triples_with d ps)) os bs
  terms_all d es ps i os bs le e h = subst (λ xs. HaveMore (split_triples A (triples_with d xs)) os bs) (all_taken es i le ∙ e) h

  -- one more derivative
  pub derivative_more : (es : List (Der × WholePolynomial)) (i : ℕ) (e : Der × WholePolynomial) (os bs cs : List Bucket) → i < length es → e ≡ get_or es i e → HaveMore (split_triples A (triples_in (derivative_terms (take i es)))) os bs → HaveMore (split_triples A (triples_with (derivative_of e.0) e.1.list)) bs cs
      → HaveMore (split_triples A (triples_in (derivative_terms (take (i + 1) es)))) os cs
  derivative_more es i e os bs cs lt is h k =
      more_triples (triples_in (derivative_terms (take i es))) (triples_with (derivative_of e.0) e.1.list) (triples_in (derivative_terms (take (i + 1) es))) os bs cs
      (sym (ap (λ n. triples_in (derivative_terms (take n es))) (add-one i)
      ∙ ap (λ xs. triples_in (derivative_terms xs)) (take-suc es i e lt ∙ ap (λ y. take i es ++ y ∷ []) (sym is))
      ∙ ap triples_in (map-append (λ (t : Der × WholePolynomial). (derivative_of t.0, t.1)) (take i es) (e ∷ []))
      ∙ triples_in-append (derivative_terms (take i es)) ((derivative_of e.0, e.1) ∷ [])
      ∙ ap (λ ts. triples_in (derivative_terms (take i es)) ++ ts) (append-nil (triples_with (derivative_of e.0) e.1.list)))) h k

  pub buckets_are : (es : List (Der × WholePolynomial)) (i : ℕ) (bs : List Bucket) → length es ≤ i → HaveMore (split_triples A (triples_in (derivative_terms (take i es)))) [] bs → AreBucketsOf (split_triples A (triples_in (derivative_terms es))) bs
  buckets_are es i bs le h = record { ordered = h.ordered; same = λ μ. h.same μ ∙ ap (λ xs. triples_at μ (split_triples A (triples_in (derivative_terms xs)))) (all_taken es i le) }
