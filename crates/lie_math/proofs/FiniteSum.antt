-- Finite sums: induction over the terms, and the values after a replacement.
use Rattle.std.specs.Prelude.{◌≡◌, Bool, true, false, cond, not, ◌&&◌, T, List, [], ◌∷◌, filter}
use Rattle.std.proofs.Common.{refl, sym, ap, ap₂, true≢false, subst, ◌∙◌, Ordering, Less, Equal, Greater, is_eq}
use Rattle.std.specs.List.{AllByRecursion as Every}
use Rattle.std.specs.Ordering.{eq_by_cmp}
use Rattle.lie_math.specs.Monoid.{Adder}
use Rattle.lie_math.specs.SortedSum.{sum_of_entries, value_at, delta, below_all, is_canonical}
use Rattle.lie_math.specs.Canonical.{idr, value_at-head, value_at-tail, first, second}
use Rattle.lie_math.specs.FiniteSum.{FiniteSum, Shape, none, plus, put, term, value}
use Rattle.lie_math.specs.FiniteSumLaws.{adder, sum_of_terms, value-of}

pub sum_of_entries-same : {K A B : Type 0} (N : Adder B) (φ ψ : K → A → B) (es : List (K × A)) → Every (λ (e : K × A). φ e.0 e.1 ≡ ψ e.0 e.1) es → sum_of_entries N φ es ≡ sum_of_entries N ψ es
sum_of_entries-same N φ ψ [] h = refl
sum_of_entries-same N φ ψ (e ∷ es) h = ap₂ N.plus h.0 (sum_of_entries-same N φ ψ es h.1)

module _ {K A : Type 0} (S : Shape K A) where
  pub induct : (P : FiniteSum S → Type 0) → P (none S) → ((k : K) (a : A) (p : FiniteSum S) → P p → P (plus S (term S k a) p)) → (p : FiniteSum S) → P p
  induct P base step p = subst P (sum_of_terms S p) (go p.list)
    where
      go : (es : List (K × A)) → P (sum_of_entries (adder S) (term S) es)
      go [] = base
      go (e ∷ es) = step e.0 e.1 (sum_of_entries (adder S) (term S) es) (go es)

  tied : (r : Ordering) → is_eq r ≡ true → r ≡ Equal
  tied Less e = absurd (true≢false (sym e))
  tied Equal e = refl
  tied Greater e = absurd (true≢false (sym e))

  -- a test of two keys, where it is true
  pub key : (j k : K) → eq_by_cmp S.order j k ≡ true → j ≡ k
  key j k e = S.same j k (tied (S.order j k) e)

  abbrev without : K → List (K × A) → List (K × A)
  without k es = filter (λ e. not (eq_by_cmp S.order k e.0)) es

  value_at-without : (k q : K) (es : List (K × A)) → value_at S.order S.values q (without k es) ≡ cond (eq_by_cmp S.order q k) S.values.adder.nil (value_at S.order S.values q es)
  value_at-without k q [] = elim (eq_by_cmp S.order q k) as (λ u. S.values.adder.nil ≡ cond u S.values.adder.nil S.values.adder.nil) [ true ↦ refl | false ↦ refl ]
  value_at-without k q (e ∷ es) = at (eq_by_cmp S.order k e.0) (eq_by_cmp S.order q k) (eq_by_cmp S.order q e.0) refl refl refl (value_at-without k q es)
    where
      X : A
      X = value_at S.order S.values q es

      at : (t u s : Bool) → eq_by_cmp S.order k e.0 ≡ t → eq_by_cmp S.order q k ≡ u → eq_by_cmp S.order q e.0 ≡ s → value_at S.order S.values q (without k es) ≡ cond (eq_by_cmp S.order q k) S.values.adder.nil X
          → value_at S.order S.values q (cond (not t) (e ∷ without k es) (without k es)) ≡ cond u S.values.adder.nil (S.values.adder.plus (cond s e.1 S.values.adder.nil) X)
      at true true s f g h ih = ih ∙ ap (λ x. cond x S.values.adder.nil X) g
      at true false true f g h ih = absurd (true≢false (sym (ap (λ x. eq_by_cmp S.order q x) (key k e.0 f) ∙ h) ∙ g))
      at true false false f g h ih = ih ∙ ap (λ x. cond x S.values.adder.nil X) g ∙ sym (S.values.adder.idl X)
      at false true true f g h ih = absurd (true≢false (sym h ∙ ap (λ x. eq_by_cmp S.order x e.0) (key q k g) ∙ f))
      at false true false f g h ih = ap₂ (λ x y. S.values.adder.plus (cond x e.1 S.values.adder.nil) y) h (ih ∙ ap (λ x. cond x S.values.adder.nil X) g) ∙ S.values.adder.idl S.values.adder.nil
      at false false s f g h ih = ap₂ (λ x y. S.values.adder.plus (cond x e.1 S.values.adder.nil) y) h (ih ∙ ap (λ x. cond x S.values.adder.nil X) g)

  joined : (t : Bool) (a b : A) → S.values.adder.plus (cond t a S.values.adder.nil) (cond t S.values.adder.nil b) ≡ cond t a b
  joined true a b = idr S.values.adder a
  joined false a b = S.values.adder.idl b

  pub value-put : (k : K) (a : A) (p : FiniteSum S) (q : K) → value S (put S k a p) q ≡ cond (eq_by_cmp S.order q k) a (value S p q)
  unfolding put
  value-put k a p q =
      value-of S ((k, a) ∷ without k p.list) q ∙ ap (λ z. S.values.adder.plus (delta S.order S.values q k a) z) (value_at-without k q p.list)
      ∙ joined (eq_by_cmp S.order q k) a (value S p q)

  abbrev Kept : List (K × A) → K × A → Type 0
  Kept es e = (value_at S.order S.values e.0 es ≡ e.1) × ¬ (e.1 ≡ S.values.adder.nil)

  all_kept : (es : List (K × A)) → T (is_canonical S.order S.values es) → Every (Kept es) es
  all_kept [] c = tt
  all_kept (e ∷ es) c =
      let tail : T (below_all S.order S.values e.0 es && is_canonical S.order S.values es) = second (not (S.values.is_nil e.1)) _ c in
      let below : T (below_all S.order S.values e.0 es) = first _ (is_canonical S.order S.values es) tail in (
        (value_at-head S.order S.values S.total S.same e es below, not_nil e.1 (first (not (S.values.is_nil e.1)) _ c)),
        later below es (all_kept es (second (below_all S.order S.values e.0 es) _ tail)),
      )
    where
      not_nil : (a : A) → T (not (S.values.is_nil a)) → ¬ (a ≡ S.values.adder.nil)
      not_nil a t n = subst (λ b. T (not b)) (ap S.values.is_nil n ∙ S.values.is_nil_nil) t

      one : T (below_all S.order S.values e.0 es) → (x : K × A) → Kept es x → (t : Bool) → eq_by_cmp S.order x.0 e.0 ≡ t → value_at S.order S.values x.0 (e ∷ es) ≡ x.1
      one b x k true f = absurd (k.1 (sym k.0 ∙ value_at-tail S.order S.values S.total S.same x.0 e es b ∙ ap (λ t. cond t S.values.adder.nil (value_at S.order S.values x.0 (e ∷ es))) f))
      one b x k false f = sym (value_at-tail S.order S.values S.total S.same x.0 e es b ∙ ap (λ t. cond t S.values.adder.nil (value_at S.order S.values x.0 (e ∷ es))) f) ∙ k.0

      later : T (below_all S.order S.values e.0 es) → (fs : List (K × A)) → Every (Kept es) fs → Every (Kept (e ∷ es)) fs
      later b [] h = tt
      later b (x ∷ fs) h = ((one b x h.0 (eq_by_cmp S.order x.0 e.0) refl, (h.0).1), later b fs h.1)

  -- what follows from an entry's being the value at its key, and not nil, holds of each entry
  pub entries_of : (p : FiniteSum S) (P : K × A → Type 0) → ((e : K × A) → value S p e.0 ≡ e.1 → ¬ (e.1 ≡ S.values.adder.nil) → P e) → Every P p.list
  entries_of p P f = go p.list (all_kept p.list p.canonical)
    where
      go : (es : List (K × A)) → Every (Kept p.list) es → Every P es
      go [] h = tt
      go (e ∷ es) h = (f e (h.0).0 (h.0).1, go es h.1)
