-- Canonical lists: their parts, what may be put, replaced and left out, and their sums.
use Rattle.std.specs.Prelude.{◌≡◌, Bool, true, false, cond, not, ◌&&◌, T, List, [], ◌∷◌, ◌++◌}
use Rattle.std.proofs.Common.{refl, sym, ap, ap₂, subst, ◌∙◌, Less, is_lt}
use Rattle.std.specs.List.{AllByRecursion as Every}
use Rattle.std.specs.Ordering.{eq_by_cmp}
use Rattle.lie_math.proofs.FiniteSum.{key}
use Rattle.lie_math.proofs.Rising.{is_less}
use Rattle.lie_math.specs.FiniteSum.{Shape, IsCanonical, of, plus}
use Rattle.lie_math.specs.FiniteSumLaws.{value-of, value-plus}
use Rattle.lie_math.specs.SortedSum.{below_all, delta, is_canonical, value_at}
use Rattle.lie_math.specs.Canonical.{below_less, both, first, second, sum_of_entries-append, value_at-head}
use Rattle.lie_math.specs.FiniteSumLaws as finite_laws

module _ {K A : Type 0} (S : Shape K A) where
  abbrev Below : K → List (K × A) → Type 0
  Below x es = T (below_all S.order S.values x es)

  below_front : (x : K) (es fs : List (K × A)) → Below x (es ++ fs) → Below x es
  below_front x [] fs h = tt
  below_front x (e ∷ es) fs h = both _ (below_all S.order S.values x es) (first _ (below_all S.order S.values x (es ++ fs)) h) (below_front x es fs (second (is_lt (S.order x e.0)) _ h))

  below_back : (x : K) (es fs : List (K × A)) → Below x (es ++ fs) → Below x fs
  below_back x [] fs h = h
  below_back x (e ∷ es) fs h = below_back x es fs (second (is_lt (S.order x e.0)) _ h)

  below_both : (x : K) (es fs : List (K × A)) → Below x es → Below x fs → Below x (es ++ fs)
  below_both x [] fs h k = k
  below_both x (e ∷ es) fs h k = both _ (below_all S.order S.values x (es ++ fs)) (first _ (below_all S.order S.values x es) h) (below_both x es fs (second (is_lt (S.order x e.0)) _ h) k)

  -- the parts of a canonical list
  pub canonical_value : (e : K × A) (es : List (K × A)) → IsCanonical S (e ∷ es) → T (not (S.values.is_nil e.1))
  canonical_value e es h = first _ (below_all S.order S.values e.0 es && is_canonical S.order S.values es) h

  pub canonical_below : (e : K × A) (es : List (K × A)) → IsCanonical S (e ∷ es) → Below e.0 es
  canonical_below e es h =
      let tail : T (below_all S.order S.values e.0 es && is_canonical S.order S.values es) = second (not (S.values.is_nil e.1)) _ h in
      first _ (is_canonical S.order S.values es) tail

  pub canonical_tail : (e : K × A) (es : List (K × A)) → IsCanonical S (e ∷ es) → IsCanonical S es
  canonical_tail e es h =
      let tail : T (below_all S.order S.values e.0 es && is_canonical S.order S.values es) = second (not (S.values.is_nil e.1)) _ h in
      second (below_all S.order S.values e.0 es) _ tail

  pub canonical_cons : (e : K × A) (es : List (K × A)) → T (not (S.values.is_nil e.1)) → Below e.0 es → IsCanonical S es → IsCanonical S (e ∷ es)
  canonical_cons e es v b h = both _ (below_all S.order S.values e.0 es && is_canonical S.order S.values es) v (both _ (is_canonical S.order S.values es) b h)

  pub canonical_back : (es fs : List (K × A)) → IsCanonical S (es ++ fs) → IsCanonical S fs
  canonical_back [] fs h = h
  canonical_back (e ∷ es) fs h = canonical_back es fs (canonical_tail e (es ++ fs) h)

  pub canonical_front : (es fs : List (K × A)) → IsCanonical S (es ++ fs) → IsCanonical S es
  canonical_front [] fs h = tt
  canonical_front (e ∷ es) fs h = canonical_cons e es (canonical_value e (es ++ fs) h) (below_front e.0 es fs (canonical_below e (es ++ fs) h)) (canonical_front es fs (canonical_tail e (es ++ fs) h))

  -- a value that is not none is that of an entry, and has what all entries have
  pub value_has : (Q : K × A → Type 0) (k : K) (es : List (K × A)) → IsCanonical S es → Every Q es → ¬ (value_at S.order S.values k es ≡ S.values.adder.nil) → Q (k, value_at S.order S.values k es)
  value_has Q k [] c h n = absurd (n refl)
  value_has Q k (e ∷ es) c h n = go (eq_by_cmp S.order k e.0) refl (value_has Q k es (canonical_tail e es c) h.1)
    where
      go : (t : Bool) → eq_by_cmp S.order k e.0 ≡ t → (¬ (value_at S.order S.values k es ≡ S.values.adder.nil) → Q (k, value_at S.order S.values k es)) → Q (k, value_at S.order S.values k (e ∷ es))
      go true f rest =
          let s : k ≡ e.0 = key S k e.0 f in
          let v : value_at S.order S.values k (e ∷ es) ≡ e.1 = ap (λ j. value_at S.order S.values j (e ∷ es)) s ∙ value_at-head S.order S.values S.total S.same e es (canonical_below e es c) in
          subst Q (sym (λ i. (s i, v i))) h.0
      go false f rest =
          let v : value_at S.order S.values k (e ∷ es) ≡ value_at S.order S.values k es = ap (λ t. S.values.adder.plus (cond t e.1 S.values.adder.nil) (value_at S.order S.values k es)) f ∙ S.values.adder.idl (value_at S.order S.values k es) in
          subst (λ a. Q (k, a)) (sym v) (rest (λ z. n (v ∙ z)))

  -- what stands after a list may be changed for what stands after a greater key
  pub canonical_join : (out : List (K × A)) (x y : K × A) (xs ys : List (K × A)) → IsCanonical S (out ++ x ∷ xs) → IsCanonical S (y ∷ ys) → S.order x.0 y.0 ≡ Less → IsCanonical S ((out ++ x ∷ []) ++ y ∷ ys)
  canonical_join [] x y xs ys h k p =
      canonical_cons x (y ∷ ys) (canonical_value x xs h) (both _ (below_all S.order S.values x.0 ys) (subst (λ r. T (is_lt r)) (sym p) tt) (below_less S.order S.values S.total S.same x.0 y.0 ys p (canonical_below y ys k))) k
  canonical_join (e ∷ out) x y xs ys h k p =
      let b : Below e.0 (out ++ x ∷ xs) = canonical_below e (out ++ x ∷ xs) h in
      let bx : Below e.0 (x ∷ xs) = below_back e.0 out (x ∷ xs) b in
      let ex : S.order e.0 x.0 ≡ Less = is_less (S.order e.0 x.0) (first _ (below_all S.order S.values e.0 xs) bx) in
      let ey : S.order e.0 y.0 ≡ Less = S.total.trans e.0 x.0 y.0 ex p in
      canonical_cons e ((out ++ x ∷ []) ++ y ∷ ys) (canonical_value e (out ++ x ∷ xs) h)
      (below_both e.0 (out ++ x ∷ []) (y ∷ ys) (below_both e.0 out (x ∷ []) (below_front e.0 out (x ∷ xs) b) (both _ true (subst (λ r. T (is_lt r)) (sym ex) tt) tt))
      (both _ (below_all S.order S.values e.0 ys) (subst (λ r. T (is_lt r)) (sym ey) tt) (below_less S.order S.values S.total S.same e.0 y.0 ys ey (canonical_below y ys k))))
      (canonical_join out x y xs ys (canonical_tail e (out ++ x ∷ xs) h) k p)

  pub canonical_replace : (out : List (K × A)) (x z : K × A) (xs : List (K × A)) → IsCanonical S (out ++ x ∷ xs) → z.0 ≡ x.0 → T (not (S.values.is_nil z.1)) → IsCanonical S (out ++ z ∷ xs)
  canonical_replace [] x z xs h e v = canonical_cons z xs v (subst (λ k. Below k xs) (sym e) (canonical_below x xs h)) (canonical_tail x xs h)
  canonical_replace (o ∷ out) x z xs h e v =
      let b : Below o.0 (out ++ x ∷ xs) = canonical_below o (out ++ x ∷ xs) h in
      let bx : Below o.0 (x ∷ xs) = below_back o.0 out (x ∷ xs) b in
      canonical_cons o (out ++ z ∷ xs) (canonical_value o (out ++ x ∷ xs) h)
      (below_both o.0 out (z ∷ xs) (below_front o.0 out (x ∷ xs) b) (both _ (below_all S.order S.values o.0 xs) (subst (λ k. T (is_lt (S.order o.0 k))) (sym e) (first _ (below_all S.order S.values o.0 xs) bx)) (second (is_lt (S.order o.0 x.0)) _ bx)))
      (canonical_replace out x z xs (canonical_tail o (out ++ x ∷ xs) h) e v)

  pub canonical_remove : (out : List (K × A)) (x : K × A) (xs : List (K × A)) → IsCanonical S (out ++ x ∷ xs) → IsCanonical S (out ++ xs)
  canonical_remove [] x xs h = canonical_tail x xs h
  canonical_remove (o ∷ out) x xs h =
      let b : Below o.0 (out ++ x ∷ xs) = canonical_below o (out ++ x ∷ xs) h in
      canonical_cons o (out ++ xs) (canonical_value o (out ++ x ∷ xs) h)
      (below_both o.0 out xs (below_front o.0 out (x ∷ xs) b) (second (is_lt (S.order o.0 x.0)) _ (below_back o.0 out (x ∷ xs) b)))
      (canonical_remove out x xs (canonical_tail o (out ++ x ∷ xs) h))

  pub of-append : (es fs : List (K × A)) → of S (es ++ fs) ≡ plus S (of S es) (of S fs)
  of-append es fs = finite_laws.ext S (of S (es ++ fs)) (plus S (of S es) (of S fs)) (λ k.
      value-of S (es ++ fs) k ∙ sum_of_entries-append S.values.adder (delta S.order S.values k) es fs
      ∙ ap₂ S.values.adder.plus (sym (value-of S es k)) (sym (value-of S fs k)) ∙ sym (value-plus S (of S es) (of S fs) k))

  pub of-cons : (e : K × A) (es : List (K × A)) → of S (e ∷ es) ≡ plus S (of S (e ∷ [])) (of S es)
  of-cons e es = of-append (e ∷ []) es
