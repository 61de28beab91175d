-- Well-formedness of sorted sums: adding keeps a list canonical, sums over entries do not see the order of adding, and a canonical list
-- is told by its values.
use Rattle.std.specs.Prelude.{◌≡◌, Bool, true, false, cond, not, ◌&&◌, T, List, [], ◌∷◌, ◌++◌}
use Rattle.std.proofs.Common.{refl, sym, ap, ap₂, subst, ◌∙◌, Ordering, Less, Equal, Greater, is_lt, is_eq}
use Rattle.std.specs.Ordering.{eq_by_cmp, ordering_reverse}
use Rattle.std.specs.Cmp.{IsTotalOrder, tied_itself}
use Rattle.std.specs.FinMap.{IsAntisymmetric}
use Rattle.std.specs.FinMap.Entries.{by_order}
use Rattle.lie_math.specs.Monoid.{Adder, Values}
use Rattle.lie_math.specs.SortedSum.{add_at, below_all, delta, is_canonical, normal, put_new, sum_of_entries, value_at}

-- φ k is a homomorphism for each k
pub record Additive {K A B : Type 0} (M : Adder A) (N : Adder B) (φ : K → A → B) : Type 0 where
  pub on_nil : (k : K) → φ k M.nil ≡ N.nil
  pub on_plus : (k : K) (a b : A) → φ k (M.plus a b) ≡ N.plus (φ k a) (φ k b)

module _ {A : Type 0} (M : Adder A) where
  pub idr : (a : A) → M.plus a M.nil ≡ a
  idr a = M.comm a M.nil ∙ M.idl a

  pub left_comm : (a b c : A) → M.plus a (M.plus b c) ≡ M.plus b (M.plus a c)
  left_comm a b c = sym (M.assoc a b c) ∙ ap (λ x. M.plus x c) (M.comm a b) ∙ M.assoc b a c

  pub middle : (a b c d : A) → M.plus (M.plus a b) (M.plus c d) ≡ M.plus (M.plus a c) (M.plus b d)
  middle a b c d = M.assoc a b (M.plus c d) ∙ ap (M.plus a) (left_comm b c d) ∙ sym (M.assoc a c (M.plus b d))

pub both : (a b : Bool) → T a → T b → T (a && b)
both true b p q = q
both false b p q = p

pub first : (a b : Bool) → T (a && b) → T a
first true b p = tt
first false b p = p

pub second : (a b : Bool) → T (a && b) → T b
second true b p = p
second false b p = absurd p

module _ {K A B : Type 0} (N : Adder B) where
  pub sum_of_entries-append : (φ : K → A → B) (es fs : List (K × A))
      → sum_of_entries N φ (es ++ fs) ≡ N.plus (sum_of_entries N φ es) (sum_of_entries N φ fs)
  sum_of_entries-append φ [] fs = sym (N.idl _)
  sum_of_entries-append φ (e ∷ es) fs = ap (N.plus (φ e.0 e.1)) (sum_of_entries-append φ es fs) ∙ sym (N.assoc _ _ _)

  pub sum_of_entries-plus : (φ ψ : K → A → B) (es : List (K × A))
      → sum_of_entries N (λ k a. N.plus (φ k a) (ψ k a)) es ≡ N.plus (sum_of_entries N φ es) (sum_of_entries N ψ es)
  sum_of_entries-plus φ ψ [] = sym (N.idl _)
  sum_of_entries-plus φ ψ (e ∷ es) = ap (N.plus _) (sum_of_entries-plus φ ψ es) ∙ middle N _ _ _ _

  pub sum_of_entries-nil : (es : List (K × A)) → sum_of_entries N (λ k a. N.nil) es ≡ N.nil
  sum_of_entries-nil [] = refl
  sum_of_entries-nil (e ∷ es) = N.idl _ ∙ sum_of_entries-nil es

  pub sum_of_entries-map : {C : Type 0} (P : Adder C) (h : B → C) → h N.nil ≡ P.nil → ((x y : B) → h (N.plus x y) ≡ P.plus (h x) (h y))
      → (φ : K → A → B) (es : List (K × A)) → h (sum_of_entries N φ es) ≡ sum_of_entries P (λ k a. h (φ k a)) es
  sum_of_entries-map P h h0 h2 φ [] = h0
  sum_of_entries-map P h h0 h2 φ (e ∷ es) = h2 _ _ ∙ ap (P.plus _) (sum_of_entries-map P h h0 h2 φ es)

-- the order of two sums does not matter
pub sum_of_entries-swap : {K A L C B : Type 0} (N : Adder B) (F : K → A → L → C → B) (es : List (K × A)) (fs : List (L × C))
    → sum_of_entries N (λ k a. sum_of_entries N (λ l b. F k a l b) fs) es ≡ sum_of_entries N
    (λ l b. sum_of_entries N (λ k a. F k a l b) es) fs
sum_of_entries-swap N F [] fs = sym (sum_of_entries-nil N fs)
sum_of_entries-swap N F (e ∷ es) fs = ap (N.plus _) (sum_of_entries-swap N F es fs)
    ∙ sym (sum_of_entries-plus N (λ l b. F e.0 e.1 l b) (λ l b. sum_of_entries N (λ k a. F k a l b) es) fs)

module _ {K A : Type 0} (R : K → K → Ordering) (V : Values A) (o : IsTotalOrder R) (same : IsAntisymmetric R) where
  pub below_less : (x y : K) (es : List (K × A)) → R x y ≡ Less → T (below_all R V y es) → T (below_all R V x es)
  below_less x y [] p h = tt
  below_less x y (e ∷ es) p h = both _ _ (subst (λ r. T (is_lt r)) (sym (o.trans x y e.0 p (less _ (first _ _ h)))) tt)
      (below_less x y es p (second _ _ h))
    where
      less : (r : Ordering) → T (is_lt r) → r ≡ Less
      less Less h = refl
      less Equal h = absurd h
      less Greater h = absurd h

  pub below-put_new : (x k : K) (a : A) (es : List (K × A)) → R x k ≡ Less → T (below_all R V x es)
      → T (below_all R V x (put_new R V k a es))
  below-put_new x k a es p h = elim (V.is_nil a) as (λ b. T (below_all R V x (cond b es ((
    k,
    a,
  ) ∷ es)))) [ true ↦ h | false ↦ both _ _ (subst (λ r. T (is_lt r)) (sym p) tt) h ]

  -- what is made where a is added at k to e ∷ es, by the order of k and the key of e
  abbrev added_by : Ordering → K → A → K × A → List (K × A) → List (K × A)
  added_by r k a e es = by_order r (put_new R V k a (e ∷ es)) (put_new R V k (V.adder.plus a e.1) es) (e ∷ add_at R V k a es)

  pub below-add_at : (x k : K) (a : A) (es : List (K × A)) → R x k ≡ Less → T (below_all R V x es) → T (below_all R V x (add_at R V k a es))
  below-add_at x k a [] p h = below-put_new x k a [] p h
  below-add_at x k a (e ∷ es) p h =
      elim (R k e.0) as (λ r. T (below_all R V x (added_by r k a e es))) [
        | Less ↦ below-put_new x k a (e ∷ es) p h
        | Equal ↦ below-put_new x k _ es p (second _ _ h)
        | Greater ↦ both _ _ (first _ _ h) (below-add_at x k a es p (second _ _ h))
      ]

  canonical-put_new : (k : K) (a : A) (es : List (K × A)) → T (below_all R V k es) → T (is_canonical R V es)
      → T (is_canonical R V (put_new R V k a es))
  canonical-put_new k a es b h =
      elim (V.is_nil a) as (λ t. V.is_nil a ≡ t → T (is_canonical R V (cond t es ((k, a) ∷ es)))) [
        | true ↦ λ _. h
        | false ↦ λ e. both _ _ (subst (λ t. T (not t)) (sym e) tt) (both _ _ b h)
      ] refl

  pub canonical-add_at : (k : K) (a : A) (es : List (K × A)) → T (is_canonical R V es) → T (is_canonical R V (add_at R V k a es))
  canonical-add_at k a [] h = canonical-put_new k a [] tt tt
  canonical-add_at k a (e ∷ es) h =
      let tail : T (below_all R V e.0 es && is_canonical R V es) = second (not (V.is_nil e.1)) _ h in
      let is_below : T (below_all R V e.0 es) = first _ (is_canonical R V es) tail in
      let rest : T (is_canonical R V es) = second (below_all R V e.0 es) _ tail in
      elim (R k e.0) as (λ r. R k e.0 ≡ r → T (is_canonical R V (added_by r k a e es))) [
        | Less ↦ λ p. canonical-put_new k a (e ∷ es) (both _ _ (subst (λ r. T (is_lt r)) (sym p) tt) (below_less k e.0 es p is_below)) h
        | Equal ↦ λ p. canonical-put_new k _ es (subst (λ x. T (below_all R V x es)) (sym (same k e.0 p)) is_below) rest
        | Greater ↦ λ p. both _ _ (first _ _ h) (both _ _ (below-add_at e.0 k a es (o.antisymm e.0 k
            ∙ ap ordering_reverse p) is_below) (canonical-add_at k a es rest))
      ] refl

  pub canonical-normal : (es : List (K × A)) → T (is_canonical R V (normal R V es))
  canonical-normal [] = tt
  canonical-normal (e ∷ es) = canonical-add_at e.0 e.1 (normal R V es) (canonical-normal es)

  module _ {B : Type 0} (N : Adder B) (φ : K → A → B) (add : Additive V.adder N φ) where
    sum_of_entries-put_new : (k : K) (a : A) (es : List (K × A))
        → sum_of_entries N φ (put_new R V k a es) ≡ N.plus (φ k a) (sum_of_entries N φ es)
    sum_of_entries-put_new k a es =
        elim (V.is_nil a) as (λ t. V.is_nil a ≡ t → sum_of_entries N φ (cond t es ((k, a) ∷ es)) ≡ N.plus (φ k a) (sum_of_entries N φ es)) [
          | true ↦ λ e. sym (ap (λ x. N.plus x (sum_of_entries N φ es)) (ap (φ k) (V.nil_of_is a e) ∙ add.on_nil k) ∙ N.idl _)
          | false ↦ λ e. refl
        ] refl

    pub sum_of_entries-add_at : (k : K) (a : A) (es : List (K × A))
        → sum_of_entries N φ (add_at R V k a es) ≡ N.plus (φ k a) (sum_of_entries N φ es)
    sum_of_entries-add_at k a [] = sum_of_entries-put_new k a []
    sum_of_entries-add_at k a (e ∷ es) =
        elim (R k e.0) as (λ r. R k e.0 ≡ r → sum_of_entries N φ
        (by_order r (put_new R V k a (e ∷ es)) (put_new R V k (V.adder.plus a e.1) es) (e ∷ add_at R V k a es)) ≡ N.plus (φ k a)
        (N.plus (φ e.0 e.1) (sum_of_entries N φ es))) [
          | Less ↦ λ p. sum_of_entries-put_new k a (e ∷ es)
          | Equal ↦ λ p. sum_of_entries-put_new k _ es ∙ ap (λ x. N.plus x (sum_of_entries N φ es))
              (add.on_plus k a e.1 ∙ ap (λ x. N.plus (φ k a) (φ x e.1)) (same k e.0 p)) ∙ N.assoc _ _ _
          | Greater ↦ λ p. ap (N.plus _) (sum_of_entries-add_at k a es) ∙ left_comm N _ _ _
        ] refl

    pub sum_of_entries-normal : (es : List (K × A)) → sum_of_entries N φ (normal R V es) ≡ sum_of_entries N φ es
    sum_of_entries-normal [] = refl
    sum_of_entries-normal (e ∷ es) = sum_of_entries-add_at e.0 e.1 (normal R V es) ∙ ap (N.plus _) (sum_of_entries-normal es)

  -- two canonical lists with the same values are the same list
  pub value_at-below : (x : K) (es : List (K × A)) → T (below_all R V x es) → value_at R V x es ≡ V.adder.nil
  value_at-below x [] h = refl
  value_at-below x (e ∷ es) h =
      ap (λ r. V.adder.plus (cond (is_eq r) e.1 V.adder.nil) (value_at R V x es)) (less (R x e.0) (first _ _ h)) ∙ V.adder.idl _
      ∙ value_at-below x es (second _ _ h)
    where
      less : (r : Ordering) → T (is_lt r) → r ≡ Less
      less Less h = refl
      less Equal h = absurd h
      less Greater h = absurd h

  pub value_at-head : (e : K × A) (es : List (K × A)) → T (below_all R V e.0 es) → value_at R V e.0 (e ∷ es) ≡ e.1
  value_at-head e es h =
      ap (λ r. V.adder.plus (cond (is_eq r) e.1 V.adder.nil) (value_at R V e.0 es)) (tied_itself o e.0)
      ∙ ap (V.adder.plus e.1) (value_at-below e.0 es h) ∙ idr V.adder e.1

  not_nil : (a : A) → T (not (V.is_nil a)) → a ≡ V.adder.nil → ⊥
  not_nil a h e = subst (λ b. T (not b)) (ap V.is_nil e ∙ V.is_nil_nil) h

  -- the head of the one list is below all of the other
  apart : (e : K × A) (es fs : List (K × A)) → T (is_canonical R V (e ∷ es)) → T (below_all R V e.0 fs)
      → ((q : K) → value_at R V q (e ∷ es) ≡ value_at R V q fs) → ⊥
  apart e es fs h b is =
      let tail : T (below_all R V e.0 es && is_canonical R V es) = second (not (V.is_nil e.1)) _ h in
      not_nil e.1 (first _ (below_all R V e.0 es && is_canonical R V es) h) (sym (value_at-head e es (first _ (is_canonical R V es) tail))
      ∙ is e.0 ∙ value_at-below e.0 fs b)

  -- what the tail has, where the head is known
  pub value_at-tail : (q : K) (e : K × A) (es : List (K × A)) → T (below_all R V e.0 es)
      → value_at R V q es ≡ cond (eq_by_cmp R q e.0) V.adder.nil (value_at R V q (e ∷ es))
  value_at-tail q e es h =
      elim (R q e.0) as (λ r. R q e.0 ≡ r → value_at R V q es ≡ cond (is_eq r) V.adder.nil
      (V.adder.plus (cond (is_eq r) e.1 V.adder.nil) (value_at R V q es))) [
        | Less ↦ λ p. sym (V.adder.idl _)
        | Equal ↦ λ p. ap (λ x. value_at R V x es) (same q e.0 p) ∙ value_at-below e.0 es h
        | Greater ↦ λ p. sym (V.adder.idl _)
      ] refl

  pub canonical_unique : (es fs : List (K × A)) → T (is_canonical R V es) → T (is_canonical R V fs)
      → ((q : K) → value_at R V q es ≡ value_at R V q fs) → es ≡ fs
  canonical_unique [] [] h k is = refl
  canonical_unique [] (f ∷ fs) h k is = absurd (apart f fs [] k tt (λ q. sym (is q)))
  canonical_unique (e ∷ es) [] h k is = absurd (apart e es [] h tt is)
  canonical_unique (e ∷ es) (f ∷ fs) h k is =
      let etail : T (below_all R V e.0 es && is_canonical R V es) = second (not (V.is_nil e.1)) _ h in
      let ebelow : T (below_all R V e.0 es) = first _ (is_canonical R V es) etail in
      let erest : T (is_canonical R V es) = second (below_all R V e.0 es) _ etail in
      let ftail : T (below_all R V f.0 fs && is_canonical R V fs) = second (not (V.is_nil f.1)) _ k in
      let fbelow : T (below_all R V f.0 fs) = first _ (is_canonical R V fs) ftail in
      let frest : T (is_canonical R V fs) = second (below_all R V f.0 fs) _ ftail in
      elim (R e.0 f.0) as (λ r. R e.0 f.0 ≡ r → e ∷ es ≡ f ∷ fs) [
        | Less ↦ λ p. absurd (apart e es (f ∷ fs) h (both _ _ (subst (λ r. T (is_lt r)) (sym p) tt) (below_less e.0 f.0 fs p fbelow)) is)
        | Equal ↦ λ p.
            let key : e.0 ≡ f.0 = same e.0 f.0 p in
            let value : e.1 ≡ f.1 = sym (value_at-head e es ebelow) ∙ is e.0 ∙ ap (λ x. value_at R V x (f ∷ fs)) key
            ∙ value_at-head f fs fbelow in
            let tails : es ≡ fs = canonical_unique es fs erest frest (λ q. value_at-tail q e es ebelow
            ∙ ap₂ (λ x y. cond (eq_by_cmp R q x) V.adder.nil y) key (is q) ∙ sym (value_at-tail q f fs fbelow)) in
            λ i. (key i, value i) ∷ tails i
        | Greater ↦ λ p.
            let q : R f.0 e.0 ≡ Less = o.antisymm f.0 e.0 ∙ ap ordering_reverse p in
            absurd (apart f fs (e ∷ es) k (both _ _ (subst (λ r. T (is_lt r)) (sym q) tt) (below_less f.0 e.0 es q ebelow))
            (λ x. sym (is x)))
      ] refl

  conditional_plus : (t : Bool) (a b : A)
      → cond t (V.adder.plus a b) V.adder.nil ≡ V.adder.plus (cond t a V.adder.nil) (cond t b V.adder.nil)
  conditional_plus true a b = refl
  conditional_plus false a b = sym (V.adder.idl _)

  pub delta_additive : (q : K) → Additive V.adder V.adder (delta R V q)
  delta_additive q = record {
    on_nil = λ k. elim (eq_by_cmp R q k) as (λ b. cond b V.adder.nil V.adder.nil ≡ V.adder.nil) [ true ↦ refl | false ↦ refl ];
    on_plus = λ k a b. conditional_plus (eq_by_cmp R q k) a b;
  }

  -- lists with the same values have one normal form
  pub normal_unique : (es fs : List (K × A)) → ((q : K) → value_at R V q es ≡ value_at R V q fs) → normal R V es ≡ normal R V fs
  normal_unique es fs is =
      canonical_unique (normal R V es) (normal R V fs) (canonical-normal es) (canonical-normal fs)
      (λ q. sum_of_entries-normal V.adder (delta R V q) (delta_additive q) es ∙ is q
      ∙ sym (sum_of_entries-normal V.adder (delta R V q) (delta_additive q) fs))

  pub normal-canonical : (es : List (K × A)) → T (is_canonical R V es) → normal R V es ≡ es
  normal-canonical es h = canonical_unique (normal R V es) es (canonical-normal es) h
      (λ q. sum_of_entries-normal V.adder (delta R V q) (delta_additive q) es)
