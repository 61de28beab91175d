-- Lists whose keys rise strictly: the canonical list is the list without the values that are nil.
use Rattle.std.specs.Prelude.{◌≡◌, Bool, true, false, cond, T, ◌&&◌, List, [], ◌∷◌, ◌++◌, refl}
use Rattle.std.proofs.Common.{sym, ap, ◌∙◌, Ordering, Less, Equal, Greater, is_lt}
use Rattle.std.specs.Cmp.{IsTotalOrder}
use Rattle.std.specs.FinMap.{IsAntisymmetric}
use Rattle.std.specs.FinMap.Entries.{by_order}
use Rattle.std.specs.List.{flat_map}
use Rattle.lie_math.specs.Canonical.{first, second, below-add_at}
use Rattle.lie_math.specs.Monoid.{Values}
use Rattle.lie_math.specs.SortedSum.{put_new, add_at, below_all, normal}

pub is_less : (r : Ordering) → T (is_lt r) → r ≡ Less
is_less Less h = refl
is_less Equal h = absurd h
is_less Greater h = absurd h

module _ {K A : Type 0} (R : K → K → Ordering) (V : Values A) (o : IsTotalOrder R) (same : IsAntisymmetric R) where
  -- the keys rise strictly; values may be nil
  abbrev pub rises : List (K × A) → Bool
  rises [] = true
  rises (e ∷ es) = below_all R V e.0 es && rises es

  below-normal : (x : K) (es : List (K × A)) → T (below_all R V x es) → T (below_all R V x (normal R V es))
  below-normal x [] h = tt
  below-normal x (e ∷ es) h = below-add_at R V o same x e.0 e.1 (normal R V es) (is_less _ (first _ _ h)) (below-normal x es (second _ _ h))

  -- below all keys a value is put first
  add_at-below : (k : K) (a : A) (es : List (K × A)) → T (below_all R V k es) → add_at R V k a es ≡ put_new R V k a es
  add_at-below k a [] h = refl
  add_at-below k a (e ∷ es) h = ap (λ r. by_order r (put_new R V k a (e ∷ es)) (put_new R V k (V.adder.plus a e.1) es) (e ∷ add_at R V k a es)) (is_less _ (first _ _ h))

  -- what is made of each entry, where nothing is made of a nil value
  pub flat_map-normal : {B : Type 0} (f : K × A → List B) → ((k : K) (a : A) → V.is_nil a ≡ true → f (k, a) ≡ []) → (es : List (K × A)) → T (rises es) → flat_map f (normal R V es) ≡ flat_map f es
  flat_map-normal f nothing [] h = refl
  flat_map-normal f nothing (e ∷ es) h =
      ap (flat_map f) (add_at-below e.0 e.1 (normal R V es) (below-normal e.0 es (first _ _ h)))
      ∙ put (V.is_nil e.1) refl
      ∙ ap (λ l. f e ++ l) (flat_map-normal f nothing es (second _ _ h))
    where
      put : (b : Bool) → V.is_nil e.1 ≡ b → flat_map f (cond b (normal R V es) (e ∷ normal R V es)) ≡ f e ++ flat_map f (normal R V es)
      put true nil = ap (λ l. l ++ flat_map f (normal R V es)) (sym (nothing e.0 e.1 nil))
      put false nil = refl
