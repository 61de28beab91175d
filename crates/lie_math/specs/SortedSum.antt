-- Lists of keys that strictly rise, each with a value that is not nil, and what such a list says: its value at a key, and sums over its
-- entries.
use Rattle.std.specs.Prelude.{Bool, true, cond, not, ◌&&◌, List, [], ◌∷◌}
use Rattle.std.proofs.Common.{Ordering, is_lt}
use Rattle.std.specs.List.{list_all}
use Rattle.std.specs.Ordering.{eq_by_cmp}
use Rattle.std.specs.FinMap.Entries.{by_order}
use Rattle.lie_math.specs.Monoid.{Adder, Values}

-- the sum of φ over the entries
abbrev pub sum_of_entries : {K A B : Type 0} → Adder B → (K → A → B) → List (K × A) → B
sum_of_entries N φ [] = N.nil
sum_of_entries N φ (e ∷ es) = N.plus (φ e.0 e.1) (sum_of_entries N φ es)

module _ {K A : Type 0} (R : K → K → Ordering) (V : Values A) where
  -- a put first with the key k, unless it is nil
  abbrev pub put_new : K → A → List (K × A) → List (K × A)
  put_new k a es = cond (V.is_nil a) es ((k, a) ∷ es)

  -- a added to the value at k
  abbrev pub add_at : K → A → List (K × A) → List (K × A)
  add_at k a [] = put_new k a []
  add_at k a (e ∷ es) = by_order (R k e.0) (put_new k a (e ∷ es)) (put_new k (V.adder.plus a e.1) es) (e ∷ add_at k a es)

  -- x is below each key
  abbrev pub below_all : K → List (K × A) → Bool
  below_all x es = list_all (λ e. is_lt (R x e.0)) es

  -- the keys rise strictly, and no value is nil
  abbrev pub is_canonical : List (K × A) → Bool
  is_canonical [] = true
  is_canonical (e ∷ es) = not (V.is_nil e.1) && (below_all e.0 es && is_canonical es)

  -- the canonical list with the same sums
  abbrev pub normal : List (K × A) → List (K × A)
  normal [] = []
  normal (e ∷ es) = add_at e.0 e.1 (normal es)

  -- a where the keys are the same
  abbrev pub delta : K → K → A → A
  delta q k a = cond (eq_by_cmp R q k) a V.adder.nil

  -- the value at q
  abbrev pub value_at : K → List (K × A) → A
  value_at q es = sum_of_entries V.adder (delta q) es
