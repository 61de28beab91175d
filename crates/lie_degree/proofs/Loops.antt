-- The steps of loops over lists, and of the lists of columns that they gather.
use Rattle.std.specs.Prelude.{◌≡◌, ℕ, zero, suc, ◌+◌, ◌-◌, ◌<◌, ◌≤◌, List, [], ◌∷◌, ◌++◌, map, length, drop, take, get_or}
use Rattle.std.proofs.Common.{refl, sym, ap, ap₂, subst, ◌∙◌, append_assoc, append-nil, arith}
use Rattle.std.proofs.Math.ListN.{drop_of_length-le}
use Rattle.std.specs.List.{range_with_len}
use Rattle.lie_math.specs.Limits.{HasLowExponents}
use Rattle.lie_math.specs.Monomial.{Monomial}
use Rattle.lie_ring.specs.Causes.{IsProductCause}
use Rattle.lie_ring.specs.declared.failures.PastKind.{PastKind}
use Rattle.lie_ring.specs.declared.failures.PastKind.TheVariants.{Coefficient, Exponent, Terms, Order, Unknowns, Width}
use Rattle.lie_ring.specs.declared.failures.PolyFail.{PolyFail}
use Rattle.lie_ring.specs.declared.failures.PolyFail.TheVariants.{Past}
use Rattle.lie_ring.proofs.Fronts.{take_more, all_taken}
use Rattle.lie_rows.proofs.RowLoops.{drop_at}
use Rattle.lie_algebra.specs.ColumnLists.{AreColumnsOf, IsColumnsCause}
use Rattle.lie_algebra.proofs.ColumnLists.{IsSameColumns, gather_step, gather_cause}
use Rattle.lie_spans.specs.Fields.{Column}
use Rattle.lie_degree.specs.Columns.{columns_in, columns_from}

-- ---- a list that is made piece by piece
module _ {X Y : Type 0} (f : List X → List Y) (g : X → List Y) (splits : (x : X) (xs : List X) → f (x ∷ xs) ≡ g x ++ f xs) where
  pub piece_more : (xs : List X) (i : ℕ) (x : X) (out new all : List Y) → i < length xs → x ≡ get_or xs i x → new ≡ out ++ g x → out ++ f
      (drop i xs) ≡ all
      → new ++ f (drop (i + 1) xs) ≡ all
  piece_more xs i x out new all l e n h =
      ap (λ ys. ys ++ f (drop (i + 1) xs)) n ∙ append_assoc out (g x) (f (drop (i + 1) xs))
      ∙ ap (λ ys. out ++ ys) (sym (splits x (drop (i + 1) xs)) ∙ ap f (sym (drop_at xs i x l e))) ∙ h

pub piece_end : {X Y : Type 0} (f : List X → List Y) → f [] ≡ [] → (xs : List X) (i : ℕ) (out all : List Y) → length xs ≤ i → out ++ f
    (drop i xs) ≡ all → out ≡ all
piece_end f none xs i out all l h = sym (ap (λ ys. out ++ f ys) (drop_of_length-le xs l) ∙ ap (λ ys. out ++ ys) none ∙ append-nil out) ∙ h

-- of a front
pub front_more : {X Y : Type 0} (g : X → Y) (xs : List X) (i : ℕ) (x : X) (out new : List Y) → i < length xs → x ≡ get_or xs i x → new
    ≡ out ++ g x ∷ []
    → out ≡ map g (take i xs) → new ≡ map g (take (i + 1) xs)
front_more g xs i x out new l e n h = n ∙ ap (λ ys. ys ++ g x ∷ []) h ∙ sym (map-append (take i xs) (x ∷ [])) ∙ ap (map g)
    (take_more xs i x l e)
  where
    map-append : (xs ys : List _) → map g (xs ++ ys) ≡ map g xs ++ map g ys
    map-append [] ys = refl
    map-append (x ∷ xs) ys = ap (λ zs. g x ∷ zs) (map-append xs ys)

pub front_done : {X Y : Type 0} (g : X → Y) (xs : List X) (i : ℕ) (out : List Y) → length xs ≤ i → out ≡ map g (take i xs) → out ≡ map g xs
front_done g xs i out l h = h ∙ ap (map g) (all_taken xs i l)

-- the same behind what was there
pub behind_more : {X Y : Type 0} (g : X → Y) (old : List Y) (xs : List X) (i : ℕ) (x : X) (out new : List Y) → i < length xs → x
    ≡ get_or xs i x → new ≡ out ++ g x ∷ []
    → out ≡ old ++ map g (take i xs) → new ≡ old ++ map g (take (i + 1) xs)
behind_more g old xs i x out new l e n h =
    n ∙ ap (λ ys. ys ++ g x ∷ []) h ∙ append_assoc old (map g (take i xs)) (g x ∷ [])
    ∙ ap (λ ys. old ++ ys) (front_more g xs i x (map g (take i xs)) (map g (take i xs) ++ g x ∷ []) l e refl refl)

pub behind_done : {X Y : Type 0} (g : X → Y) (old : List Y) (xs : List X) (i : ℕ) (out : List Y) → length xs ≤ i → out ≡ old ++ map g
    (take i xs) → out ≡ old ++ map g xs
behind_done g old xs i out l h = h ∙ ap (λ ys. old ++ map g ys) (all_taken xs i l)

-- ---- a product with low exponents is not past a limit
pub product_not_past : (kind : PastKind) (m : Monomial) → HasLowExponents m → ¬ (IsProductCause (Past kind) m)
product_not_past Exponent m low h = let l = low h.0 in let g = h.1 in absurd (omega arith)
product_not_past Coefficient m low h = h
product_not_past Terms m low h = h
product_not_past Order m low h = h
product_not_past Unknowns m low h = h
product_not_past Width m low h = h

-- ---- columns
module _ (s : ℕ) (ms : List Monomial) (i : ℕ) (m : Monomial) (l : i < length ms) (e : m ≡ get_or ms i m) (old all : List Column)
    (k : Column) (is : k ≡ (s, m))
    (h : IsSameColumns (old ++ columns_in s (drop i ms)) all) where
  here : IsSameColumns (old ++ (k ∷ [] ++ columns_in s (drop (i + 1) ms))) all
  here = subst (λ xs. IsSameColumns (old ++ xs) all)
      (ap (columns_in s) (drop_at ms i m l e) ∙ ap (λ x. x ∷ columns_in s (drop (i + 1) ms)) (sym is)) h

  pub column_more : (new : List Column) → AreColumnsOf (old ++ k ∷ []) new → IsSameColumns (new ++ columns_in s (drop (i + 1) ms)) all
  column_more new g = gather_step old (k ∷ []) (columns_in s (drop (i + 1) ms)) all new g here

  pub column_cause : (fail : PolyFail) → IsColumnsCause fail (old ++ k ∷ []) → IsColumnsCause fail all
  column_cause fail g = gather_cause fail old (k ∷ []) (columns_in s (drop (i + 1) ms)) all here g

pub no_column_left : (s : ℕ) (ms : List Monomial) (i : ℕ) → length ms ≤ i → columns_in s (drop i ms) ≡ []
no_column_left s ms i l = ap (columns_in s) (drop_of_length-le ms l)

pub from_more : (s n : ℕ) (ms : List Monomial) → s < n → columns_from s (n - s) ms ≡ columns_in s ms ++ columns_from (s + 1)
    (n - (s + 1)) ms
from_more s n ms l = ap (λ c. columns_from s c ms) (next s n l) ∙ ap (λ t. columns_in s ms ++ columns_from t (n - (s + 1)) ms) (raised s)
  where
    next : (s n : ℕ) → s < n → n - s ≡ suc (n - (s + 1))
    next s n l = omega arith

    raised : (s : ℕ) → suc s ≡ s + 1
    raised s = omega arith

pub from_none : (s n : ℕ) (ms : List Monomial) → n ≤ s → columns_from s (n - s) ms ≡ []
from_none s n ms l = ap (λ c. columns_from s c ms) (none s n l)
  where
    none : (s n : ℕ) → n ≤ s → n - s ≡ 0
    none s n l = omega arith

-- ---- numbers in order
range_more : (a n : ℕ) → range_with_len a (suc n) ≡ range_with_len a n ++ (a + n) ∷ []
range_more a zero = ap (λ k. k ∷ []) (plain a)
  where
    plain : (a : ℕ) → a ≡ a + 0
    plain a = omega arith
range_more a (suc n) = ap (λ ks. a ∷ ks) (range_more (a + 1) n ∙ ap (λ k. range_with_len (a + 1) n ++ k ∷ []) (next a n))
  where
    next : (a n : ℕ) → a + 1 + n ≡ a + suc n
    next a n = omega arith

pub numbers_more : {X : Type 0} (g : ℕ → X) (old out new : List X) (i : ℕ) (x : X) → new ≡ out ++ x ∷ [] → x ≡ g i → out ≡ old ++ map g
    (range_with_len 0 i)
    → new ≡ old ++ map g (range_with_len 0 (i + 1))
numbers_more g old out new i x n e h =
    n ∙ ap₂ (λ ys y. ys ++ y ∷ []) h e ∙ append_assoc old (map g (range_with_len 0 i)) (g i ∷ [])
    ∙ ap (λ ys. old ++ ys)
    (sym (append-mapped (range_with_len 0 i) (i ∷ [])) ∙ ap (map g)
    (ap (λ k. range_with_len 0 i ++ k ∷ []) (plain i) ∙ sym (range_more 0 i) ∙ ap (range_with_len 0) (raised i)))
  where
    append-mapped : (xs ys : List ℕ) → map g (xs ++ ys) ≡ map g xs ++ map g ys
    append-mapped [] ys = refl
    append-mapped (x ∷ xs) ys = ap (λ zs. g x ∷ zs) (append-mapped xs ys)

    plain : (i : ℕ) → i ≡ 0 + i
    plain i = omega arith

    raised : (i : ℕ) → suc i ≡ i + 1
    raised i = omega arith
