-- A derivative put into a list in printed order.
use Rattle.std.specs.Prelude.{◌≡◌, ℕ, zero, suc, ◌+◌, ◌<◌, ◌≤◌, Bool, true, false, cond, List, [], ◌∷◌, ◌++◌, length, get_or, take, drop, ℤ}
use Rattle.std.proofs.Common.{Ordering, Less, Equal, Greater, refl, sym, ap, ◌∙◌, arith, is_eq, add-one}
use Rattle.std.specs.List.{AllByRecursion as Every}
use Rattle.std.specs.List.Sorted.{IsStrictlySortedBy}
use Rattle.std.specs.Ordering.{eq_by_cmp, ordering_reverse}
use Rattle.std.specs.Cmp.{tied_itself}
use Rattle.std.specs.FinMap.Entries.{by_order}
use Rattle.std.proofs.Math.Seq.{take-suc}
use Rattle.lie_math.specs.Monomial.{Monomial}
use Rattle.lie_math.specs.Counts.{Derivative, derivative_cmp}
use Rattle.lie_math.specs.DerivativeOrder.{derivative_cmp_total}
use Rattle.lie_systems.specs.Triples.{Triple}
use Rattle.lie_jet.specs.declared.derivative.Der.{Der}
use Rattle.lie_lin.specs.Forms.{derivatives_of, is_in, AreDerivatives, placed, triples_of}
use Rattle.lie_jet.specs.Derivatives.{derivative_of}
use Rattle.lie_lin.proofs.Forms.{triples_of-append}

-- ---- order
all_less : (d e : Derivative) (ds : List Derivative) → derivative_cmp d e ≡ Less → Every (λ x. derivative_cmp e x ≡ Less) ds → Every (λ x. derivative_cmp d x ≡ Less) ds
all_less d e [] h k = tt
all_less d e (x ∷ ds) h k = (derivative_cmp_total.trans d e x h k.0, all_less d e ds h k.1)

below_placed : (b d : Derivative) (ds : List Derivative) → derivative_cmp b d ≡ Less → Every (λ x. derivative_cmp b x ≡ Less) ds → Every (λ x. derivative_cmp b x ≡ Less) (placed d ds)
below_placed b d [] h k = (h, tt)
below_placed b d (e ∷ ds) h k =
    elim (derivative_cmp d e) as (λ r. Every (λ x. derivative_cmp b x ≡ Less) (by_order r (d ∷ e ∷ ds) (e ∷ ds) (e ∷ placed d ds))) [
      | Less ↦ (h, k)
      | Equal ↦ k
      | Greater ↦ (k.0, below_placed b d ds h k.1)
    ]

pub sorted_placed : (d : Derivative) (ds : List Derivative) → IsStrictlySortedBy derivative_cmp ds → IsStrictlySortedBy derivative_cmp (placed d ds)
unfolding IsStrictlySortedBy
sorted_placed d [] h = (tt, tt)
sorted_placed d (e ∷ ds) h = go (derivative_cmp d e) refl (sorted_placed d ds h.1)
  where
    go : (r : Ordering) → derivative_cmp d e ≡ r → IsStrictlySortedBy derivative_cmp (placed d ds) → IsStrictlySortedBy derivative_cmp (by_order r (d ∷ e ∷ ds) (e ∷ ds) (e ∷ placed d ds))
    go Less p i = ((p, all_less d e ds p h.0), h)
    go Equal p i = h
    go Greater p i = (below_placed e d ds (derivative_cmp_total.antisymm e d ∙ ap ordering_reverse p) h.0, i)

-- ---- what is in the list
still_in : (b : Bool) → cond b true true ≡ true
still_in true = refl
still_in false = refl

pub in_placed : (q d : Derivative) (ds : List Derivative) → is_in ds q ≡ true → is_in (placed d ds) q ≡ true
in_placed q d [] h = ap (λ b. cond (eq_by_cmp derivative_cmp q d) true b) h ∙ still_in (eq_by_cmp derivative_cmp q d)
in_placed q d (e ∷ ds) h = go (derivative_cmp d e) (in_placed q d ds)
  where
    later : (b : Bool) → cond b true (is_in ds q) ≡ true → (is_in ds q ≡ true → is_in (placed d ds) q ≡ true) → cond b true (is_in (placed d ds) q) ≡ true
    later true k i = refl
    later false k i = i k

    go : (r : Ordering) → (is_in ds q ≡ true → is_in (placed d ds) q ≡ true) → is_in (by_order r (d ∷ e ∷ ds) (e ∷ ds) (e ∷ placed d ds)) q ≡ true
    go Less i = ap (λ b. cond (eq_by_cmp derivative_cmp q d) true b) h ∙ still_in (eq_by_cmp derivative_cmp q d)
    go Equal i = h
    go Greater i = later (eq_by_cmp derivative_cmp q e) h i

pub itself_placed : (d : Derivative) (ds : List Derivative) → is_in (placed d ds) d ≡ true
itself_placed d [] = ap (λ r. cond (is_eq r) true false) (tied_itself derivative_cmp_total d)
itself_placed d (e ∷ ds) = go (derivative_cmp d e) refl (itself_placed d ds)
  where
    go : (r : Ordering) → derivative_cmp d e ≡ r → is_in (placed d ds) d ≡ true → is_in (by_order r (d ∷ e ∷ ds) (e ∷ ds) (e ∷ placed d ds)) d ≡ true
    go Less p i = ap (λ r. cond (is_eq r) true (is_in (e ∷ ds) d)) (tied_itself derivative_cmp_total d)
    go Equal p i = ap (λ r. cond (is_eq r) true (is_in ds d)) p
    go Greater p i = ap (λ r. cond (is_eq r) true (is_in (placed d ds) d)) p ∙ i

all_in_placed : (d : Derivative) (ds : List Derivative) (ts : List Triple) → Every (λ (t : Triple). is_in ds t.0 ≡ true) ts → Every (λ (t : Triple). is_in (placed d ds) t.0 ≡ true) ts
all_in_placed d ds [] h = tt
all_in_placed d ds (t ∷ ts) h = (in_placed t.0 d ds h.0, all_in_placed d ds ts h.1)

every_put : (ds : List Derivative) (ts : List Triple) (t : Triple) → Every (λ (t : Triple). is_in ds t.0 ≡ true) ts → is_in ds t.0 ≡ true → Every (λ (t : Triple). is_in ds t.0 ≡ true) (ts ++ t ∷ [])
every_put ds [] t h k = (k, tt)
every_put ds (u ∷ ts) t h k = (h.0, every_put ds ts t h.1 k)

-- one more triple
pub derivatives_more : (ds : List Derivative) (ts : List Triple) (t : Triple) → AreDerivatives ds ts → AreDerivatives (placed t.0 ds) (ts ++ t ∷ [])
derivatives_more ds ts t h = record { ordered = sorted_placed t.0 ds h.ordered; all = every_put (placed t.0 ds) ts t (all_in_placed t.0 ds ts h.all) (itself_placed t.0 ds) }

pub no_derivatives : AreDerivatives [] []
unfolding IsStrictlySortedBy
no_derivatives = record { ordered = tt; all = tt }

-- ---- places in a kept list
pub derivatives_of-append : (xs ys : List Der) → derivatives_of (xs ++ ys) ≡ derivatives_of xs ++ derivatives_of ys
derivatives_of-append [] ys = refl
derivatives_of-append (x ∷ xs) ys = ap (λ ds. derivative_of x ∷ ds) (derivatives_of-append xs ys)

-- the place is further on
pub place_further : (d : Derivative) (ders : List Der) (i : ℕ) (x : Der) → i < length ders → derivative_cmp d (derivative_of (get_or ders i x)) ≡ Greater
    → placed d (derivatives_of ders) ≡ derivatives_of (take i ders) ++ placed d (derivatives_of (drop i ders)) → placed d (derivatives_of ders) ≡ derivatives_of (take (i + 1) ders) ++ placed d (derivatives_of (drop (i + 1) ders))
place_further d ders i x lt g h = h ∙ go ders i lt g ∙ ap (λ n. derivatives_of (take n ders) ++ placed d (derivatives_of (drop n ders))) (sym (add-one i))
  where
    go : (ds : List Der) (i : ℕ) → i < length ds → derivative_cmp d (derivative_of (get_or ds i x)) ≡ Greater → derivatives_of (take i ds) ++ placed d (derivatives_of (drop i ds)) ≡ derivatives_of (take (suc i) ds) ++ placed d (derivatives_of (drop (suc i) ds))
    go [] i lt g = absurd (omega arith)
    go (y ∷ ds) zero lt g = ap (λ r. by_order r (d ∷ derivative_of y ∷ derivatives_of ds) (derivative_of y ∷ derivatives_of ds) (derivative_of y ∷ placed d (derivatives_of ds))) g
    go (y ∷ ds) (suc i) lt g = ap (λ xs. derivative_of y ∷ xs) (go ds i (omega arith) g)

-- it is before the i-th
pub place_found : (der : Der) (ders : List Der) (i : ℕ) (x : Der) → i < length ders → derivative_cmp (derivative_of der) (derivative_of (get_or ders i x)) ≡ Less
    → placed (derivative_of der) (derivatives_of ders) ≡ derivatives_of (take i ders) ++ placed (derivative_of der) (derivatives_of (drop i ders)) → derivatives_of (take i ders ++ der ∷ drop i ders) ≡ placed (derivative_of der) (derivatives_of ders)
place_found der ders i x lt g h = derivatives_of-append (take i ders) (der ∷ drop i ders) ∙ ap (λ ds. derivatives_of (take i ders) ++ ds) (go ders i lt g) ∙ sym h
  where
    go : (ds : List Der) (i : ℕ) → i < length ds → derivative_cmp (derivative_of der) (derivative_of (get_or ds i x)) ≡ Less → derivative_of der ∷ derivatives_of (drop i ds) ≡ placed (derivative_of der) (derivatives_of (drop i ds))
    go [] i lt g = absurd (omega arith)
    go (y ∷ ds) zero lt g = sym (ap (λ r. by_order r (derivative_of der ∷ derivative_of y ∷ derivatives_of ds) (derivative_of y ∷ derivatives_of ds) (derivative_of y ∷ placed (derivative_of der) (derivatives_of ds))) g)
    go (y ∷ ds) (suc i) lt g = go ds i (omega arith) g

-- it is the i-th
pub place_taken : (d : Derivative) (ders : List Der) (i : ℕ) (x : Der) → i < length ders → derivative_cmp d (derivative_of (get_or ders i x)) ≡ Equal
    → placed d (derivatives_of ders) ≡ derivatives_of (take i ders) ++ placed d (derivatives_of (drop i ders)) → placed d (derivatives_of ders) ≡ derivatives_of ders
place_taken d ders i x lt g h = h ∙ go ders i lt g
  where
    go : (ds : List Der) (i : ℕ) → i < length ds → derivative_cmp d (derivative_of (get_or ds i x)) ≡ Equal → derivatives_of (take i ds) ++ placed d (derivatives_of (drop i ds)) ≡ derivatives_of ds
    go [] i lt g = absurd (omega arith)
    go (y ∷ ds) zero lt g = ap (λ r. by_order r (d ∷ derivative_of y ∷ derivatives_of ds) (derivative_of y ∷ derivatives_of ds) (derivative_of y ∷ placed d (derivatives_of ds))) g
    go (y ∷ ds) (suc i) lt g = ap (λ xs. derivative_of y ∷ xs) (go ds i (omega arith) g)

-- it is the last
pub place_last : (der : Der) (ders : List Der) (i : ℕ) → length ders ≤ i
    → placed (derivative_of der) (derivatives_of ders) ≡ derivatives_of (take i ders) ++ placed (derivative_of der) (derivatives_of (drop i ders)) → derivatives_of (take i ders ++ der ∷ drop i ders) ≡ placed (derivative_of der) (derivatives_of ders)
place_last der ders i le h = derivatives_of-append (take i ders) (der ∷ drop i ders) ∙ ap (λ ds. derivatives_of (take i ders) ++ ds) (go ders i le) ∙ sym h
  where
    go : (ds : List Der) (i : ℕ) → length ds ≤ i → derivative_of der ∷ derivatives_of (drop i ds) ≡ placed (derivative_of der) (derivatives_of (drop i ds))
    go [] zero le = refl
    go [] (suc i) le = refl
    go (y ∷ ds) zero le = absurd (omega arith)
    go (y ∷ ds) (suc i) le = go ds i (omega arith)

-- ---- one more triple of a kept list
pub triples_of_more : (ts : List (Der × Monomial × ℤ)) (i : ℕ) (t : Der × Monomial × ℤ) → i < length ts → t ≡ get_or ts i t → triples_of (take (i + 1) ts) ≡ triples_of (take i ts) ++ (derivative_of t.0, t.1, t.2) ∷ []
triples_of_more ts i t lt e =
    ap (λ n. triples_of (take n ts)) (add-one i) ∙ ap triples_of (take-suc ts i t lt ∙ ap (λ y. take i ts ++ y ∷ []) (sym e)) ∙ triples_of-append (take i ts) (t ∷ [])
