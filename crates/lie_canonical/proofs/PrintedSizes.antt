-- The like terms of a written equation's canonical text sum to no more than 2^127 - 1.
use Rattle.std.specs.Prelude.{
  ℕ,
  ◌+◌,
  ◌^◌,
  ◌≡◌,
  ◌<◌,
  Bool,
  true,
  false,
  cond,
  not,
  ◌&&◌,
  T,
  List,
  [],
  ◌∷◌,
  ◌++◌,
  ℤ,
  pos,
  ◌+ℤ◌,
  neg_ℤ,
  unsigned_abs,
  refl,
}
use Rattle.std.specs.Ordering.{eq_by_cmp}
use Rattle.std.proofs.Common.{sym, ap, ap₂, subst, ◌∙◌, arith}
use borrow.Author.Differences.{ints}
use Rattle.lie_math.specs.Canonical.{value_at-tail, first, second}
use Rattle.lie_math.specs.FiniteSum.{IsCanonical}
use Rattle.lie_math.specs.FiniteSumLaws.{value-plus, value-term}
use Rattle.lie_math.specs.Integer.{coefficients, is_zero_int}
use Rattle.lie_math.specs.Limits.{FitsNumber}
use Rattle.lie_math.specs.Monomial.{Monomial, monomial_cmp, unit, single}
use Rattle.lie_math.specs.Polynomial.{WholePolynomial, terms, term, coefficient, negᴾ}
use Rattle.lie_math.specs.SortedSum.{value_at, below_all, is_canonical}
use Rattle.lie_math.proofs.FiniteSum.{key}
use Rattle.lie_geometry.specs.Coordinates.{Space, Coordinate, number}
use Rattle.lie_canonical.specs.CanonicalText.{right_side}
use Rattle.lie_canonical.specs.RightSides.{negated}
use Rattle.lie_system.specs.Written.{HasRoomBeside}
use Rattle.lie_scan.specs.Meaning.{size_of}
use Rattle.lie_canonical.proofs.RightSideLists.{list-neg}
use Rattle.lie_canonical.proofs.PrintedSums.{turned_number, turned_terms, read_terms}

-- each monomial stands once in a polynomial's list
size_once : (m : Monomial) (es : List (Monomial × ℤ)) → IsCanonical terms es → size_of m es ≡ unsigned_abs (value_at monomial_cmp coefficients m es)
size_once m [] h = refl
size_once m (e ∷ es) h =
    let tail : T (below_all monomial_cmp coefficients e.0 es && is_canonical monomial_cmp coefficients es) = second (not (is_zero_int e.1)) _ h in
    let below : T (below_all monomial_cmp coefficients e.0 es) = first _ (is_canonical monomial_cmp coefficients es) tail in
    go (eq_by_cmp monomial_cmp m e.0) (size_once m es (second (below_all monomial_cmp coefficients e.0 es) _ tail)) (value_at-tail monomial_cmp coefficients terms.total terms.same m e es below)
  where
    go : (b : Bool) → size_of m es ≡ unsigned_abs (value_at monomial_cmp coefficients m es) → value_at monomial_cmp coefficients m es ≡ cond b (pos 0) (cond b e.1 (pos 0) +ℤ value_at monomial_cmp coefficients m es)
        → cond b (unsigned_abs e.1) 0 + size_of m es ≡ unsigned_abs (cond b e.1 (pos 0) +ℤ value_at monomial_cmp coefficients m es)
    go true size none =
        let zero : size_of m es ≡ 0 = size ∙ ap unsigned_abs none in
        let value : e.1 +ℤ value_at monomial_cmp coefficients m es ≡ e.1 = ap (λ z. e.1 +ℤ z) none ∙ right_none e.1 in
        let sum : unsigned_abs e.1 + size_of m es ≡ unsigned_abs e.1 = omega arith in
        sum ∙ sym (ap unsigned_abs value)
      where
        right_none : (z : ℤ) → z +ℤ pos 0 ≡ z
        right_none z = omega (arith, ints)
    go false size none =
        let left : pos 0 +ℤ value_at monomial_cmp coefficients m es ≡ value_at monomial_cmp coefficients m es = sym none in
        let sum : 0 + size_of m es ≡ size_of m es = omega arith in
        sum ∙ size ∙ sym (ap unsigned_abs left)

turned_size : (turned : Bool) (m : Monomial) (es : List (Monomial × ℤ)) → size_of m (turned_terms turned es) ≡ size_of m es
turned_size turned m [] = refl
turned_size turned m (e ∷ es) = ap₂ (λ (k n : ℕ). cond (eq_by_cmp monomial_cmp m e.0) k 0 + n) (same turned e.1) (turned_size turned m es)
  where
    same : (turned : Bool) (z : ℤ) → unsigned_abs (turned_number turned z) ≡ unsigned_abs z
    same true z = omega (arith, ints)
    same false z = refl

size_joined : (m : Monomial) (ts us : List (Monomial × ℤ)) → size_of m (ts ++ us) ≡ size_of m ts + size_of m us
size_joined m [] us = omega arith
size_joined m (t ∷ ts) us = let e = size_joined m ts us in omega arith

zero_size : (m : Monomial) → size_of m ((unit, pos 0) ∷ []) ≡ 0
zero_size m = go (eq_by_cmp monomial_cmp m unit)
  where
    go : (b : Bool) → cond b 0 0 + 0 ≡ 0
    go true = refl
    go false = refl

read_size_of : (turned : Bool) (m : Monomial) (es : List (Monomial × ℤ)) → size_of m (read_terms turned es) ≡ size_of m es
read_size_of turned m [] = zero_size m
read_size_of turned m (e ∷ es) = turned_size turned m (e ∷ es)

-- the terms as they are read
pub read_size : (turned : Bool) (P : WholePolynomial) (m : Monomial) → size_of m (read_terms turned P.list) ≡ unsigned_abs (coefficient P m)
read_size turned P m = read_size_of turned m P.list ∙ size_once m P.list P.canonical

-- an equation without a lead
pub unsolved_small : (P : WholePolynomial) → ((m : Monomial) → FitsNumber (coefficient P m))
    → (m : Monomial) → size_of m (read_terms false P.list ++ (unit, pos 0) ∷ []) < 2 ^ 127
unsolved_small P numbers m =
    let parted = size_joined m (read_terms false P.list) ((unit, pos 0) ∷ []) in
    let none = zero_size m in
    let size = read_size false P m in
    let fits : unsigned_abs (coefficient P m) < 2 ^ 127 = numbers m in
    omega arith

-- an equation with a lead
value_negated : (m : Monomial) (es : List (Monomial × ℤ)) → value_at monomial_cmp coefficients m (negated es) ≡ neg_ℤ (value_at monomial_cmp coefficients m es)
value_negated m [] = refl
value_negated m (e ∷ es) = go (eq_by_cmp monomial_cmp m e.0) (value_negated m es)
  where
    go : (b : Bool) → value_at monomial_cmp coefficients m (negated es) ≡ neg_ℤ (value_at monomial_cmp coefficients m es)
        → cond b (neg_ℤ e.1) (pos 0) +ℤ value_at monomial_cmp coefficients m (negated es) ≡ neg_ℤ (cond b e.1 (pos 0) +ℤ value_at monomial_cmp coefficients m es)
    go true h = ap (λ z. neg_ℤ e.1 +ℤ z) h ∙ sum e.1 (value_at monomial_cmp coefficients m es)
      where
        sum : (a b : ℤ) → neg_ℤ a +ℤ neg_ℤ b ≡ neg_ℤ (a +ℤ b)
        sum a b = omega (arith, ints)
    go false h = ap (λ z. pos 0 +ℤ z) h ∙ sum (value_at monomial_cmp coefficients m es)
      where
        sum : (b : ℤ) → pos 0 +ℤ neg_ℤ b ≡ neg_ℤ (pos 0 +ℤ b)
        sum b = omega (arith, ints)

pub right_value : (S : Space) (c : Coordinate) (diff : WholePolynomial) (m : Monomial)
    → coefficient (right_side S c diff) m ≡ cond (eq_by_cmp monomial_cmp m (single (number S c))) (pos 1) (pos 0) +ℤ neg_ℤ (coefficient diff m)
right_value S c diff m =
    value-plus terms (term (single (number S c)) (pos 1)) (negᴾ diff) m
    ∙ ap₂ ◌+ℤ◌ (value-term terms (single (number S c)) (pos 1) m) (ap (value_at monomial_cmp coefficients m) (list-neg diff) ∙ value_negated m diff.list)

pub solved_small : (S : Space) (P : WholePolynomial) (c : Coordinate) → ((m : Monomial) → FitsNumber (coefficient P m)) → HasRoomBeside S P c
    → (m : Monomial) → size_of m ((single (number S c), pos 1) ∷ read_terms true (right_side S c P).list) < 2 ^ 127
solved_small S P c numbers room m =
    go (size_of m (read_terms true (right_side S c P).list)) (eq_by_cmp monomial_cmp m (single (number S c))) refl
    (read_size true (right_side S c P) m ∙ ap unsigned_abs (right_value S c P m))
  where
    go : (n : ℕ) (d : Bool) → eq_by_cmp monomial_cmp m (single (number S c)) ≡ d
        → n ≡ unsigned_abs (cond d (pos 1) (pos 0) +ℤ neg_ℤ (coefficient P m)) → cond d 1 0 + n < 2 ^ 127
    go n true same size =
        let at : 1 + unsigned_abs (pos 1 +ℤ neg_ℤ (coefficient P m)) < 2 ^ 127 =
        subst (λ x. 1 + unsigned_abs (pos 1 +ℤ neg_ℤ (coefficient P x)) < 2 ^ 127) (sym (key terms m (single (number S c)) same)) room in
        omega arith
    go n false other size =
        let fits : unsigned_abs (coefficient P m) < 2 ^ 127 = numbers m in
        let turned : unsigned_abs (pos 0 +ℤ neg_ℤ (coefficient P m)) ≡ unsigned_abs (coefficient P m) = omega (arith, ints) in
        omega arith
