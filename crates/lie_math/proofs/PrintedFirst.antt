-- The print order in words: by degrees, and then by the exponents of the first variable where two monomials differ.
use Rattle.std.specs.Prelude.{◌≡◌, ℕ, ◌+◌, ◌<◌, ◌⊎◌, cond, not, T, eqb, List, [], ◌∷◌}
use Rattle.std.proofs.Common.{refl, sym, ap, ap₂, subst, ◌∙◌, inl, inr, arith, true≢false, eq-eqb, Ordering, Less, Equal, Greater, is_lt, is_eq, is_gt}
use Rattle.std.specs.Ordering.{eq_by_cmp, nat_cmp, ordering_then, ordering_reverse, MatchOrdering}
use Rattle.std.specs.Cmp.{nat_cmp_total, ranks}
use Rattle.std.specs.Cmp.Lexicographic.{slice_cmp}
use Rattle.std.specs.FinMap.{nat_cmp-IsAntisymmetric}
use Rattle.lie_math.specs.Natural.{naturals, exponents}
use Rattle.lie_math.specs.SortedSum.{sum_of_entries, value_at, below_all, is_canonical}
use Rattle.lie_math.specs.Canonical.{both, first, second, below_less, value_at-below, value_at-head}
use Rattle.lie_math.specs.Monomial.{Monomial, exponent, degree, pair_cmp, monomial_cmp}
use Rattle.lie_math.specs.MonomialOrder.{monomial_cmp_total, monomial_cmp-IsAntisymmetric}
use Rattle.lie_math.specs.Laws.{HasFirstGreater, PrintOrderIsByExponents}

abbrev at : ℕ → List (ℕ × ℕ) → ℕ
at w ps = value_at nat_cmp exponents w ps

abbrev sum_of_exponents : List (ℕ × ℕ) → ℕ
sum_of_exponents ps = sum_of_entries naturals (λ v e. e) ps

abbrev Below : ℕ → List (ℕ × ℕ) → Type 0
Below x ps = T (below_all nat_cmp exponents x ps)

abbrev IsList : List (ℕ × ℕ) → Type 0
IsList ps = T (is_canonical nat_cmp exponents ps)

record First (ps qs : List (ℕ × ℕ)) : Type 0 where
  place : ℕ
  greater : at place qs < at place ps
  before : (w : ℕ) → w < place → at w ps ≡ at w qs

below_head : (p : ℕ × ℕ) (ps : List (ℕ × ℕ)) → IsList (p ∷ ps) → Below p.0 ps
below_head p ps c = first (below_all nat_cmp exponents p.0 ps) (is_canonical nat_cmp exponents ps) (second (not (eqb p.1 0)) _ c)

rest : (p : ℕ × ℕ) (ps : List (ℕ × ℕ)) → IsList (p ∷ ps) → IsList ps
rest p ps c = second (below_all nat_cmp exponents p.0 ps) (is_canonical nat_cmp exponents ps) (second (not (eqb p.1 0)) _ c)

positive : (p : ℕ × ℕ) (ps : List (ℕ × ℕ)) → IsList (p ∷ ps) → 0 < p.1
positive p ps c = go p.1 (first (not (eqb p.1 0)) _ c)
  where
    go : (n : ℕ) → T (not (eqb n 0)) → 0 < n
    go n t = let apart : ¬ (n ≡ 0) = λ e. subst (λ b. T (not b)) (eq-eqb n 0 e) t in omega arith

at_less : (x y : ℕ) → x < y → nat_cmp x y ≡ Less
at_less x y lt = go (nat_cmp x y) (ranks x y)
  where
    go : (r : Ordering) → MatchOrdering r (x < y) (x ≡ y) (y < x) → r ≡ Less
    go Less k = refl
    go Equal k = absurd (omega arith)
    go Greater k = absurd (omega arith)

-- a key below the head is in no entry
none_below : (x : ℕ) (p : ℕ × ℕ) (ps : List (ℕ × ℕ)) → IsList (p ∷ ps) → x < p.0 → at x (p ∷ ps) ≡ 0
none_below x p ps c lt =
    value_at-below nat_cmp exponents nat_cmp_total nat_cmp-IsAntisymmetric x (p ∷ ps)
    (both _ (below_all nat_cmp exponents x ps) (subst (λ r. T (is_lt r)) (sym (at_less x p.0 lt)) tt) (below_less nat_cmp exponents nat_cmp_total nat_cmp-IsAntisymmetric x p.0 ps (at_less x p.0 lt) (below_head p ps c)))

head : (p : ℕ × ℕ) (ps : List (ℕ × ℕ)) → IsList (p ∷ ps) → at p.0 (p ∷ ps) ≡ p.1
head p ps c = value_at-head nat_cmp exponents nat_cmp_total nat_cmp-IsAntisymmetric p ps (below_head p ps c)

-- the same head before two lists
headed : (p q : ℕ × ℕ) (ps qs : List (ℕ × ℕ)) → p.0 ≡ q.0 → p.1 ≡ q.1 → First ps qs → First (p ∷ ps) (q ∷ qs)
headed p q ps qs e f k = record {
  place = k.place;
  greater = let same = heads k.place in let g = k.greater in grow _ _ _ _ same g;
  before = λ w lt. ap₂ ◌+◌ (heads w) (k.before w lt);
}
  where
    heads : (w : ℕ) → cond (eq_by_cmp nat_cmp w p.0) p.1 0 ≡ cond (eq_by_cmp nat_cmp w q.0) q.1 0
    heads w = ap₂ (λ x y. cond (eq_by_cmp nat_cmp w x) y 0) e f

    grow : (a b c d : ℕ) → a ≡ b → c < d → b + c < a + d
    grow a b c d same lt = omega arith

by_lists : (ps qs : List (ℕ × ℕ)) → IsList ps → IsList qs → sum_of_exponents ps ≡ sum_of_exponents qs → slice_cmp pair_cmp ps qs ≡ Less → First ps qs
by_lists [] [] c d s e = absurd (true≢false (ap is_eq e))
by_lists [] (q ∷ qs) c d s e = let k = positive q qs d in absurd (omega arith)
by_lists (p ∷ ps) [] c d s e = absurd (true≢false (ap is_gt e))
by_lists (p ∷ ps) (q ∷ qs) c d s e = go (nat_cmp p.0 q.0) (nat_cmp q.1 p.1) (ranks p.0 q.0) (ranks q.1 p.1) e (by_lists ps qs (rest p ps c) (rest q qs d))
  where
    lower : (x y : ℕ) → x < p.0 → p.0 ≡ y → x < y
    lower x y lt is = omega arith

    tails : (a b x y : ℕ) → a + x ≡ b + y → b ≡ a → x ≡ y
    tails a b x y h f = omega arith

    here : (a b : ℕ) → a ≡ 0 → 0 < b → a < b
    here a b z lt = omega arith

    go : (r t : Ordering) → MatchOrdering r (p.0 < q.0) (p.0 ≡ q.0) (q.0 < p.0) → MatchOrdering t (q.1 < p.1) (q.1 ≡ p.1) (p.1 < q.1) → ordering_then (ordering_then r t) (slice_cmp pair_cmp ps qs) ≡ Less
        → (sum_of_exponents ps ≡ sum_of_exponents qs → slice_cmp pair_cmp ps qs ≡ Less → First ps qs) → First (p ∷ ps) (q ∷ qs)
    go Less t lt k f ih = record {
      place = p.0;
      greater = subst (λ z. at p.0 (q ∷ qs) < z) (sym (head p ps c)) (here _ _ (none_below p.0 q qs d lt) (positive p ps c));
      before = λ w l. none_below w p ps c l ∙ sym (none_below w q qs d (omega arith));
    }
    go Equal Less is k f ih = record {
      place = p.0;
      greater = subst (λ z. at p.0 (q ∷ qs) < z) (sym (head p ps c)) (subst (λ z. z < p.1) (sym (ap (λ x. at x (q ∷ qs)) is ∙ head q qs d)) k);
      before = λ w l. none_below w p ps c l ∙ sym (none_below w q qs d (lower w q.0 l is));
    }
    go Equal Equal is k f ih = headed p q ps qs is (sym k) (ih (tails p.1 q.1 (sum_of_exponents ps) (sum_of_exponents qs) s k) f)
    go Equal Greater is k f ih = absurd (true≢false (ap is_gt f))
    go Greater t gt k f ih = absurd (true≢false (ap is_gt f))

abbrev pub IsBefore : Monomial → Monomial → Type 0
IsBefore m n = (degree n < degree m) ⊎ ((degree m ≡ degree n) × HasFirstGreater m n)

in_words : (m n : Monomial) → monomial_cmp m n ≡ Less → IsBefore m n
in_words m n e = go (nat_cmp (degree n) (degree m)) (ranks (degree n) (degree m)) e
  where
    told : First m.list n.list → HasFirstGreater m n
    told k = record { variable = k.place; greater = k.greater; before = k.before }

    go : (r : Ordering) → MatchOrdering r (degree n < degree m) (degree n ≡ degree m) (degree m < degree n) → ordering_then r (slice_cmp pair_cmp m.list n.list) ≡ Less → IsBefore m n
    go Less lt f = inl lt
    go Equal is f = inr (sym is, told (by_lists m.list n.list m.canonical n.canonical (sym is) f))
    go Greater gt f = absurd (true≢false (ap is_gt f))

not_both : (m n : Monomial) → IsBefore m n → IsBefore n m → ⊥
not_both m n (inl a) (inl b) = omega arith
not_both m n (inl a) (inr b) = let e = b.0 in omega arith
not_both m n (inr a) (inl b) = let e = a.0 in omega arith
not_both m n (inr a) (inr b) = go (nat_cmp a.1.variable b.1.variable) (ranks a.1.variable b.1.variable)
  where
    go : (r : Ordering) → MatchOrdering r (a.1.variable < b.1.variable) (a.1.variable ≡ b.1.variable) (b.1.variable < a.1.variable) → ⊥
    go Less lt = let e = b.1.before a.1.variable lt in let g = a.1.greater in omega arith
    go Equal is = let g = a.1.greater in let h = subst (λ v. exponent m v < exponent n v) (sym is) b.1.greater in omega arith
    go Greater gt = let e = a.1.before b.1.variable gt in let g = b.1.greater in omega arith

pub by_exponents : PrintOrderIsByExponents
by_exponents m n = (in_words m n, λ k. go (monomial_cmp m n) refl k)
  where
    go : (r : Ordering) → monomial_cmp m n ≡ r → IsBefore m n → monomial_cmp m n ≡ Less
    go Less e k = e
    go Equal e k = absurd (not_both m m (subst (IsBefore m) (sym (monomial_cmp-IsAntisymmetric m n e)) k) (subst (IsBefore m) (sym (monomial_cmp-IsAntisymmetric m n e)) k))
    go Greater e k = absurd (not_both m n k (in_words n m (monomial_cmp_total.antisymm n m ∙ ap ordering_reverse e)))
