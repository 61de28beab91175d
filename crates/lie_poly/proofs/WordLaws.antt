-- Words are compared and added as their monomials are ordered and multiplied.
use Rattle.std.specs.Prelude.{◌≡◌, ℕ, zero, suc, length, get_or, ◌+◌, ◌*◌, ◌<◌, ◌≤◌, ◌⊎◌, Bool, true, false, cond, List, [], ◌∷◌}
use Rattle.std.proofs.Common.{refl, sym, ap, ap₂, ◌∙◌, subst, inl, inr, arith, Ordering, Less, Equal, Greater}
use Rattle.std.specs.Ordering.{nat_cmp, eq_by_cmp, ordering_reverse, MatchOrdering}
use Rattle.std.specs.Cmp.{tied_itself, ranks}
use Rattle.lie_math.specs.FiniteSumLaws.{sum-plus, ext}
use Rattle.lie_math.specs.Laws.{HasFirstGreater}
use Rattle.lie_math.specs.Monomial.{Monomial, exponent, degree, powers, monomial_cmp, ◌·◌}
use Rattle.lie_math.specs.Natural.{naturals, exponents, nat_idl}
use Rattle.lie_math.specs.SortedSum.{sum_of_entries, value_at}
use Rattle.lie_math.specs.MonomialOrder.{monomial_cmp_total}
use Rattle.std.specs.List.{AllByRecursion as Every}
use Rattle.lie_math.proofs.FiniteSum.{key}
use Rattle.lie_math.proofs.Monomial.{exponent-·}
use Rattle.lie_math.proofs.PrintedFirst.{by_exponents}
use Rattle.lie_poly.specs.Words.{written_behind, IsOneOf, RiseFrom, IsWord}

degree-· : (m n : Monomial) → degree (m · n) ≡ degree m + degree n
degree-· m n = sum-plus powers naturals (λ v e. e) (record { on_nil = λ v. refl; on_plus = λ v a b. refl }) m n

-- ---- products

digit : (a b base e f : ℕ) → (a + b) * base + (e + f) ≡ (a * base + e) + (b * base + f)
digit a b base e f = grind arith

written-· : (base a b : ℕ) (vs : List ℕ) (m n : Monomial) → written_behind base (a + b) vs (m · n) ≡ written_behind base a vs m + written_behind base b vs n
written-· base a b [] m n = refl
written-· base a b (v ∷ vs) m n =
    ap (λ k. written_behind base k vs (m · n)) (ap (λ k. (a + b) * base + k) (exponent-· m n v) ∙ digit a b base (exponent m v) (exponent n v))
    ∙ written-· base (a * base + exponent m v) (b * base + exponent n v) vs m n

pub word-· : (base : ℕ) (vs : List ℕ) (p q : ℕ) (m n : Monomial) (x y : ℕ) → IsWord base vs p m x → IsWord base vs q n y → IsWord base vs (p + q) (m · n) (x + y)
word-· base vs p q m n x y h k = record {
  is = ap₂ ◌+◌ h.is k.is ∙ sym (written-· base (degree m) (degree n) vs m n) ∙ ap (λ d. written_behind base d vs (m · n)) (sym (degree-· m n));
  held = λ v out. exponent-· m n v ∙ ap₂ ◌+◌ (h.held v out) (k.held v out);
  low = let a : degree m ≤ p = h.low in let b : degree n ≤ q = k.low in omega (arith, degree-· m n);
}

-- ---- the order

at_most : (v : ℕ) (ps : List (ℕ × ℕ)) → value_at nat_cmp exponents v ps ≤ sum_of_entries naturals (λ w e. e) ps
at_most v [] = omega arith
at_most v (p ∷ ps) = go (eq_by_cmp nat_cmp v p.0) (at_most v ps)
  where
    go : (t : Bool) → value_at nat_cmp exponents v ps ≤ sum_of_entries naturals (λ w e. e) ps → cond t p.1 0 + value_at nat_cmp exponents v ps ≤ p.1 + sum_of_entries naturals (λ w e. e) ps
    go true h = omega arith
    go false h = omega arith

pub exponent_at_most : (m : Monomial) (v : ℕ) → exponent m v ≤ degree m
exponent_at_most m v = at_most v m.list

scaled : (a b base : ℕ) → suc a ≤ b → a * base + base ≤ b * base
scaled a b base h = grind arith

written_lower : (base a b : ℕ) (vs : List ℕ) (m n : Monomial) → a < b → ((v : ℕ) → exponent m v < base) → written_behind base a vs m < written_behind base b vs n
written_lower base a b [] m n h low = h
written_lower base a b (v ∷ vs) m n h low =
    written_lower base (a * base + exponent m v) (b * base + exponent n v) vs m n
    (let l : exponent m v < base = low v in let s : a * base + base ≤ b * base = scaled a b base (omega arith) in omega arith) low

one_above : (k w : ℕ) (vs : List ℕ) → RiseFrom k vs → IsOneOf w vs → k ≤ w
one_above k w [] h i = absurd i
one_above k w (v ∷ vs) h (inl e) = let l : k ≤ v = h.0 in omega arith
one_above k w (v ∷ vs) h (inr i) = let l : k ≤ v = h.0 in let r : suc v ≤ w = one_above (suc v) w vs h.1 i in omega arith

-- the greater word is of the monomial with the first greater exponent
abbrev Verdict : ℕ → ℕ → Monomial → Monomial → Type 0
Verdict x y m n = ((y < x) × HasFirstGreater m n) ⊎ ((m ≡ n) ⊎ ((x < y) × HasFirstGreater n m))

module _ (base : ℕ) (m n : Monomial) (low : (v : ℕ) → exponent m v < base) (low_other : (v : ℕ) → exponent n v < base) where
  verdict : (k a : ℕ) (vs : List ℕ) → RiseFrom k vs → ((w : ℕ) → w < k → exponent m w ≡ exponent n w) → ((w : ℕ) → k ≤ w → ¬ (IsOneOf w vs) → exponent m w ≡ exponent n w) → Verdict (written_behind base a vs m) (written_behind base a vs n) m n
  verdict k a [] rise before out = inr (inl (ext powers m n (λ w. go w (nat_cmp w k) (ranks w k))))
    where
      go : (w : ℕ) (r : Ordering) → MatchOrdering r (w < k) (w ≡ k) (k < w) → exponent m w ≡ exponent n w
      go w Less lt = before w lt
      go w Equal is = out w (omega arith) (λ i. i)
      go w Greater gt = out w (omega arith) (λ i. i)
  verdict k a (v ∷ vs) rise before out =
      go (nat_cmp (exponent m v) (exponent n v)) (ranks (exponent m v) (exponent n v)) (λ is. verdict (suc v) (a * base + exponent m v) vs rise.1 (up_to is) further)
    where
      apart : (w : ℕ) → w < v → ¬ (IsOneOf w (v ∷ vs))
      apart w lt (inl e) = absurd (omega arith)
      apart w lt (inr i) = let g : suc v ≤ w = one_above (suc v) w vs rise.1 i in absurd (omega arith)

      below : (w : ℕ) → w < v → exponent m w ≡ exponent n w
      below w lt = pick (nat_cmp w k) (ranks w k)
        where
          pick : (r : Ordering) → MatchOrdering r (w < k) (w ≡ k) (k < w) → exponent m w ≡ exponent n w
          pick Less l = before w l
          pick Equal is = out w (omega arith) (apart w lt)
          pick Greater gt = out w (omega arith) (apart w lt)

      up_to : exponent m v ≡ exponent n v → (w : ℕ) → w < suc v → exponent m w ≡ exponent n w
      up_to e w lt = pick (nat_cmp w v) (ranks w v)
        where
          pick : (r : Ordering) → MatchOrdering r (w < v) (w ≡ v) (v < w) → exponent m w ≡ exponent n w
          pick Less l = below w l
          pick Equal is = ap (exponent m) is ∙ e ∙ sym (ap (exponent n) is)
          pick Greater gt = absurd (omega arith)

      further : (w : ℕ) → suc v ≤ w → ¬ (IsOneOf w vs) → exponent m w ≡ exponent n w
      further w le apart_from = let l : k ≤ v = rise.0 in out w (omega arith) (λ i. other i)
        where
          other : IsOneOf w (v ∷ vs) → ⊥
          other (inl e) = absurd (omega arith)
          other (inr i) = apart_from i

      go : (r : Ordering) → MatchOrdering r (exponent m v < exponent n v) (exponent m v ≡ exponent n v) (exponent n v < exponent m v)
          → (exponent m v ≡ exponent n v → Verdict (written_behind base (a * base + exponent m v) vs m) (written_behind base (a * base + exponent m v) vs n) m n)
          → Verdict (written_behind base a (v ∷ vs) m) (written_behind base a (v ∷ vs) n) m n
      go Less lt rest = inr (inr (written_lower base (a * base + exponent m v) (a * base + exponent n v) vs m n (omega arith) low, record { variable = v; greater = lt; before = λ w l. sym (below w l) }))
      go Equal is rest = subst (λ e. Verdict (written_behind base (a * base + exponent m v) vs m) (written_behind base (a * base + e) vs n) m n) is (rest is)
      go Greater gt rest = inl (written_lower base (a * base + exponent n v) (a * base + exponent m v) vs n m (omega arith) low_other, record { variable = v; greater = gt; before = below })

less_is : (x y : ℕ) → x < y → nat_cmp x y ≡ Less
less_is x y lt = go (nat_cmp x y) (ranks x y)
  where
    go : (r : Ordering) → MatchOrdering r (x < y) (x ≡ y) (y < x) → r ≡ Less
    go Less k = refl
    go Equal k = absurd (omega arith)
    go Greater k = absurd (omega arith)

greater_is : (x y : ℕ) → y < x → nat_cmp x y ≡ Greater
greater_is x y lt = go (nat_cmp x y) (ranks x y)
  where
    go : (r : Ordering) → MatchOrdering r (x < y) (x ≡ y) (y < x) → r ≡ Greater
    go Less k = absurd (omega arith)
    go Equal k = absurd (omega arith)
    go Greater k = refl

after : (m n : Monomial) → monomial_cmp n m ≡ Less → monomial_cmp m n ≡ Greater
after m n e = monomial_cmp_total.antisymm m n ∙ ap ordering_reverse e

pub word_cmp : (base : ℕ) (vs : List ℕ) (most : ℕ) (m n : Monomial) (x y : ℕ) → most < base → RiseFrom 0 vs → IsWord base vs most m x → IsWord base vs most n y → nat_cmp y x ≡ monomial_cmp m n
word_cmp base vs most m n x y lt rise h k = go (nat_cmp (degree m) (degree n)) (ranks (degree m) (degree n))
  where
    low : (v : ℕ) → exponent m v < base
    low v = let d : degree m ≤ most = h.low in omega (arith, exponent_at_most m v)

    low_other : (v : ℕ) → exponent n v < base
    low_other v = let d : degree n ≤ most = k.low in omega (arith, exponent_at_most n v)

    told : degree m ≡ degree n → Verdict x (written_behind base (degree m) vs n) m n → y ≡ written_behind base (degree m) vs n → nat_cmp y x ≡ monomial_cmp m n
    told d (inl g) is = less_is y x (omega arith) ∙ sym ((by_exponents m n).1 (inr (d, g.1)))
    told d (inr (inl e)) is = ap₂ nat_cmp (is ∙ ap (λ z. written_behind base (degree m) vs z) (sym e) ∙ sym h.is) refl ∙ tied_itself Rattle.std.specs.Cmp.nat_cmp_total x ∙ sym (ap (monomial_cmp m) (sym e) ∙ tied_itself monomial_cmp_total m)
    told d (inr (inr l)) is = greater_is y x (omega arith) ∙ sym (after m n ((by_exponents n m).1 (inr (sym d, l.1))))

    go : (r : Ordering) → MatchOrdering r (degree m < degree n) (degree m ≡ degree n) (degree n < degree m) → nat_cmp y x ≡ monomial_cmp m n
    go Less l = greater_is y x (subst₂′ h.is k.is (written_lower base (degree m) (degree n) vs m n l low)) ∙ sym (after m n ((by_exponents n m).1 (inl l)))
      where
        subst₂′ : {a b c d : ℕ} → a ≡ c → b ≡ d → c < d → a < b
        subst₂′ e f g = omega arith
    go Equal d =
        told d (subst (λ z. Verdict z (written_behind base (degree m) vs n) m n) (sym h.is) (verdict base m n low low_other 0 (degree m) vs rise (λ w l. absurd (omega arith)) (λ w l out. h.held w out ∙ sym (k.held w out))))
        (k.is ∙ ap (λ z. written_behind base z vs n) (sym d))
    go Greater l = less_is y x (subst₂′ k.is h.is (written_lower base (degree n) (degree m) vs n m l low_other)) ∙ sym ((by_exponents m n).1 (inl l))
      where
        subst₂′ : {a b c d : ℕ} → a ≡ c → b ≡ d → c < d → a < b
        subst₂′ e f g = omega arith

-- ---- what is found in lists

pub one_at : (vs : List ℕ) (i w : ℕ) → i < length vs → w ≡ get_or vs i 0 → IsOneOf w vs
one_at [] i w lt e = absurd (omega arith)
one_at (v ∷ vs) zero w lt e = inl e
one_at (v ∷ vs) (suc i) w lt e = inr (one_at vs i w (omega arith) e)

absent : (vs : List ℕ) (v : ℕ) (ps : List (ℕ × ℕ)) → ¬ (IsOneOf v vs) → Every (λ (p : ℕ × ℕ). IsOneOf p.0 vs) ps → value_at nat_cmp exponents v ps ≡ 0
absent vs v [] out h = refl
absent vs v (p ∷ ps) out h = go (eq_by_cmp nat_cmp v p.0) refl (absent vs v ps out h.1)
  where
    go : (t : Bool) → eq_by_cmp nat_cmp v p.0 ≡ t → value_at nat_cmp exponents v ps ≡ 0 → cond t p.1 0 + value_at nat_cmp exponents v ps ≡ 0
    go true e z = absurd (out (subst (λ w. IsOneOf w vs) (sym (key powers v p.0 e)) h.0))
    go false e z = nat_idl _ ∙ z

pub held_of : (vs : List ℕ) (m : Monomial) (ps : List (ℕ × ℕ)) → ps ≡ m.list → Every (λ (p : ℕ × ℕ). IsOneOf p.0 vs) ps → (v : ℕ) → ¬ (IsOneOf v vs) → exponent m v ≡ 0
held_of vs m ps e h v out = absent vs v m.list out (subst (Every (λ (p : ℕ × ℕ). IsOneOf p.0 vs)) e h)
