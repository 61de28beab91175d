-- A product of polynomials is nothing only where a factor is.
use Rattle.std.specs.Prelude.{◌≡◌, ℕ, zero, suc, ◌+◌, ◌*◌, ◌<◌, ◌≤◌, Bool, true, false, cond, T, List, [], ◌∷◌, ℤ, pos, ◌*ℤ◌, ◌+ℤ◌, max}
use Rattle.std.proofs.Common.{refl, sym, ap, ap₂, subst, ◌∙◌, arith, true≢false, Ordering, Less, Equal, Greater, is_eq, is_gt}
use lib.IntN.{zero-*ℤ, *ℤ-zero}
use Rattle.std.specs.List.{AllByRecursion as Every}
use Rattle.std.specs.Ordering.{eq_by_cmp, nat_cmp, then_cmp, on, ordering_then, ordering_reverse, MatchOrdering}
use Rattle.std.specs.Cmp.{IsTotalOrder, nat_cmp_total, on_total, then_total, tied_itself, upto, ranks}
use Rattle.lie_math.specs.Natural.{naturals, maxima}
use Rattle.lie_math.specs.Integer.{*ℤ-distl, *ℤ-distr, integers}
use Rattle.lie_math.specs.SortedSum.{sum_of_entries}
use Rattle.lie_math.specs.Canonical.{sum_of_entries-map, sum_of_entries-nil}
use Rattle.lie_math.specs.FiniteSumLaws.{ext, value-none, value-plus, value-term, same_list}
use Rattle.lie_math.proofs.FiniteSum.{key, sum_of_entries-same, entries_of}
use Rattle.lie_math.specs.FiniteSum as finite
use Rattle.lie_math.specs.Monomial.{Monomial, ◌·◌, exponent, powers, monomial_cmp}
use Rattle.lie_math.specs.MonomialOrder.{then_equal, ·_comm}
use Rattle.lie_math.proofs.Monomial.{same_monomial, exponent-·}
use Rattle.lie_math.specs.Polynomial.{WholePolynomial, polynomials, terms, term, coefficient, ◌*ᴾ◌, 0ᴾ}
use Rattle.lie_math.proofs.Integer.{no_zero_divisors_ℤ}

-- ---- monomials by their exponents in turn
abbrev lex : List ℕ → Monomial → Monomial → Ordering
lex [] = on (λ (m : Monomial). 0) nat_cmp
lex (v ∷ vs) = then_cmp (on (λ (m : Monomial). exponent m v) nat_cmp) (lex vs)

lex_total : (vs : List ℕ) → IsTotalOrder (lex vs)
lex_total [] = on_total (λ (m : Monomial). 0) nat_cmp_total
lex_total (v ∷ vs) = then_total (on_total (λ (m : Monomial). exponent m v) nat_cmp_total) (lex_total vs)

one_answer : (x y a b : ℕ) → (x < y → a < b) → (x ≡ y → a ≡ b) → (y < x → b < a) → (r s : Ordering) → MatchOrdering r (x < y) (x ≡ y) (y < x) → MatchOrdering s (a < b) (a ≡ b) (b < a) → r ≡ s
one_answer x y a b f g h Less Less p q = refl
one_answer x y a b f g h Less Equal p q = let k = f p in absurd (omega arith)
one_answer x y a b f g h Less Greater p q = let k = f p in absurd (omega arith)
one_answer x y a b f g h Equal Less p q = let k = g p in absurd (omega arith)
one_answer x y a b f g h Equal Equal p q = refl
one_answer x y a b f g h Equal Greater p q = let k = g p in absurd (omega arith)
one_answer x y a b f g h Greater Less p q = let k = h p in absurd (omega arith)
one_answer x y a b f g h Greater Equal p q = let k = h p in absurd (omega arith)
one_answer x y a b f g h Greater Greater p q = refl

pub nat_cmp_shift : (a b c : ℕ) → nat_cmp (a + c) (b + c) ≡ nat_cmp a b
nat_cmp_shift a b c = one_answer (a + c) (b + c) a b (λ h. omega arith) (λ h. omega arith) (λ h. omega arith) (nat_cmp (a + c) (b + c)) (nat_cmp a b) (ranks (a + c) (b + c)) (ranks a b)

lex-· : (vs : List ℕ) (m n k : Monomial) → lex vs (m · k) (n · k) ≡ lex vs m n
lex-· [] m n k = refl
lex-· (v ∷ vs) m n k = ap₂ ordering_then (ap₂ nat_cmp (exponent-· m k v) (exponent-· n k v) ∙ nat_cmp_shift (exponent m v) (exponent n v) (exponent k v)) (lex-· vs m n k)

lex_equal : (vs : List ℕ) (m n : Monomial) → lex vs m n ≡ Equal → Every (λ v. exponent m v ≡ exponent n v) vs
lex_equal [] m n e = tt
lex_equal (v ∷ vs) m n e = let p = then_equal (nat_cmp (exponent m v) (exponent n v)) (lex vs m n) e in (Rattle.std.specs.FinMap.nat_cmp-IsAntisymmetric (exponent m v) (exponent n v) p.0, lex_equal vs m n p.1)

-- ---- variables past the width of a monomial do not occur
abbrev width : Monomial → ℕ
width m = suc (sum_of_entries maxima (λ v e. v) m.list)

past_width : (m : Monomial) (v : ℕ) → width m ≤ v → exponent m v ≡ 0
past_width m v le = sum_of_entries-same naturals _ (λ w e. 0) m.list (go m.list (omega arith)) ∙ sum_of_entries-nil naturals m.list
  where
    one : (e : ℕ × ℕ) → e.0 < v → (t : Bool) → eq_by_cmp nat_cmp v e.0 ≡ t → cond t e.1 0 ≡ 0
    one e lt true f = absurd (let s : v ≡ e.0 = key powers v e.0 f in omega arith)
    one e lt false f = refl

    go : (es : List (ℕ × ℕ)) → sum_of_entries maxima (λ w e. w) es < v → Every (λ (e : ℕ × ℕ). cond (eq_by_cmp nat_cmp v e.0) e.1 0 ≡ 0) es
    go [] lt = tt
    go (e ∷ es) lt = (one e (omega arith) (eq_by_cmp nat_cmp v e.0) refl, go es (omega arith))

abbrev down_from : ℕ → List ℕ
down_from zero = []
down_from (suc n) = n ∷ down_from n

within : (P : ℕ → Type 0) (n : ℕ) → Every P (down_from n) → (v : ℕ) → v < n → P v
within P zero h v lt = absurd (omega arith)
within P (suc n) h v lt = go (Rattle.std.specs.Prelude.eqb v n) refl (within P n h.1 v)
  where
    go : (t : Bool) → Rattle.std.specs.Prelude.eqb v n ≡ t → (v < n → P v) → P v
    go true e r = subst P (sym (Rattle.std.proofs.Common.eqb→eq v n (subst T (sym e) tt))) h.0
    go false e r = let ne : ¬ (v ≡ n) = λ s. true≢false (sym (Rattle.std.proofs.Common.eq-eqb v n s) ∙ e) in r (omega arith)

same_monos : (n : ℕ) (a b : Monomial) → width a ≤ n → width b ≤ n → lex (down_from n) a b ≡ Equal → a ≡ b
same_monos n a b h k e = ext powers a b (λ v. go v (Rattle.std.specs.Prelude.ltb v n) refl)
  where
    go : (v : ℕ) (t : Bool) → Rattle.std.specs.Prelude.ltb v n ≡ t → exponent a v ≡ exponent b v
    go v true f = within (λ v. exponent a v ≡ exponent b v) n (lex_equal (down_from n) a b e) v (Rattle.std.proofs.Common.ltb-true v n f)
    go v false f = let le = Rattle.std.proofs.Common.ltb-false v n f in past_width a v (omega arith) ∙ sym (past_width b v (omega arith))

pub cancel_mono : (k a b : Monomial) → k · a ≡ k · b → a ≡ b
cancel_mono k a b e = ext powers a b (λ v. off (exponent k v) (exponent a v) (exponent b v) (sym (exponent-· k a v) ∙ ap (λ m. exponent m v) e ∙ exponent-· k b v))
  where
    off : (x y z : ℕ) → x + y ≡ x + z → y ≡ z
    off x y z e = omega arith

-- ---- an entry at which no other is above
record Top (vs : List ℕ) (es : List (Monomial × ℤ)) : Type 1 where
  mono : Monomial
  member : (P : Monomial → Type 0) → Every (λ (e : Monomial × ℤ). P e.0) es → P mono
  greatest : Every (λ (e : Monomial × ℤ). is_gt (lex vs e.0 mono) ≡ false) es

up : (vs : List ℕ) (a b : Monomial) (es : List (Monomial × ℤ)) → is_gt (lex vs a b) ≡ false → Every (λ (e : Monomial × ℤ). is_gt (lex vs e.0 a) ≡ false) es → Every (λ (e : Monomial × ℤ). is_gt (lex vs e.0 b) ≡ false) es
up vs a b [] h k = tt
up vs a b (e ∷ es) h k = (upto (lex_total vs) e.0 a b k.0 h, up vs a b es h k.1)

itself : (vs : List ℕ) (m : Monomial) → is_gt (lex vs m m) ≡ false
itself vs m = ap is_gt (tied_itself (lex_total vs) m)

turned : (r s : Ordering) → r ≡ Rattle.std.specs.Ordering.ordering_reverse s → is_gt s ≡ true → is_gt r ≡ false
turned r Less e h = absurd (true≢false (sym h))
turned r Equal e h = absurd (true≢false (sym h))
turned r Greater e h = ap is_gt e

top : (vs : List ℕ) (e : Monomial × ℤ) (es : List (Monomial × ℤ)) → Top vs (e ∷ es)
top vs e [] = record { mono = e.0; member = λ P h. h.0; greatest = (itself vs e.0, tt) }
top vs e (x ∷ es) = go (top vs x es) (is_gt (lex vs e.0 (top vs x es).mono)) refl
  where
    go : (t : Top vs (x ∷ es)) (b : Bool) → is_gt (lex vs e.0 t.mono) ≡ b → Top vs (e ∷ x ∷ es)
    go t true h = record { mono = e.0; member = λ P k. k.0; greatest = (itself vs e.0, up vs t.mono e.0 (x ∷ es) (turned (lex vs t.mono e.0) (lex vs e.0 t.mono) ((lex_total vs).antisymm t.mono e.0) h) t.greatest) }
    go t false h = record { mono = t.mono; member = λ P k. t.member P k.1; greatest = (h, t.greatest) }

-- ---- the product
apart_entries : (p : WholePolynomial) → Every (λ (e : Monomial × ℤ). ¬ (coefficient p e.0 ≡ pos 0)) p.list
apart_entries p = entries_of terms p (λ e. ¬ (coefficient p e.0 ≡ pos 0)) (λ e is apart z. apart (sym is ∙ z))

module _ (N : ℕ) (p q : WholePolynomial) (m0 n0 : Monomial) where
  abbrev IsUpTo : Monomial → Monomial × ℤ → Type 0
  IsUpTo k e = (width e.0 ≤ N) × (is_gt (lex (down_from N) e.0 k) ≡ false)

  module _ (wm : width m0 ≤ N) (wn : width n0 ≤ N) where
    -- two factors below the tops whose product is that of the tops are the tops
    only : (m n : Monomial) → width m ≤ N → is_gt (lex (down_from N) m m0) ≡ false → is_gt (lex (down_from N) n n0) ≡ false → m0 · n0 ≡ m · n → m0 ≡ m
    only m n wm' hm hn e = go (lex (down_from N) m m0) refl
      where
        up2 : is_gt (lex (down_from N) (m0 · n) (m0 · n0)) ≡ false
        up2 = ap is_gt (ap₂ (lex (down_from N)) (·_comm m0 n) (·_comm m0 n0) ∙ lex-· (down_from N) n n0 m0) ∙ hn

        go : (r : Ordering) → lex (down_from N) m m0 ≡ r → m0 ≡ m
        go Less f = absurd (true≢false (sym (ap is_gt ((lex_total (down_from N)).antisymm (m0 · n) (m · n) ∙ ap ordering_reverse (lex-· (down_from N) m m0 n ∙ f))) ∙ ap (λ k. is_gt (lex (down_from N) (m0 · n) k)) (sym e) ∙ up2))
        go Equal f = sym (same_monos N m m0 wm' wm f)
        go Greater f = absurd (true≢false (sym (ap is_gt f) ∙ hm))

    entry : (m n : Monomial) (a b : ℤ) → width m ≤ N → is_gt (lex (down_from N) m m0) ≡ false → is_gt (lex (down_from N) n n0) ≡ false → (s t u : Bool) → eq_by_cmp monomial_cmp (m0 · n0) (m · n) ≡ s → eq_by_cmp monomial_cmp m0 m ≡ t → eq_by_cmp monomial_cmp n0 n ≡ u → cond s (a *ℤ b) (pos 0) ≡ cond t a (pos 0) *ℤ cond u b (pos 0)
    entry m n a b w hm hn true t u e f g =
        let k : m0 · n0 ≡ m · n = key terms (m0 · n0) (m · n) e in
        let i : m0 ≡ m = only m n w hm hn k in
        let j : n0 ≡ n = cancel_mono m0 n0 n (k ∙ ap (λ x. x · n) (sym i)) in
        ap₂ (λ x y. cond x a (pos 0) *ℤ cond y b (pos 0)) (sym (ap (λ x. eq_by_cmp monomial_cmp m0 x) (sym i) ∙ same_monomial m0) ∙ f) (sym (ap (λ x. eq_by_cmp monomial_cmp n0 x) (sym j) ∙ same_monomial n0) ∙ g)
    entry m n a b w hm hn false true true e f g = absurd (true≢false (sym (ap₂ (λ x y. eq_by_cmp monomial_cmp (m0 · n0) (x · y)) (sym (key terms m0 m f)) (sym (key terms n0 n g)) ∙ same_monomial (m0 · n0)) ∙ e))
    entry m n a b w hm hn false true false e f g = sym (*ℤ-zero a)
    entry m n a b w hm hn false false u e f g = sym (zero-*ℤ (cond u b (pos 0)))

    top_coefficient : Every (IsUpTo m0) p.list → Every (IsUpTo n0) q.list → coefficient (p *ᴾ q) (m0 · n0) ≡ coefficient p m0 *ℤ coefficient q n0
    unfolding ◌*ᴾ◌
    top_coefficient hp hq =
        sum_of_entries-map polynomials integers (λ s. coefficient s (m0 · n0)) (value-none terms (m0 · n0)) (λ x y. value-plus terms x y (m0 · n0)) _ p.list
        ∙ sum_of_entries-same integers _ (λ m a. cond (eq_by_cmp monomial_cmp m0 m) a (pos 0) *ℤ coefficient q n0) p.list (outer p.list hp)
        ∙ sym (sum_of_entries-map integers integers (λ z. z *ℤ coefficient q n0) (zero-*ℤ (coefficient q n0)) (λ x y. *ℤ-distr x y (coefficient q n0)) (λ m a. cond (eq_by_cmp monomial_cmp m0 m) a (pos 0)) p.list)
      where
        inner : (m : Monomial) (a : ℤ) → width m ≤ N → is_gt (lex (down_from N) m m0) ≡ false → (fs : List (Monomial × ℤ)) → Every (IsUpTo n0) fs → Every (λ (f : Monomial × ℤ). coefficient (term (m · f.0) (a *ℤ f.1)) (m0 · n0) ≡ cond (eq_by_cmp monomial_cmp m0 m) a (pos 0) *ℤ cond (eq_by_cmp monomial_cmp n0 f.0) f.1 (pos 0)) fs
        inner m a w h [] k = tt
        inner m a w h (f ∷ fs) k = (value-term terms (m · f.0) (a *ℤ f.1) (m0 · n0) ∙ entry m f.0 a f.1 w h (k.0).1 _ _ _ refl refl refl, inner m a w h fs k.1)

        outer : (es : List (Monomial × ℤ)) → Every (IsUpTo m0) es → Every (λ (e : Monomial × ℤ). coefficient (sum_of_entries polynomials (λ n b. term (e.0 · n) (e.1 *ℤ b)) q.list) (m0 · n0) ≡ cond (eq_by_cmp monomial_cmp m0 e.0) e.1 (pos 0) *ℤ coefficient q n0) es
        outer [] h = tt
        outer (e ∷ es) h = (
          sum_of_entries-map polynomials integers (λ s. coefficient s (m0 · n0)) (value-none terms (m0 · n0)) (λ x y. value-plus terms x y (m0 · n0)) (λ n b. term (e.0 · n) (e.1 *ℤ b)) q.list
              ∙ sum_of_entries-same integers _ (λ n b. cond (eq_by_cmp monomial_cmp m0 e.0) e.1 (pos 0) *ℤ cond (eq_by_cmp monomial_cmp n0 n) b (pos 0)) q.list (inner e.0 e.1 (h.0).0 (h.0).1 q.list hq)
              ∙ sym (sum_of_entries-map integers integers (λ z. cond (eq_by_cmp monomial_cmp m0 e.0) e.1 (pos 0) *ℤ z) (*ℤ-zero (cond (eq_by_cmp monomial_cmp m0 e.0) e.1 (pos 0))) (*ℤ-distl (cond (eq_by_cmp monomial_cmp m0 e.0) e.1 (pos 0))) (λ n b. cond (eq_by_cmp monomial_cmp n0 n) b (pos 0)) q.list),
          outer es h.1,
        )

-- the width of a list of terms
abbrev widths : List (Monomial × ℤ) → ℕ
widths es = sum_of_entries maxima (λ m a. width m) es

all_within : (N : ℕ) (es : List (Monomial × ℤ)) → widths es ≤ N → Every (λ (e : Monomial × ℤ). width e.0 ≤ N) es
all_within N [] h = tt
all_within N (e ∷ es) h = (omega arith, all_within N es (omega arith))

both_up : (N : ℕ) (k : Monomial) (es : List (Monomial × ℤ)) → Every (λ (e : Monomial × ℤ). width e.0 ≤ N) es → Every (λ (e : Monomial × ℤ). is_gt (lex (down_from N) e.0 k) ≡ false) es → Every (λ (e : Monomial × ℤ). (width e.0 ≤ N) × (is_gt (lex (down_from N) e.0 k) ≡ false)) es
both_up N k [] h g = tt
both_up N k (e ∷ es) h g = ((h.0, g.0), both_up N k es h.1 g.1)

apart_product : (p q : WholePolynomial) (es fs : List (Monomial × ℤ)) (e f : Monomial × ℤ) → p.list ≡ e ∷ es → q.list ≡ f ∷ fs → ¬ (p *ᴾ q ≡ 0ᴾ)
apart_product p q es fs e f ep eq z =
    let N : ℕ = max (widths p.list) (widths q.list) in
    let t : Top (down_from N) p.list = subst (Top (down_from N)) (sym ep) (top (down_from N) e es) in
    let u : Top (down_from N) q.list = subst (Top (down_from N)) (sym eq) (top (down_from N) f fs) in
    let wp : Every (λ (x : Monomial × ℤ). width x.0 ≤ N) p.list = all_within N p.list (left (widths p.list) (widths q.list)) in
    let wq : Every (λ (x : Monomial × ℤ). width x.0 ≤ N) q.list = all_within N q.list (right (widths p.list) (widths q.list)) in
    let c : coefficient (p *ᴾ q) (t.mono · u.mono) ≡ coefficient p t.mono *ℤ coefficient q u.mono =
    top_coefficient N p q t.mono u.mono (t.member (λ m. width m ≤ N) wp) (u.member (λ m. width m ≤ N) wq) (both_up N t.mono p.list wp t.greatest) (both_up N u.mono q.list wq u.greatest) in
    u.member (λ m. ¬ (coefficient q m ≡ pos 0)) (apart_entries q)
    (no_zero_divisors_ℤ (coefficient p t.mono) (coefficient q u.mono) (t.member (λ m. ¬ (coefficient p m ≡ pos 0)) (apart_entries p)) (sym c ∙ ap (λ s. coefficient s (t.mono · u.mono)) z ∙ value-none terms (t.mono · u.mono)))
  where
    left : (a b : ℕ) → a ≤ max a b
    left a b = omega arith

    right : (a b : ℕ) → b ≤ max a b
    right a b = omega arith

empty : (p : WholePolynomial) → p.list ≡ [] → p ≡ 0ᴾ
unfolding finite.none finite.of
empty p e = same_list terms p 0ᴾ e

-- THE LAW
pub no_zero_divisors : (p q : WholePolynomial) → ¬ (p ≡ 0ᴾ) → p *ᴾ q ≡ 0ᴾ → q ≡ 0ᴾ
no_zero_divisors p q n z = go p.list q.list refl refl
  where
    go : (es fs : List (Monomial × ℤ)) → p.list ≡ es → q.list ≡ fs → q ≡ 0ᴾ
    go [] fs e f = absurd (n (empty p e))
    go (e ∷ es) [] k f = empty q f
    go (e ∷ es) (f ∷ fs) k l = absurd (apart_product p q es fs e f k l z)
