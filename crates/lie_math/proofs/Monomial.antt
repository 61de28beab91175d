-- The print order of monomials by the lists of their powers, and the exponents of products and powers.
use Rattle.std.specs.Prelude.{◌≡◌, ℕ, suc, ◌+◌, ◌-◌, Bool, true, false, cond, List, [], ◌∷◌}
use Rattle.std.proofs.Common.{refl, sym, ap, ap₂, ◌∙◌, arith, is_eq, Ordering}
use Rattle.std.specs.Ordering.{eq_by_cmp, nat_cmp, ordering_then}
use Rattle.std.specs.Cmp.{tied_itself, nat_cmp_total}
use Rattle.std.specs.Cmp.Lexicographic.{slice_cmp}
use Rattle.lie_math.specs.Natural.{naturals, nat_idl}
use Rattle.lie_math.specs.SortedSum.{sum_of_entries}
use Rattle.lie_math.specs.Monomial.{Monomial, ◌·◌, exponent, single, power_of, monomial_cmp, monomial_of, pair_cmp, powers, unit}
use Rattle.lie_math.specs.FiniteSum.{IsCanonical}
use Rattle.lie_math.specs.MonomialOrder.{monomial_cmp_total, ·_comm, ·_idl}
use Rattle.lie_math.specs.FiniteSumLaws.{value-plus, value-term, ext}
use Rattle.lie_math.proofs.FiniteSum.{value-put, key}
use Rattle.lie_math.specs.PartialDerivative.{lower}
use Rattle.lie_math.specs.FiniteSum as finite
use Rattle.lie_math.specs.FiniteSumLaws as finite_laws

abbrev pub pairs_degree : List (ℕ × ℕ) → ℕ
pairs_degree [] = 0
pairs_degree (p ∷ ps) = p.1 + pairs_degree ps

-- the order of monomials, by their pairs
abbrev pub pairs_cmp : List (ℕ × ℕ) → List (ℕ × ℕ) → Ordering
pairs_cmp ps qs = ordering_then (nat_cmp (pairs_degree qs) (pairs_degree ps)) (slice_cmp pair_cmp ps qs)

pairs_degree_is : (ps : List (ℕ × ℕ)) → pairs_degree ps ≡ sum_of_entries naturals (λ v e. e) ps
pairs_degree_is [] = refl
pairs_degree_is (p ∷ ps) = ap (λ n. p.1 + n) (pairs_degree_is ps)

pub pairs_cmp_is : (ps qs : List (ℕ × ℕ)) → IsCanonical powers ps → IsCanonical powers qs → pairs_cmp ps qs ≡ monomial_cmp (monomial_of ps) (monomial_of qs)
pairs_cmp_is ps qs h k =
    ap₂ (λ a b. ordering_then (nat_cmp b a) (slice_cmp pair_cmp ps qs)) (pairs_degree_is ps) (pairs_degree_is qs)
    ∙ ap₂ (λ xs ys. ordering_then (nat_cmp (sum_of_entries naturals (λ v e. e) ys) (sum_of_entries naturals (λ v e. e) xs)) (slice_cmp pair_cmp xs ys)) (sym (finite_laws.list-of powers ps h)) (sym (finite_laws.list-of powers qs k))

-- ---- exponents
pub exponent-single : (v q : ℕ) → exponent (single v) q ≡ cond (eq_by_cmp nat_cmp q v) 1 0
exponent-single v q = value-term powers v 1 q

pub exponent-· : (m n : Monomial) (q : ℕ) → exponent (m · n) q ≡ exponent m q + exponent n q
exponent-· m n q = value-plus powers m n q

pub same_variable : (v : ℕ) → eq_by_cmp nat_cmp v v ≡ true
same_variable v = ap is_eq (tied_itself nat_cmp_total v)

pub exponent_raised : (v : ℕ) (n : Monomial) → exponent (single v · n) v ≡ suc (exponent n v)
exponent_raised v n = exponent-· (single v) n v ∙ ap (λ k. k + exponent n v) (exponent-single v v ∙ ap (λ t. cond t 1 0) (same_variable v)) ∙ plain (exponent n v)
  where
    plain : (k : ℕ) → 1 + k ≡ suc k
    plain k = omega arith

pub exponent-lower : (v q : ℕ) (m : Monomial) → exponent (lower v m) q ≡ cond (eq_by_cmp nat_cmp q v) (exponent m v - 1) (exponent m q)
exponent-lower v q m = value-put powers v (exponent m v - 1) m q

pub lower_raised : (v : ℕ) (n : Monomial) → lower v (single v · n) ≡ n
lower_raised v n = ext powers (lower v (single v · n)) n (λ q. exponent-lower v q (single v · n) ∙ go q (eq_by_cmp nat_cmp q v) refl)
  where
    less : (a b : ℕ) → a ≡ suc b → a - 1 ≡ b
    less a b e = omega arith

    none : (a b : ℕ) → 0 + b ≡ b
    none a b = omega arith

    go : (q : ℕ) (t : Bool) → eq_by_cmp nat_cmp q v ≡ t → cond t (exponent (single v · n) v - 1) (exponent (single v · n) q) ≡ exponent n q
    go q true e = less _ _ (exponent_raised v n) ∙ sym (ap (exponent n) (key powers q v e))
    go q false e = exponent-· (single v) n q ∙ ap (λ k. k + exponent n q) (exponent-single v q ∙ ap (λ t. cond t 1 0) e) ∙ none 0 (exponent n q)

pub raised_lower : (v x : ℕ) (m : Monomial) → exponent m v ≡ suc x → single v · lower v m ≡ m
raised_lower v x m h = ext powers (single v · lower v m) m (λ q. exponent-· (single v) (lower v m) q ∙ ap₂ ◌+◌ (exponent-single v q) (exponent-lower v q m) ∙ go q (eq_by_cmp nat_cmp q v) refl)
  where
    more : (a b : ℕ) → a ≡ suc b → 1 + (a - 1) ≡ a
    more a b e = omega arith

    none : (b : ℕ) → 0 + b ≡ b
    none b = omega arith

    go : (q : ℕ) (t : Bool) → eq_by_cmp nat_cmp q v ≡ t → cond t 1 0 + cond t (exponent m v - 1) (exponent m q) ≡ exponent m q
    go q true e = more _ _ h ∙ sym (ap (exponent m) (key powers q v e))
    go q false e = none (exponent m q)

pub same_monomial : (m : Monomial) → eq_by_cmp monomial_cmp m m ≡ true
same_monomial m = ap is_eq (tied_itself monomial_cmp_total m)

pub exponent-power_of : (v e q : ℕ) → exponent (power_of v e) q ≡ cond (eq_by_cmp nat_cmp q v) e 0
exponent-power_of v e q = value-term powers v e q

-- m without v
abbrev pub bare : ℕ → Monomial → Monomial
bare v m = finite.put powers v 0 m

pub exponent-bare : (v : ℕ) (m : Monomial) (q : ℕ) → exponent (bare v m) q ≡ cond (eq_by_cmp nat_cmp q v) 0 (exponent m q)
exponent-bare v m q = value-put powers v 0 m q

pub exponent_bared : (v : ℕ) (m : Monomial) → exponent (bare v m) v ≡ 0
exponent_bared v m = exponent-bare v m v ∙ ap (λ t. cond t 0 (exponent m v)) (same_variable v)

pub exponent_powered : (v e : ℕ) (m : Monomial) → exponent (power_of v e · m) v ≡ e + exponent m v
exponent_powered v e m = exponent-· (power_of v e) m v ∙ ap (λ k. k + exponent m v) (exponent-power_of v e v ∙ ap (λ t. cond t e 0) (same_variable v))

pub plus_zero : (n : ℕ) → n + 0 ≡ n
plus_zero n = omega arith

-- m is its power of v times the rest
pub powered_bare : (v e : ℕ) (m : Monomial) → exponent m v ≡ e → power_of v e · bare v m ≡ m
powered_bare v e m h = ext powers (power_of v e · bare v m) m (λ q. exponent-· (power_of v e) (bare v m) q ∙ ap₂ ◌+◌ (exponent-power_of v e q) (exponent-bare v m q) ∙ go q (eq_by_cmp nat_cmp q v) refl)
  where
    go : (q : ℕ) (t : Bool) → eq_by_cmp nat_cmp q v ≡ t → cond t e 0 + cond t 0 (exponent m q) ≡ exponent m q
    go q true k = plus_zero e ∙ sym h ∙ sym (ap (exponent m) (key powers q v k))
    go q false k = nat_idl (exponent m q)

pub bare_powered : (v e : ℕ) (n : Monomial) → exponent n v ≡ 0 → bare v (power_of v e · n) ≡ n
bare_powered v e n h = ext powers (bare v (power_of v e · n)) n (λ q. exponent-bare v (power_of v e · n) q ∙ go q (eq_by_cmp nat_cmp q v) refl)
  where
    go : (q : ℕ) (t : Bool) → eq_by_cmp nat_cmp q v ≡ t → cond t 0 (exponent (power_of v e · n) q) ≡ exponent n q
    go q true k = sym h ∙ sym (ap (exponent n) (key powers q v k))
    go q false k = exponent-· (power_of v e) n q ∙ ap (λ x. x + exponent n q) (exponent-power_of v e q ∙ ap (λ t. cond t e 0) k) ∙ nat_idl (exponent n q)

pub ·_idr : (m : Monomial) → m · unit ≡ m
·_idr m = ·_comm m unit ∙ ·_idl m
