-- Norms bound numbers, terms and triples; and the symbolic coefficients are within the limits where the bound is small.
use Rattle.std.specs.Prelude.{◌≡◌, ℕ, zero, suc, ◌+◌, ◌-◌, ◌*◌, ◌≤◌, ◌<◌, ◌^◌, Bool, true, false, ◌&&◌, eqb, leb, List, [], ◌∷◌, length, replicate, ℤ, pos, unsigned_abs}
use Rattle.std.specs.List.{AllByRecursion as Every}
use Rattle.std.proofs.Common.{refl, sym, ap, ap₂, subst, ◌∙◌, arith, lit<, eqb-true}
use Rattle.std.proofs.lemmas.Bool.{leb-true, eqb-false}
use Rattle.std.proofs.lemmas.List.{length-replicate, length-append}
use Rattle.lie_math.specs.Counts.{Derivative, order}
use Rattle.lie_math.specs.FiniteSum as finite
use Rattle.lie_math.specs.FiniteSumLaws.{list-of}
use Rattle.lie_math.specs.Limits.{absolutes, absolute}
use Rattle.lie_math.specs.LinearForm.{forms, LinearForm}
use Rattle.lie_math.specs.Monomial.{Monomial, powers, exponent, degree}
use Rattle.lie_math.specs.Polynomial.{WholePolynomial, terms, coefficient}
use Rattle.lie_math.proofs.FiniteSum.{entries_of}
use Rattle.lie_math.proofs.Integer.{unsigned_abs_zero}
use Rattle.lie_math.proofs.Limits.{canonical_absolutes}
use Rattle.lie_geometry.specs.Coordinates.{Space}
use Rattle.lie_geometry.specs.Norms.{norm, form_norm, count_of_numbers}
use Rattle.lie_geometry.specs.NormLaws.{NormIsBound, AbsolutesHaveNorm, CoefficientsAreBounded, BoundedIsWithinLimits, BoundIsSmall}
use Rattle.lie_geometry.specs.Prolongation.{indices_from, indices}
use Rattle.lie_geometry.specs.SymbolicNorms.{total_weight, weight_bound, norm_bound, bulk_of_step, IsBoundedAt}
use Rattle.lie_geometry.specs.SymbolicProlongation.{symbolic_coefficient}
use Rattle.lie_geometry.proofs.AbsoluteForms.{entry_absolutes, list_absolutes}
use Rattle.lie_geometry.proofs.Booleans.{and_left, and_right}
use Rattle.lie_geometry.proofs.WeightedForms.{weighted_entry, weighted_form, form_at_most, number_at_most}
use Rattle.lie_geometry.proofs.Indices.{below_indices}
use Rattle.lie_geometry.proofs.WeightedNorms.{le_trans, le_same, total, total_le, value_at_most, absolute_sum, weighted_term, weighted}
use Rattle.lie_geometry.proofs.SymbolicNorms.{AllRise, coefficient_at_most, bulk_at_most}

-- ---- a norm is the weighted norm where each number counts once
pub weighted_once : (p : WholePolynomial) → weighted (λ n. 1) p ≡ norm p
weighted_once p = go p.list
  where
    one : (n : ℕ) → n * 1 ≡ n
    one n = omega arith

    go : (es : List (Monomial × ℤ)) → total (weighted_term (λ n. 1)) es ≡ total (λ (m : Monomial) a. unsigned_abs a) es
    go [] = refl
    go (e ∷ es) = ap₂ ◌+◌ (one (unsigned_abs e.1)) (go es)

form_once : (E : LinearForm) → weighted_form (λ o n. 1) E ≡ form_norm E
form_once E = go E.list
  where
    go : (es : List (Derivative × WholePolynomial)) → total (weighted_entry (λ o n. 1)) es ≡ total (λ (d : Derivative) a. norm a) es
    go [] = refl
    go (e ∷ es) = ap₂ ◌+◌ (weighted_once e.1) (go es)

-- ---- what the norm bounds
pub number_bound : (p : WholePolynomial) (m : Monomial) → unsigned_abs (coefficient p m) ≤ norm p
number_bound p m = value_at_most terms (λ (m : Monomial) a. unsigned_abs a) (λ m a b. absolute_sum a b) (λ m. refl) m p

pub term_bound : (p : WholePolynomial) → length p.list ≤ norm p
term_bound p = go p.list (entries_of terms p (λ (e : Monomial × ℤ). 1 ≤ unsigned_abs e.1) (λ e is apart. some (unsigned_abs e.1) (λ z. apart (unsigned_abs_zero e.1 z))))
  where
    some : (n : ℕ) → ¬ (n ≡ 0) → 1 ≤ n
    some n h = omega arith

    next : (a b c : ℕ) → 1 ≤ a → b ≤ c → suc b ≤ a + c
    next a b c h k = omega arith

    go : (es : List (Monomial × ℤ)) → Every (λ (e : Monomial × ℤ). 1 ≤ unsigned_abs e.1) es → length es ≤ total (λ (m : Monomial) a. unsigned_abs a) es
    go [] h = omega arith
    go (e ∷ es) h = next (unsigned_abs e.1) (length es) _ h.0 (go es h.1)

norm_absolute : (p : WholePolynomial) → norm (absolute p) ≡ norm p
unfolding absolute
norm_absolute p = ap (total (λ (m : Monomial) a. unsigned_abs a)) (list-of terms (absolutes p.list) (canonical_absolutes p.list p.canonical)) ∙ go p.list
  where
    go : (es : List (Monomial × ℤ)) → total (λ (m : Monomial) a. unsigned_abs a) (absolutes es) ≡ total (λ (m : Monomial) a. unsigned_abs a) es
    go [] = refl
    go (e ∷ es) = ap (λ n. unsigned_abs e.1 + n) (go es)

form_norm_at : (E : LinearForm) (d : Derivative) → norm (finite.value forms E d) ≤ form_norm E
form_norm_at E d = le_trans _ _ _ (le_same _ _ (sym (weighted_once (finite.value forms E d)))) (le_trans _ _ _ (form_at_most (λ o n. 1) E d) (le_same _ _ (form_once E)))

triple_bound : (E : LinearForm) → count_of_numbers E ≤ form_norm E
triple_bound E = total_le (λ (d : Derivative) (a : WholePolynomial). length a.list) (λ d a. norm a) (λ d a. term_bound a) E.list

pub norm_is_bound : NormIsBound
norm_is_bound = record { numbers = number_bound; terms = term_bound; coefficients = form_norm_at; triples = triple_bound }

pub absolutes_have_norm : AbsolutesHaveNorm
absolutes_have_norm E = ap (total (λ (d : Derivative) a. norm a)) (list_absolutes E) ∙ go E.list
  where
    go : (es : List (Derivative × WholePolynomial)) → total (λ (d : Derivative) a. norm a) (entry_absolutes es) ≡ total (λ (d : Derivative) a. norm a) es
    go [] = refl
    go (e ∷ es) = ap₂ ◌+◌ (norm_absolute e.1) (go es)

-- ---- orders and degrees: what is past them counts, and nothing counts
abbrev past : ℕ → ℕ → ℕ → ℕ
past k o n = (o - k) + (n - suc k)

past_rises : (k : ℕ) → AllRise (past k)
past_rises k o n = omega arith

-- nothing counts up to these orders and degrees
CountsNothing : ℕ → (ℕ → ℕ → ℕ) → Type 0
CountsNothing k w = (o n : ℕ) → o ≤ k → n ≤ suc k → w o n ≡ 0

nothing_counts : (S : Space) (k : ℕ) (w : ℕ → ℕ → ℕ) → CountsNothing k w → weight_bound S w k ≡ 0
unfolding CountsNothing
nothing_counts S zero w h = h 0 0 (omega arith) (omega arith)
nothing_counts S (suc k) w h = ap₂ ◌+◌ (nothing_counts S k (total_weight S w) total) (ap₂ (λ x y. S.p * (x + S.q * y)) (h 1 1 (omega arith) (omega arith)) (h 1 2 (omega arith) (omega arith)) ∙ none S.p S.q)
  where
    none : (p q : ℕ) → p * (0 + q * 0) ≡ 0
    none p q = omega arith

    all : (n q : ℕ) → n * 0 + (0 + q * 0) ≡ 0
    all n q = omega arith

    lower : (a b : ℕ) → a ≤ b → a ≤ suc b
    lower a b g = omega arith

    next : (a b : ℕ) → a ≤ b → suc a ≤ suc b
    next a b g = omega arith

    total : (o n : ℕ) → o ≤ k → n ≤ suc k → total_weight S w o n ≡ 0
    total o n f g =
        ap₂ (λ x y. n * x + y) (h o n (lower o k f) (lower n (suc k) g)) (ap₂ (λ x y. x + S.q * y) (h (suc o) n (next o k f) (lower n (suc k) g)) (h (suc o) (suc n) (next o k f) (next n (suc k) g))) ∙ all n S.q

past_none : (k : ℕ) → CountsNothing k (past k)
unfolding CountsNothing
past_none k o n f g = omega arith

-- what all weights bound
bounded : (S : Space) (k : ℕ) (E : LinearForm) → ((w : ℕ → ℕ → ℕ) → AllRise w → weighted_form w E ≤ weight_bound S w k) → IsBoundedAt S k E
bounded S k E h = record {
  norm = le_trans _ _ _ (le_same _ _ (sym (form_once E))) (h (λ o n. 1) (λ o n. le_same 1 1 refl));
  orders = λ d m apart. first (order d.counts) (degree m) (counted d m apart);
  degrees = λ d m apart. second (order d.counts) (degree m) (counted d m apart);
}
  where
    product : (a b : ℕ) → ¬ (a ≡ 0) → a * b ≤ 0 → b ≡ 0
    product zero b n g = absurd (n refl)
    product (suc a) b n g = omega arith

    counted : (d : Derivative) (m : Monomial) → ¬ (coefficient (finite.value forms E d) m ≡ pos 0) → past k (order d.counts) (degree m) ≡ 0
    counted d m apart = product (unsigned_abs (coefficient (finite.value forms E d) m)) _ (λ z. apart (unsigned_abs_zero _ z)) (le_trans _ _ _ (number_at_most (past k) E d m) (le_trans _ _ _ (h (past k) (past_rises k)) (le_same _ _ (nothing_counts S k (past k) (past_none k)))))

    first : (o n : ℕ) → past k o n ≡ 0 → o ≤ k
    first o n e = omega arith

    second : (o n : ℕ) → past k o n ≡ 0 → n ≤ suc k
    second o n e = omega arith

-- ---- at a jet
pub length_indices_from : (i : ℕ) (J : List ℕ) → length (indices_from i J) ≡ order J
length_indices_from i [] = refl
length_indices_from i (c ∷ J) = length-append (indices_from (suc i) J) (replicate c i) ∙ ap₂ ◌+◌ (length_indices_from (suc i) J) (length-replicate c i) ∙ turned (order J) c
  where
    turned : (a b : ℕ) → a + b ≡ b + a
    turned a b = omega arith

pub coefficients_are_bounded : CoefficientsAreBounded
coefficients_are_bounded S s a J h = (
  subst (λ k. IsBoundedAt S k (symbolic_coefficient S a (indices J))) (length_indices_from 0 J) (bounded S (length (indices J)) (symbolic_coefficient S a (indices J)) (coefficient_at_most S s.0 s.1 a (indices J) (below_indices S.p J h))),
  λ k W e. subst (λ n. IsBoundedAt S n (bulk_of_step S a k W)) (ap length (sym e) ∙ length_indices_from 0 J) (bounded S (suc (length W)) (bulk_of_step S a k W) (bulk_at_most S s.0 s.1 a k W (ap (Rattle.lie_geometry.proofs.Indices.all_below S.p) (sym e) ∙ below_indices S.p J h))),
)

pub exponent_at_most : (m : Monomial) (v : ℕ) → exponent m v ≤ degree m
exponent_at_most m v = value_at_most powers (λ (v : ℕ) e. e) (λ v a b. le_same (a + b) (a + b) refl) (λ v. refl) v m

pub bounded_is_within_limits : BoundedIsWithinLimits
bounded_is_within_limits S k few low E h = (
  λ d. record {
    coefficients = λ m. fits _ _ (number_bound (finite.value forms E d) m) (form_norm_at E d);
    exponents = λ m apart v. below _ _ (exponent_at_most m v) (h.degrees d m apart);
    terms = le_trans _ _ _ (term_bound (finite.value forms E d)) (le_trans _ _ _ (form_norm_at E d) norms);
  },
  le_trans _ _ _ (triple_bound E) norms,
)
  where
    norms : form_norm E ≤ 1000000
    norms = le_trans _ _ _ h.norm few

    fits : (a b : ℕ) → a ≤ b → b ≤ form_norm E → a < 2 ^ 127
    fits a b f g = let l : 1000000 < 2 ^ 127 = lit< tt in let n : form_norm E ≤ 1000000 = norms in omega arith

    below : (a b : ℕ) → a ≤ b → b ≤ suc k → a ≤ 65535
    below a b f g = omega arith

-- ---- the bound, for each space and order
all_up_to : ℕ → (ℕ → Bool) → Bool
all_up_to zero f = f zero
all_up_to (suc n) f = f (suc n) && all_up_to n f

up_to : (n : ℕ) (f : ℕ → Bool) → all_up_to n f ≡ true → (k : ℕ) → k ≤ n → f k ≡ true
unfolding all_up_to
up_to zero f h k g = ap f (let e : k ≡ zero = omega arith in e) ∙ h
up_to (suc n) f h k g = by (up_to n f (and_right (f (suc n)) (all_up_to n f) h) k) (eqb k (suc n)) refl
  where
    less : eqb k (suc n) ≡ false → k ≤ n
    less e = let d = eqb-false k (suc n) e in omega arith

    by : (k ≤ n → f k ≡ true) → (t : Bool) → eqb k (suc n) ≡ t → f k ≡ true
    by rest true e = ap f (eqb-true k (suc n) e) ∙ and_left (f (suc n)) (all_up_to n f) h
    by rest false e = rest (less e)

small_in_each : all_up_to 4 (λ p. all_up_to 4 (λ q. all_up_to 6 (λ k. leb (norm_bound (record { p = p; q = q }) k) 1000000))) ≡ true
unfolding all_up_to
small_in_each = refl

pub bound_is_small : BoundIsSmall
bound_is_small S hp hq k hk = leb-true (norm_bound S k) 1000000 (up_to 6 _ (up_to 4 _ (up_to 4 _ small_in_each S.p hp) S.q hq) k hk)
