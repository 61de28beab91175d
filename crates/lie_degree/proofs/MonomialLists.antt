-- The monomials up to a degree are all of them, and no others.
use Rattle.std.specs.Prelude.{◌≡◌, ℕ, zero, suc, ◌+◌, ◌-◌, ◌<◌, ◌≤◌, Bool, true, false, cond, List, [], ◌∷◌}
use Rattle.std.proofs.Common.{refl, sym, ap, ap₂, subst, ◌∙◌, arith, ⊎_elim, true≢false}
use Rattle.std.proofs.lemmas.Bool.{cases_lt}
use Rattle.std.proofs.lemmas.List.Elements.{Contains-append_left, Contains-append_right}
use Rattle.std.specs.List.{AllByRecursion as Every, Contains, range_with_len}
use Rattle.std.specs.Ordering.{eq_by_cmp, nat_cmp}
use Rattle.lie_math.specs.Canonical.{Additive}
use Rattle.lie_math.specs.FiniteSumLaws as finite_laws
use Rattle.lie_math.specs.Limits.{HasLowExponents}
use Rattle.lie_math.specs.Monomial.{Monomial, powers, degree, exponent, unit, power_of, ◌·◌}
use Rattle.lie_math.specs.Natural.{naturals}
use Rattle.lie_math.proofs.ContainedElements.{contained_cons, contains_first, contains_later, contains-map, contains_nothing}
use Rattle.lie_math.proofs.EveryElement.{every-append, every-map, every-weaken}
use Rattle.lie_math.proofs.FiniteSum as finite_proofs
use Rattle.lie_math.proofs.Monomial.{exponent-·, exponent-power_of, bare, exponent-bare, powered_bare}
use Rattle.lie_math.proofs.PartialDerivation.{same_key}
use Rattle.lie_geometry.proofs.WeightedNorms.{degree-unit}
use Rattle.lie_degree.specs.Columns.{with_powers, with_variable, monomials_to}
use Rattle.lie_degree.proofs.SmallTerms.{low_of_degree}

-- ---- degrees of products with powers
degree_additive : Additive {K = ℕ} powers.values.adder naturals (λ v e. e)
degree_additive = record { on_nil = λ v. refl; on_plus = λ v a b. refl }

pub degree_powered : (v e : ℕ) (m : Monomial) → degree (power_of v e · m) ≡ e + degree m
degree_powered v e m =
    finite_laws.sum-plus powers naturals (λ v e. e) degree_additive (power_of v e) m
    ∙ ap (λ n. n + degree m) (finite_laws.sum-term powers naturals (λ v e. e) degree_additive v e)

pub product_low : (v e : ℕ) (m : Monomial) → e + degree m ≤ 8 → HasLowExponents (power_of v e · m)
product_low v e m l = low_of_degree (power_of v e · m) (let d = degree_powered v e m in omega arith)

-- no variable from n on
abbrev pub IsOf : ℕ → Monomial → Type 0
IsOf n m = (v : ℕ) → n ≤ v → exponent m v ≡ 0

powered_of : (n e : ℕ) (m : Monomial) → IsOf n m → IsOf (suc n) (power_of n e · m)
powered_of n e m h v l =
    exponent-· (power_of n e) m v ∙ ap₂ ◌+◌ (exponent-power_of n e v ∙ by (eq_by_cmp nat_cmp v n) refl) (h v (omega arith))
  where
    by : (b : Bool) → eq_by_cmp nat_cmp v n ≡ b → cond b e 0 ≡ 0
    by true t = let k : v ≡ n = finite_proofs.key powers v n t in absurd (omega arith)
    by false t = refl

-- ---- numbers in order
every_number : (P : ℕ → Type 0) (a n : ℕ) → ((k : ℕ) → a ≤ k → k < a + n → P k) → Every P (range_with_len a n)
every_number P a zero h = tt
every_number P a (suc n) h = (h a (omega arith) (omega arith), every_number P (a + 1) n (λ k l m. h k (omega arith) (omega arith)))

contains_number : (a n k : ℕ) → a ≤ k → k < a + n → Contains (range_with_len a n) k
contains_number a zero k l m = absurd (omega arith)
contains_number a (suc n) k l m = ⊎_elim
    (λ lt. contains_later a (range_with_len (a + 1) n) k (contains_number (a + 1) n k (omega arith) (omega arith)))
    (λ ge. let e : a ≡ k = omega arith in subst (Contains (range_with_len a (suc n))) e (contains_first a (range_with_len (a + 1) n)))
    (cases_lt a k)

-- ---- no others
module _ (d : ℕ) where
  pub record IsUpTo (n : ℕ) (m : Monomial) : Type 0 where
    pub low : degree m ≤ d
    pub own : IsOf n m

  with_powers_low : (n : ℕ) (m : Monomial) → IsUpTo n m → Every (IsUpTo (suc n)) (with_powers n d m)
  with_powers_low n m h =
      every-map (IsUpTo (suc n)) (λ e. power_of n e · m) (range_with_len 0 (suc (d - degree m)))
      (every_number (λ e. IsUpTo (suc n) (power_of n e · m)) 0 (suc (d - degree m)) (λ e l lt. record {
        low = let s = degree_powered n e m in let k = h.low in omega arith;
        own = powered_of n e m h.own;
      }))

  with_variable_low : (n : ℕ) (ms : List Monomial) → Every (IsUpTo n) ms → Every (IsUpTo (suc n)) (with_variable n d ms)
  with_variable_low n [] h = tt
  with_variable_low n (m ∷ ms) h =
      every-append (IsUpTo (suc n)) (with_powers n d m) (with_variable n d ms) (with_powers_low n m h.0) (with_variable_low n ms h.1)

  pub monomials_low : (n : ℕ) → Every (IsUpTo n) (monomials_to n d)
  monomials_low zero = (
    record {
      low = let e = degree-unit in omega arith;
      own = λ v l. finite_laws.value-none powers v;
    },
    tt,
  )
  monomials_low (suc n) = with_variable_low n (monomials_to n d) (monomials_low n)

  pub degrees_low : (n : ℕ) → Every (λ m. degree m ≤ d) (monomials_to n d)
  degrees_low n = every-weaken (IsUpTo n) (λ m. degree m ≤ d) (λ m h. h.low) (monomials_to n d) (monomials_low n)

  -- ---- all of them
  contains_powered : (n : ℕ) (ms : List Monomial) (m : Monomial) (e : ℕ) → Contains ms m → e + degree m ≤ d
      → Contains (with_variable n d ms) (power_of n e · m)
  contains_powered n [] m e c l = absurd (contains_nothing m c)
  contains_powered n (k ∷ ms) m e c l = ⊎_elim
      (λ same. Contains-append_left (with_powers n d k) (with_variable n d ms) (power_of n e · m)
      (subst (λ q. Contains (with_powers n d q) (power_of n e · m)) (sym same)
      (contains-map (λ x. power_of n x · m) (range_with_len 0 (suc (d - degree m))) e
      (contains_number 0 (suc (d - degree m)) e (omega arith) (omega arith)))))
      (λ later. Contains-append_right (with_powers n d k) (with_variable n d ms) (power_of n e · m) (contains_powered n ms m e later l))
      (contained_cons k ms m c)

  pub monomials_all : (n : ℕ) (m : Monomial) → degree m ≤ d → IsOf n m → Contains (monomials_to n d) m
  monomials_all zero m l own =
      subst (Contains (unit ∷ []))
      (sym (finite_laws.ext powers m unit (λ v. own v (omega arith) ∙ sym (finite_laws.value-none powers v)))) (contains_first unit [])
  monomials_all (suc n) m l own =
      let e = exponent m n in
      let is : power_of n e · bare n m ≡ m = powered_bare n e m refl in
      let s : degree m ≡ e + degree (bare n m) = ap degree (sym is) ∙ degree_powered n e (bare n m) in
      subst (Contains (with_variable n d (monomials_to n d))) is
      (contains_powered n (monomials_to n d) (bare n m) e (monomials_all n (bare n m) (omega arith) rest) (omega arith))
    where
      rest : IsOf n (bare n m)
      rest v l = exponent-bare n m v ∙ by (eq_by_cmp nat_cmp v n) refl
        where
          by : (b : Bool) → eq_by_cmp nat_cmp v n ≡ b → cond b 0 (exponent m v) ≡ 0
          by true t = refl
          by false t = own v (⊎_elim (λ lt. omega arith) (λ ge. absurd (apart (omega arith))) (cases_lt n v))
            where
              apart : ¬ (v ≡ n)
              apart e = true≢false (sym (same_key v n e) ∙ t)
