-- Terms whose numbers stay small however often they are derived.
use Rattle.std.specs.Prelude.{◌≡◌, ℕ, zero, suc, ◌+◌, ◌*◌, ◌-◌, ◌<◌, ◌≤◌, ◌^◌, Bool, true, false, cond, eqb, List, [], ◌∷◌, pos, ◌*ℤ◌}
use Rattle.std.specs.Prelude.{length, get_or, drop}
use Rattle.std.proofs.Common.{refl, sym, ap, subst, ◌∙◌, arith, lit<}
use Rattle.std.proofs.Math.Nat.{mul_assoc}
use Rattle.std.specs.Fn.{iterate}
use Rattle.std.specs.Ordering.{eq_by_cmp}
use Rattle.lie_math.specs.Counts.{before_counts, trimmed, partials, partials_from}
use Rattle.lie_math.specs.FiniteSumLaws.{ext, value-term}
use Rattle.lie_math.specs.Limits.{HasLowExponents, FitsNumber, absolute}
use Rattle.lie_math.specs.Monomial.{Monomial, monomial_cmp, degree, exponent, unit}
use Rattle.lie_math.specs.PartialDerivative.{partial, lower}
use Rattle.lie_math.specs.Polynomial.{WholePolynomial, terms, term, coefficient}
use Rattle.lie_math.proofs.Limits.{IsNonNegative, term_is}
use Rattle.lie_math.proofs.Monomial.{raised_lower, exponent_raised}
use Rattle.lie_math.proofs.PartialDerivative.{partial-term}
use Rattle.lie_math.proofs.Tests.{same_number}
use Rattle.lie_geometry.proofs.WeightedNorms.{degree_raised, degree-unit, times_le, le_times, le_trans}
use Rattle.lie_ring.specs.Causes.{IsPast}
use Rattle.lie_ring.specs.declared.failures.PastKind.{PastKind}
use Rattle.lie_ring.proofs.OneTerm.{bulk_not_past}
use Rattle.lie_jet.proofs.BoundedPolynomials.{absolute-nonneg}
use Rattle.lie_jet.proofs.TotalBounds.{term_bound}
use Rattle.lie_rows.proofs.RowLoops.{drop_at}
use Rattle.lie_degree.specs.SmallTerms.{IsSmall, power_of_eight}

-- ---- degrees
lower_degree : (v e : ℕ) (m : Monomial) → exponent m v ≡ suc e → degree m ≡ suc (degree (lower v m))
lower_degree v e m h = ap degree (sym (raised_lower v e m h)) ∙ degree_raised v (lower v m)

pub exponent_at_most : (m : Monomial) (v : ℕ) → exponent m v ≤ degree m
exponent_at_most m v = go (exponent m v) m refl
  where
    go : (e : ℕ) (m : Monomial) → exponent m v ≡ e → exponent m v ≤ degree m
    go zero m e = omega arith
    go (suc e) m h =
        let d = lower_degree v e m h in
        let k : exponent m v ≡ suc (exponent (lower v m) v) = ap (λ n. exponent n v) (sym (raised_lower v e m h)) ∙ exponent_raised v
        (lower v m) in
        let s = go e (lower v m) (omega arith) in
        omega arith

pub low_of_degree : (m : Monomial) → degree m ≤ 65535 → HasLowExponents m
low_of_degree m l v = let e = exponent_at_most m v in omega arith

-- ---- small terms
power_positive : (n : ℕ) → 1 ≤ power_of_eight n
power_positive zero = omega arith
power_positive (suc n) = more (power_of_eight n) (power_positive n)
  where
    more : (q : ℕ) → 1 ≤ q → 1 ≤ 8 * q
    more q h = omega arith

small_number : (f k : ℕ) → f * power_of_eight k ≤ 16777216 → f ≤ 16777216
small_number f k h = go (power_of_eight k) (power_positive k) h
  where
    go : (q : ℕ) → 1 ≤ q → f * q ≤ 16777216 → f ≤ 16777216
    go q p h = let l = le_times f 1 q p in omega arith

small_fits : (f k : ℕ) → f * power_of_eight k ≤ 16777216 → FitsNumber (pos f)
small_fits f k h = let s = small_number f k h in let l : 16777216 < 2 ^ 127 = lit< tt in omega arith

again : (f q : ℕ) → (f * 8) * q ≡ f * (8 * q)
again f q = mul_assoc f 8 q

next_limit : (f e k : ℕ) → e ≤ 8 → f * power_of_eight (suc k) ≤ 16777216 → (f * e) * power_of_eight k ≤ 16777216
next_limit f e k l h = go (power_of_eight k) h
  where
    go : (q : ℕ) → f * (8 * q) ≤ 16777216 → (f * e) * q ≤ 16777216
    go q h = le_trans ((f * e) * q) ((f * 8) * q) 16777216 (times_le q (f * e) (f * 8) (le_times f e 8 l))
        (subst (λ n. n ≤ 16777216) (sym (again f q)) h)

pub small_plain : (p : WholePolynomial) → IsSmall p → IsNonNegative p
small_plain p s = subst IsNonNegative (sym s.is) ((term_bound s.mono (pos s.number)).plain)

pub small_monomial : (m : Monomial) → degree m ≤ 8 → IsSmall (term m (pos 1))
small_monomial m l = record { mono = m; number = 1; is = refl; low = l; limit = rise (degree m) 8 l }
  where
    twice : (a b : ℕ) → 1 * a ≤ b → 1 * (8 * a) ≤ 8 * b
    twice a b p = omega arith

    once : (k : ℕ) → 1 ≤ k → 1 * 1 ≤ k
    once k p = omega arith

    rise : (n k : ℕ) → n ≤ k → 1 * power_of_eight n ≤ power_of_eight k
    rise zero k l = once (power_of_eight k) (power_positive k)
    rise (suc n) zero l = absurd (omega arith)
    rise (suc n) (suc k) l = twice (power_of_eight n) (power_of_eight k) (rise n k (omega arith))

zero_term : (m n : Monomial) → term m (pos 0) ≡ term n (pos 0)
zero_term m n = ext terms (term m (pos 0)) (term n (pos 0)) (λ q. at m q ∙ sym (at n q))
  where
    by : (b : Bool) → cond b (pos 0) (pos 0) ≡ pos 0
    by true = refl
    by false = refl

    at : (k q : Monomial) → coefficient (term k (pos 0)) q ≡ pos 0
    at k q = value-term terms k (pos 0) q ∙ by (eq_by_cmp monomial_cmp q k)

pub small_partial : (v : ℕ) (p : WholePolynomial) → IsSmall p → IsSmall (partial v p)
small_partial v p s = go (exponent s.mono v) refl
  where
    is : (e : ℕ) → exponent s.mono v ≡ e → partial v p ≡ term (lower v s.mono) (pos (s.number * e))
    is e h = ap (partial v) s.is ∙ partial-term v s.mono (pos s.number) ∙ ap (λ n. term (lower v s.mono) (pos s.number *ℤ pos n)) h

    go : (e : ℕ) → exponent s.mono v ≡ e → IsSmall (partial v p)
    go zero h = record {
      mono = unit;
      number = 0;
      is = is 0 h ∙ ap (λ n. term (lower v s.mono) (pos n)) (none s.number) ∙ zero_term (lower v s.mono) unit;
      low = subst (λ n. n ≤ 8) (sym degree-unit) (omega arith);
      limit = nothing (power_of_eight (degree unit));
    }
      where
        none : (n : ℕ) → n * 0 ≡ 0
        none n = omega arith

        nothing : (q : ℕ) → 0 * q ≤ 16777216
        nothing q = omega arith
    go (suc e) h =
        let d = lower_degree v e s.mono h in
        let x = exponent_at_most s.mono v in
        let low = s.low in
        record {
          mono = lower v s.mono;
          number = s.number * suc e;
          is = is (suc e) h;
          low = omega arith;
          limit = next_limit s.number (suc e) (degree (lower v s.mono)) (omega arith)
              (subst (λ n. s.number * power_of_eight n ≤ 16777216) d s.limit);
        }

pub small_not_past : (kind : PastKind) (v : ℕ) (p : WholePolynomial) → IsSmall p → ¬ (IsPast kind (partial v (absolute p)))
small_not_past kind v p s h =
    let d = small_partial v p s in
    bulk_not_past kind d.mono (pos d.number) (small_fits d.number (degree d.mono) d.limit)
    (low_of_degree d.mono (let l = d.low in omega arith))
    (subst (IsPast kind) (ap (partial v) (absolute-nonneg p (small_plain p s)) ∙ d.is ∙ term_is d.mono (pos d.number)) h)

-- what is left of the derivatives
pub small_left : (v : ℕ) (p : WholePolynomial) (t c : ℕ) (q : WholePolynomial) → c < t
    → iterate (partial v) (t - c) p ≡ q → iterate (partial v) (t - (c + 1)) (partial v p) ≡ q
small_left v p t c q l h = ap (λ n. iterate (partial v) n p) (next t c l) ∙ h
  where
    next : (t c : ℕ) → c < t → suc (t - (c + 1)) ≡ t - c
    next t c l = omega arith

pub small_done : (v : ℕ) (p : WholePolynomial) (t c : ℕ) (q : WholePolynomial) → t ≤ c → iterate (partial v) (t - c) p ≡ q → p ≡ q
small_done v p t c q l h = ap (λ n. iterate (partial v) n p) (none t c l) ∙ h
  where
    none : (t c : ℕ) → t ≤ c → 0 ≡ t - c
    none t c l = omega arith

-- ---- derivatives by counts
pub partials_step : (J : List ℕ) (v c : ℕ) (p : WholePolynomial) → v < length J → c ≡ get_or J v c
    → iterate (partial v) c (partials_from (v + 1) (drop (v + 1) J) p) ≡ partials_from v (drop v J) p
partials_step J v c p l e =
    ap (λ n. iterate (partial v) c (partials_from n (drop (v + 1) J) p)) (next v) ∙ ap (λ K. partials_from v K p) (sym (drop_at J v c l e))
  where
    next : (v : ℕ) → v + 1 ≡ suc v
    next v = omega arith

before : (i c : ℕ) (K : List ℕ) (p : WholePolynomial) → partials_from i (before_counts c K) p ≡ iterate (partial i) c
    (partials_from (suc i) K p)
before i zero [] p = refl
before i (suc c) [] p = one (eqb (suc c) 0) refl
  where
    one : (b : Bool) → eqb (suc c) 0 ≡ b → partials_from i (cond b [] (suc c ∷ [])) p ≡ iterate (partial i) (suc c) p
    one true e = let q : suc c ≡ 0 = same_number (suc c) 0 e in absurd (omega arith)
    one false e = refl
before i c (d ∷ K) p = refl

partials_trimmed_from : (i : ℕ) (J : List ℕ) (p : WholePolynomial) → partials_from i (trimmed J) p ≡ partials_from i J p
partials_trimmed_from i [] p = refl
partials_trimmed_from i (c ∷ J) p = before i c (trimmed J) p ∙ ap (iterate (partial i) c) (partials_trimmed_from (suc i) J p)

-- zeros at the end do not count
pub partials_trimmed : (J : List ℕ) (p : WholePolynomial) → partials (trimmed J) p ≡ partials J p
partials_trimmed J p = partials_trimmed_from 0 J p
