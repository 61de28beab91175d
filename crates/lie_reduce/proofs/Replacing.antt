-- What leads are replaced by, and the powers of factors that a term lacks.
use Rattle.std.specs.Prelude.{◌≡◌, ℕ, zero, suc, ◌+◌, ◌-◌, ◌<◌, Bool, true, false, cond, eqb, List, [], ◌∷◌, length, take, get_or, ℤ, pos, ◌*ℤ◌, unsigned_abs, IsTrue, nat_eq}
use Rattle.std.proofs.Common.{refl, sym, ap, ap₂, subst, ◌∙◌, arith}
use Rattle.std.proofs.lemmas.Bool.{eq-eqb, or_parts}
use Rattle.std.proofs.lemmas.Bool.Decides.{nat_tests}
use Rattle.std.proofs.lemmas.Int.{unsigned_abs-mul}
use Rattle.std.specs.List.{AllByRecursion as Every}
use Rattle.lie_math.specs.Evaluation.{factors, to_power, monomial_value}
use Rattle.std.specs.Ordering.{eq_by_cmp}
use Rattle.lie_math.specs.FiniteSum as finite
use Rattle.lie_math.specs.FiniteSumLaws.{ext, same_list, sum-term, value-term}
use Rattle.lie_math.specs.Integer.{integer_algebra}
use Rattle.lie_math.specs.Limits.{absolute}
use Rattle.lie_math.specs.Monomial.{Monomial, monomial_cmp, exponent, unit, power_of, powers, single}
use Rattle.lie_math.specs.Polynomial.{WholePolynomial, coefficient, terms, term, constant, variable, 0ᴾ, ◌*ᴾ◌}
use Rattle.lie_math.specs.PolynomialRing.{one-*ᴾ, constant-times, polynomial_algebra}
use Rattle.lie_math.proofs.Evaluation.{value_in-term, to_power_additive}
use Rattle.lie_math.proofs.Limits.{term_apart, one_apart}
use Rattle.lie_math.proofs.ZeroDivisors.{no_zero_divisors}
use Rattle.lie_math.proofs.Substitution.{value_in_itself}
use Rattle.lie_geometry.specs.Coordinates.{Space, number}
use Rattle.lie_geometry.specs.SolvedEquations.{SolvedEquation, is_lead, replacement, missing_powers}
use Rattle.lie_geometry.proofs.Reduction.{replacement_other}
use Rattle.lie_ring.specs.Causes.{IsCause}
use Rattle.lie_ring.specs.declared.failures.PolyFail.{PolyFail}
use Rattle.lie_jet.specs.Jets.{coordinate_of}
use Rattle.lie_solved.specs.declared.solved.LeadRule.{LeadRule}
use Rattle.lie_solved.specs.SolvedForms.{solved_equations}
use Rattle.lie_math.proofs.EveryElement.{every-weaken}
use Rattle.lie_reduce.specs.Bulks.{absolute_equations}
use Rattle.lie_reduce.specs.ReducedTerms.{power, replaced, IsKept, exponents_at}
use Rattle.lie_reduce.proofs.Factors.{product, product_more, product_cause, apart_product, every_before, read_same}
use Rattle.lie_reduce.proofs.PowerSteps.{absolute_proper}
use Rattle.lie_reduce.proofs.Products.{IsProper, bounded_power, proper_power}
use Rattle.lie_jet.proofs.PolynomialBounds.{coefficient_absolute, IsBound, absolute_bound}
use Rattle.lie_jet.proofs.TotalBounds.{absolute_variable}

-- ---- the rule of a lead
module _ (S : Space) where
  pub first_lead : (rules : List LeadRule) (i w : ℕ) (r d : LeadRule) → is_lead (solved_equations S (take i rules)) w ≡ false → i < length rules → r ≡ get_or rules i r → number S (coordinate_of S r.lead) ≡ w → replacement (solved_equations S rules) w ≡ (get_or rules i d).right
  first_lead [] i w r d h lt is n = absurd (omega arith)
  first_lead (x ∷ rules) zero w r d h lt is n =
      ap (λ t. cond t x.right (replacement (solved_equations S rules) w)) (ap (λ v. eqb w v) (ap (λ (y : LeadRule). number S (coordinate_of S y.lead)) (sym is) ∙ n) ∙ eq-eqb w w refl)
  first_lead (x ∷ rules) (suc i) w r d h lt is n =
      ap (λ t. cond t x.right (replacement (solved_equations S rules) w)) (or_parts (eqb w (number S (coordinate_of S x.lead))) (is_lead (solved_equations S (take i rules)) w) h).0
      ∙ first_lead rules i w r d (or_parts (eqb w (number S (coordinate_of S x.lead))) (is_lead (solved_equations S (take i rules)) w) h).1 (omega arith) is n

-- ---- polynomials that are 0
no_terms : (es : List (Monomial × ℤ)) → length es ≡ 0 → es ≡ (0ᴾ).list
unfolding finite.none finite.of
no_terms [] h = refl
no_terms (e ∷ es) h = absurd (omega arith)

pub empty_zero : (p : WholePolynomial) (n : ℕ) → n ≡ length p.list → n ≡ 0 → p ≡ 0ᴾ
empty_zero p n e z = same_list terms p 0ᴾ (no_terms p.list (sym e ∙ z))

pub zero_empty : (p : WholePolynomial) (n : ℕ) → n ≡ length p.list → p ≡ 0ᴾ → n ≡ 0
unfolding finite.none finite.of
zero_empty p n e z = e ∙ ap (λ (q : WholePolynomial). length q.list) z

pub variable_apart : (w : ℕ) → ¬ (variable w ≡ 0ᴾ)
variable_apart w = term_apart (single w) (pos 1) (λ e. let k : 1 ≡ 0 = ap unsigned_abs e in omega arith)

-- ---- powers
pub power_variable : (v n : ℕ) → term (power_of v n) (pos 1) ≡ power (variable v) n
power_variable v n =
    sym (value_in_itself (term (power_of v n) (pos 1))) ∙ value_in-term polynomial_algebra variable (power_of v n) (pos 1) ∙ one-*ᴾ (monomial_value polynomial_algebra variable (power_of v n))
    ∙ sum-term powers (factors polynomial_algebra) _ (to_power_additive polynomial_algebra variable) v n

pub power_constant : (c : ℤ) (n : ℕ) → power (constant c) n ≡ constant (to_power integer_algebra c n)
power_constant c zero = refl
power_constant c (suc n) = ap (λ p. constant c *ᴾ p) (power_constant c n) ∙ sym (constant-times c (to_power integer_algebra c n))

power_size : (c : ℤ) (n : ℕ) → to_power integer_algebra (pos (unsigned_abs c)) n ≡ pos (unsigned_abs (to_power integer_algebra c n))
power_size c zero = refl
power_size c (suc n) = ap (λ z. pos (unsigned_abs c) *ℤ z) (power_size c n) ∙ sym (ap pos (unsigned_abs-mul c (to_power integer_algebra c n)))

-- ---- absolute values
pub replacement_absolute : (rs : List SolvedEquation) (w : ℕ) → replacement (absolute_equations rs) w ≡ absolute (replacement rs w)
replacement_absolute [] w = sym (absolute_variable w)
replacement_absolute (r ∷ rs) w = by (eqb w r.lead) (replacement_absolute rs w)
  where
    by : (t : Bool) → replacement (absolute_equations rs) w ≡ absolute (replacement rs w) → cond t (absolute r.right) (replacement (absolute_equations rs) w) ≡ absolute (cond t r.right (replacement rs w))
    by true h = refl
    by false h = h

pub missing_absolute : (rs : List SolvedEquation) (e : ℕ → ℕ) (m : Monomial) → missing_powers (absolute_equations rs) e m ≡ pos (unsigned_abs (missing_powers rs e m))
missing_absolute [] e m = refl
missing_absolute (r ∷ rs) e m =
    ap₂ ◌*ℤ◌ (power_size r.factor (e r.lead - exponent m r.lead)) (missing_absolute rs e m)
    ∙ sym (ap pos (unsigned_abs-mul (to_power integer_algebra r.factor (e r.lead - exponent m r.lead)) (missing_powers rs e m)))

pub absolute_constant : (c : ℤ) → absolute (constant c) ≡ constant (pos (unsigned_abs c))
absolute_constant c = ext terms (absolute (constant c)) (constant (pos (unsigned_abs c))) (λ k. at k)
  where
    at : (k : Monomial) → coefficient (absolute (constant c)) k ≡ coefficient (constant (pos (unsigned_abs c))) k
    at k = coefficient_absolute (constant c) k ∙ ap (λ z. pos (unsigned_abs z)) (value-term terms unit c k) ∙ by (eq_by_cmp monomial_cmp k unit) ∙ sym (value-term terms unit (pos (unsigned_abs c)) k)
      where
        by : (t : Bool) → pos (unsigned_abs (cond t c (pos 0))) ≡ cond t (pos (unsigned_abs c)) (pos 0)
        by true = refl
        by false = refl

-- ---- products of powers
module _ (rs : List SolvedEquation) where
  abbrev pub replaced_power : ℕ × ℕ → WholePolynomial
  replaced_power p = power (replacement rs p.0) p.1

  abbrev pub replaced_bulk : ℕ × ℕ → WholePolynomial
  replaced_bulk p = power (absolute (replacement rs p.0)) p.1

  pub replaced_is : (ps : List (ℕ × ℕ)) → product replaced_power ps ≡ replaced rs ps
  replaced_is [] = refl
  replaced_is (p ∷ ps) = ap (λ x. replaced_power p *ᴾ x) (replaced_is ps)

  pub replaced_bulk_is : (ps : List (ℕ × ℕ)) → product replaced_bulk ps ≡ replaced (absolute_equations rs) ps
  replaced_bulk_is [] = refl
  replaced_bulk_is (p ∷ ps) = ap₂ (λ x y. power x p.1 *ᴾ y) (sym (replacement_absolute rs p.0)) (replaced_bulk_is ps)

  pub replaced_bounded : (p : ℕ × ℕ) → IsBound (replaced_power p) (replaced_bulk p)
  replaced_bounded p = bounded_power (replacement rs p.0) (absolute (replacement rs p.0)) (absolute_bound (replacement rs p.0)) p.1

  pub kept_proper : (ps : List (ℕ × ℕ)) → Every (IsKept rs) ps → Every (λ p. IsProper (replaced_bulk p)) ps
  kept_proper ps h = every-weaken (IsKept rs) (λ p. IsProper (replaced_bulk p)) (λ p n. proper_power (absolute (replacement rs p.0)) (absolute_proper (replacement rs p.0) n) p.1) ps h

-- ---- the powers of the factors that a monomial lacks
module _ (S : Space) (e : ℕ → ℕ) (m : Monomial) where
  abbrev pub lead_number : LeadRule → ℕ
  lead_number r = number S (coordinate_of S r.lead)

  abbrev pub missing_power : LeadRule → WholePolynomial
  missing_power r = power (constant r.c) (e (lead_number r) - exponent m (lead_number r))

  abbrev pub missing_bulk : LeadRule → WholePolynomial
  missing_bulk r = power (absolute (constant r.c)) (e (lead_number r) - exponent m (lead_number r))

  pub missing_is : (rules : List LeadRule) → product missing_power rules ≡ constant (missing_powers (solved_equations S rules) e m)
  missing_is [] = refl
  missing_is (r ∷ rules) =
      ap₂ ◌*ᴾ◌ (power_constant r.c (e (lead_number r) - exponent m (lead_number r))) (missing_is rules)
      ∙ sym (constant-times (to_power integer_algebra r.c (e (lead_number r) - exponent m (lead_number r))) (missing_powers (solved_equations S rules) e m))

  pub missing_bulk_is : (rules : List LeadRule) → product missing_bulk rules ≡ constant (missing_powers (absolute_equations (solved_equations S rules)) e m)
  missing_bulk_is [] = refl
  missing_bulk_is (r ∷ rules) =
      ap₂ ◌*ᴾ◌ (ap (λ p. power p (e (lead_number r) - exponent m (lead_number r))) (absolute_constant r.c) ∙ power_constant (pos (unsigned_abs r.c)) (e (lead_number r) - exponent m (lead_number r))) (missing_bulk_is rules)
      ∙ sym (constant-times (to_power integer_algebra (pos (unsigned_abs r.c)) (e (lead_number r) - exponent m (lead_number r))) (missing_powers (absolute_equations (solved_equations S rules)) e m))

  pub missing_bounded : (r : LeadRule) → IsBound (missing_power r) (missing_bulk r)
  missing_bounded r = bounded_power (constant r.c) (absolute (constant r.c)) (absolute_bound (constant r.c)) (e (lead_number r) - exponent m (lead_number r))

  pub factors_proper : (rules : List LeadRule) → Every (λ (r : LeadRule). ¬ (r.c ≡ pos 0)) rules → Every (λ r. IsProper (missing_bulk r)) rules
  factors_proper rules h = every-weaken (λ (r : LeadRule). ¬ (r.c ≡ pos 0)) (λ r. IsProper (missing_bulk r)) (λ r n. proper_power (absolute (constant r.c)) (absolute_proper (constant r.c) (term_apart unit r.c n)) (e (lead_number r) - exponent m (lead_number r))) rules h

  pub exponent_at : (rules : List LeadRule) (es : List ℕ) (i : ℕ) (r : LeadRule) (d : ℕ) → es ≡ exponents_at S rules e → i < length rules → r ≡ get_or rules i r → get_or es i d ≡ e (lead_number r)
  exponent_at rules es i r d h lt is = ap (λ xs. get_or xs i d) h ∙ go rules i lt is
    where
      go : (rules : List LeadRule) (i : ℕ) → i < length rules → r ≡ get_or rules i r → get_or (exponents_at S rules e) i d ≡ e (lead_number r)
      go [] i lt is = absurd (omega arith)
      go (x ∷ rules) zero lt is = ap (λ (y : LeadRule). e (lead_number y)) (sym is)
      go (x ∷ rules) (suc i) lt is = go rules i (omega arith) is

  pub missing_count : (rules : List LeadRule) (es : List ℕ) (i : ℕ) (r : LeadRule) (k n w : ℕ) → es ≡ exponents_at S rules e → i < length rules → r ≡ get_or rules i r → k ≡ get_or es i 0 - n → n ≡ exponent m w → w ≡ lead_number r → k ≡ e (lead_number r) - exponent m (lead_number r)
  missing_count rules es i r k n w h lt is f g l = f ∙ ap₂ ◌-◌ (exponent_at rules es i r 0 h lt is) (g ∙ ap (exponent m) l)

  pub missing_more : (rules : List LeadRule) (i : ℕ) (r : LeadRule) (k : ℕ) (base start now next : WholePolynomial) → i < length rules → r ≡ get_or rules i r → k ≡ e (lead_number r) - exponent m (lead_number r) → base ≡ constant r.c
      → now ≡ start *ᴾ product missing_power (take i rules) → next ≡ now *ᴾ power base k → next ≡ start *ᴾ product missing_power (take (i + 1) rules)
  missing_more rules i r k base start now next lt is f b h g = product_more missing_power rules i r start now next lt is h (g ∙ ap₂ (λ p n. now *ᴾ power p n) b f)

  pub missing_cause : (fail : PolyFail) (rules : List LeadRule) (i : ℕ) (r : LeadRule) (k : ℕ) (base start now : WholePolynomial) → i < length rules → r ≡ get_or rules i r → k ≡ e (lead_number r) - exponent m (lead_number r) → base ≡ constant r.c → Every (λ (r : LeadRule). ¬ (r.c ≡ pos 0)) rules
      → now ≡ start *ᴾ product missing_power (take i rules) → IsCause fail (absolute now *ᴾ power (absolute base) k) → IsCause fail (absolute start *ᴾ constant (missing_powers (absolute_equations (solved_equations S rules)) e m))
  missing_cause fail rules i r k base start now lt is f b apart h c =
      subst (IsCause fail) (ap (λ p. absolute start *ᴾ p) (missing_bulk_is rules))
      (product_cause fail missing_power missing_bulk missing_bounded rules i r start now lt is (factors_proper rules apart) h (subst (IsCause fail) (ap₂ (λ p n. absolute now *ᴾ power (absolute p) n) b f) c))

-- ---- what is replaced by 0
pub power_apart : (p : WholePolynomial) → ¬ (p ≡ 0ᴾ) → (n : ℕ) → ¬ (power p n ≡ 0ᴾ)
power_apart p h zero = one_apart
power_apart p h (suc n) = λ e. power_apart p h n (no_zero_divisors p (power p n) h e)

pub kept_apart : (rs : List SolvedEquation) (ps : List (ℕ × ℕ)) → Every (IsKept rs) ps → Every (λ p. ¬ (replaced_power rs p ≡ 0ᴾ)) ps
kept_apart rs ps h = every-weaken (IsKept rs) (λ p. ¬ (replaced_power rs p ≡ 0ᴾ)) (λ p n. power_apart (replacement rs p.0) n p.1) ps h

pub now_apart : (rs : List SolvedEquation) (ps : List (ℕ × ℕ)) (i : ℕ) (d : ℕ × ℕ) (start now : WholePolynomial) → i < length ps → Every (IsKept rs) ps → ¬ (start ≡ 0ᴾ) → now ≡ start *ᴾ product (replaced_power rs) (take i ps) → ¬ (now ≡ 0ᴾ)
now_apart rs ps i d start now lt h n e z =
    apart_product (replaced_power rs) (take i ps) (kept_apart rs (take i ps) (every_before (IsKept rs) ps i (get_or ps i d) lt (read_same ps i d (get_or ps i d) lt) h))
    (no_zero_divisors start (product (replaced_power rs) (take i ps)) n (sym e ∙ z))

pub is_zero : (n : ℕ) → IsTrue (nat_eq n 0) → n ≡ 0
is_zero n h = grind (arith, nat_tests)

pub zero_is : (n : ℕ) → n ≡ 0 → IsTrue (nat_eq n 0)
zero_is n h = grind (arith, nat_tests)

pub removed_when : (p q : WholePolynomial) (n : ℕ) → q ≡ p → n ≡ length p.list → (IsTrue (nat_eq n 0) → q ≡ 0ᴾ) × (q ≡ 0ᴾ → IsTrue (nat_eq n 0))
removed_when p q n e l = ((λ h. e ∙ empty_zero p n l (is_zero n h)), (λ z. zero_is n (zero_empty p n l (sym e ∙ z))))

pub none_removed : (rs : List SolvedEquation) (w : ℕ) → is_lead rs w ≡ false → ¬ (replacement rs w ≡ 0ᴾ)
none_removed rs w h e = variable_apart w (sym (replacement_other rs w h) ∙ e)

-- ---- a variable that is no lead
pub other_power : (rs : List SolvedEquation) (w n : ℕ) → is_lead rs w ≡ false → term (power_of w n) (pos 1) ≡ power (replacement rs w) n
other_power rs w n h = power_variable w n ∙ ap (λ p. power p n) (sym (replacement_other rs w h))

pub other_bulk : (rs : List SolvedEquation) (w n : ℕ) → is_lead rs w ≡ false → term (power_of w n) (pos 1) ≡ power (absolute (replacement rs w)) n
other_bulk rs w n h = power_variable w n ∙ ap (λ p. power p n) (sym (absolute_variable w) ∙ ap absolute (sym (replacement_other rs w h)))
