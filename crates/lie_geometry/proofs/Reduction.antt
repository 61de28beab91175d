-- Reduction, by exponents that bound those of the leads. What is reduced to 0 does not depend on the exponents.
use Rattle.std.specs.Prelude.{◌≡◌, ℕ, zero, suc, ◌+◌, ◌-◌, ◌<◌, ◌≤◌, Bool, true, false, cond, ◌&&◌, List, [], ◌∷◌, length, eqb, leb, All, ℤ, pos, ◌+ℤ◌, ◌*ℤ◌}
use Rattle.std.proofs.Common.{refl, sym, ap, ap₂, ◌∙◌, arith}
use Rattle.std.proofs.lemmas.Bool.{leb-true, leb-false, eqb-false}
use mathlib.Core.Path.{fun_ext}
use lib.IntN.{*ℤ_comm, zero-*ℤ, *ℤ-zero}
use Rattle.std.specs.Ordering.{eq_by_cmp, nat_cmp}
use Rattle.lie_math.proofs.Variables.{max_left, max_right}
use Rattle.lie_math.proofs.FiniteSum as finite_proofs
use Rattle.lie_math.specs.Canonical.{middle, sum_of_entries-plus, sum_of_entries-map}
use Rattle.lie_math.specs.Evaluation.{factors, to_power, monomial_value}
use Rattle.lie_math.specs.FiniteSumLaws.{sum-term, sum-plus, value-plus, value-term, plus_idl, term_additive, sum_of_terms}
use Rattle.lie_math.specs.Integer.{*ℤ-distl, *ℤ_assoc, *ℤ-idl, *ℤ-distr, integer_algebra}
use Rattle.lie_math.specs.Monomial.{powers, Monomial, exponent, unit, ◌·◌, single}
use Rattle.lie_math.specs.Natural.{maxima}
use Rattle.lie_math.specs.Polynomial.{term, terms, WholePolynomial, 0ᴾ, ◌+ᴾ◌, polynomials, over_terms, ◌*ᴾ◌, constant, variable}
use Rattle.lie_math.specs.PolynomialRing.{AdditiveOnTerms, +ᴾ-*ᴾ, *ᴾ-dist, *ᴾ_assoc, polynomial_ring, term_times_term, constant-plus, constant-times, polynomial_algebra}
use Rattle.lie_math.specs.Powers.{degree_in}
use Rattle.lie_math.specs.SortedSum.{sum_of_entries}
use Rattle.lie_math.specs.Variables.{IsIn}
use Rattle.lie_math.proofs.Evaluation.{to_power-plus, to_power_additive}
use Rattle.lie_math.proofs.Integer.{no_zero_divisors_ℤ}
use Rattle.lie_math.proofs.LinearMap.{IsAdditive, over_terms_additive, over_terms-term, over_terms-inside, over_terms-out}
use Rattle.lie_math.proofs.Ring.{plus_idr, times_idr, times_nil, nil_times}
use Rattle.lie_math.proofs.RingSolver.{v, ◌⊗◌, solve, listed}
use Rattle.lie_math.proofs.Weighing.{scaled_additive, weigh, weigh-plus, weigh_none, torsion}
use Rattle.lie_geometry.specs.SolvedEquations.{SolvedEquation, is_lead, replacement, missing_powers, reduced_by}
use Rattle.lie_geometry.proofs.Booleans.{and_left, and_right, or_left, or_right}
use Rattle.lie_math.proofs.PartialDerivative.{last_factors_swap}
use Rattle.lie_math.proofs.Monomial.{·_idr}

abbrev terms_greatest : List (Monomial × ℤ) → ℕ → ℕ
terms_greatest es w = sum_of_entries maxima (λ m a. exponent m w) es

-- the degrees of P in each variable
abbrev pub degrees_of : WholePolynomial → ℕ → ℕ
degrees_of P w = degree_in w P

-- a variable that is no lead
exponent_other : (m : Monomial) (w l : ℕ) → eqb w l ≡ false → exponent (m · single w) l ≡ exponent m l
exponent_other m w l e = value-plus powers m (single w) l ∙ ap (λ n. exponent m l + n) (value-term powers w 1 l ∙ apart (eq_by_cmp nat_cmp l w) refl) ∙ plain (exponent m l)
  where
    apart : (t : Bool) → eq_by_cmp nat_cmp l w ≡ t → ◌≡◌ {A = ℕ} (cond t 1 0) 0
    apart true f = absurd (eqb-false w l e (sym (finite_proofs.key powers l w f)))
    apart false f = refl

    plain : (n : ℕ) → n + 0 ≡ n
    plain n = omega arith

missing_powers_other : (rs : List SolvedEquation) (e : ℕ → ℕ) (m : Monomial) (w : ℕ) → is_lead rs w ≡ false → missing_powers rs e (m · single w) ≡ missing_powers rs e m
missing_powers_other [] e m w h = refl
missing_powers_other (r ∷ rs) e m w h = ap₂ (λ n f. to_power integer_algebra r.factor (e r.lead - n) *ℤ f) (exponent_other m w r.lead (or_left (eqb w r.lead) (is_lead rs w) h)) (missing_powers_other rs e m w (or_right (eqb w r.lead) (is_lead rs w) h))

pub replacement_other : (rs : List SolvedEquation) (w : ℕ) → is_lead rs w ≡ false → replacement rs w ≡ variable w
replacement_other [] w h = refl
replacement_other (r ∷ rs) w h = ap (λ t. cond t r.right (replacement rs w)) (or_left (eqb w r.lead) (is_lead rs w) h) ∙ replacement_other rs w (or_right (eqb w r.lead) (is_lead rs w) h)

-- ---- the reduction, term by term
module _ (rs : List SolvedEquation) (e : ℕ → ℕ) where
  abbrev M : Monomial → WholePolynomial
  M m = monomial_value polynomial_algebra (replacement rs) m

  abbrev pub reduced_term : Monomial → ℤ → WholePolynomial
  reduced_term m a = constant (a *ℤ missing_powers rs e m) *ᴾ M m

  pub reduced_term_additive : AdditiveOnTerms reduced_term
  reduced_term_additive = record {
    on_nil = λ m. ap (λ z. constant z *ᴾ M m) (zero-*ℤ (missing_powers rs e m)) ∙ ap (λ z. z *ᴾ M m) ((term_additive terms).on_nil unit) ∙ nil_times polynomial_ring (M m);
    on_plus = λ m a b. ap (λ z. constant z *ᴾ M m) (*ℤ-distr a b (missing_powers rs e m)) ∙ ap (λ z. z *ᴾ M m) (constant-plus (a *ℤ missing_powers rs e m) (b *ℤ missing_powers rs e m)) ∙ +ᴾ-*ᴾ _ _ (M m);
  }

  pub reduced_by_additive : IsAdditive (reduced_by rs e)
  unfolding reduced_by
  reduced_by_additive = over_terms_additive reduced_term reduced_term_additive

  moved : (x m y : WholePolynomial) → (x *ᴾ y) *ᴾ m ≡ (x *ᴾ m) *ᴾ y
  moved x m y = solve polynomial_ring (listed x (x ∷ m ∷ y ∷ [])) ((v 0 ⊗ v 2) ⊗ v 1) ((v 0 ⊗ v 1) ⊗ v 2) refl

  -- a factor with no lead can be taken out
  pub reduced_by_out : (S : ℕ → Bool) → ((w : ℕ) → S w ≡ true → is_lead rs w ≡ false) → (p f : WholePolynomial) → IsIn S f → reduced_by rs e (p *ᴾ f) ≡ reduced_by rs e p *ᴾ f
  unfolding reduced_by
  reduced_by_out S apart = over_terms-out reduced_term reduced_term_additive S
      (λ c m a. ap (λ n. reduced_term n (a *ℤ c)) (·_idr m) ∙ ap (λ z. constant z *ᴾ M m) (last_factors_swap a c (missing_powers rs e m)) ∙ ap (λ z. z *ᴾ M m) (constant-times (a *ℤ missing_powers rs e m) c) ∙ moved (constant (a *ℤ missing_powers rs e m)) (M m) (constant c))
      (λ w h m a. ap₂ (λ z n. constant z *ᴾ n)
      (ap₂ ◌*ℤ◌ (*ℤ_comm a (pos 1) ∙ *ℤ-idl a) (missing_powers_other rs e m w (apart w h)))
      (sum-plus powers (factors polynomial_algebra) _ (to_power_additive polynomial_algebra (replacement rs)) m (single w)
      ∙ ap (λ n. M m *ᴾ n) (sum-term powers (factors polynomial_algebra) _ (to_power_additive polynomial_algebra (replacement rs)) w 1 ∙ times_idr polynomial_ring (replacement rs w) ∙ replacement_other rs w (apart w h)))
      ∙ sym (*ᴾ_assoc (constant (a *ℤ missing_powers rs e m)) (M m) (variable w)))

-- ---- exponents that bound
abbrev pub fits : List SolvedEquation → (ℕ → ℕ) → Monomial → Bool
fits [] e m = true
fits (r ∷ rs) e m = leb (exponent m r.lead) (e r.lead) && fits rs e m

abbrev pub outside : List SolvedEquation → (ℕ → ℕ) → Monomial → ℤ
outside rs e m = cond (fits rs e m) (pos 0) (pos 1)

abbrev pub inside : List SolvedEquation → (ℕ → ℕ) → Monomial → ℤ
inside rs e m = cond (fits rs e m) (pos 1) (pos 0)

-- no term of P has a greater exponent at a lead
abbrev pub Bounded : List SolvedEquation → (ℕ → ℕ) → WholePolynomial → Type 0
Bounded rs e P = weigh (outside rs e) P ≡ 0ᴾ

fits_other : (rs : List SolvedEquation) (e : ℕ → ℕ) (m : Monomial) (w : ℕ) → is_lead rs w ≡ false → fits rs e (m · single w) ≡ fits rs e m
fits_other [] e m w h = refl
fits_other (r ∷ rs) e m w h = ap₂ (λ n f. leb n (e r.lead) && f) (exponent_other m w r.lead (or_left (eqb w r.lead) (is_lead rs w) h)) (fits_other rs e m w (or_right (eqb w r.lead) (is_lead rs w) h))

module _ (rs : List SolvedEquation) (e : ℕ → ℕ) where
  pub bounded_none : Bounded rs e 0ᴾ
  bounded_none = weigh_none (outside rs e)

  pub bounded-+ᴾ : (p q : WholePolynomial) → Bounded rs e p → Bounded rs e q → Bounded rs e (p +ᴾ q)
  bounded-+ᴾ p q h k = weigh-plus (outside rs e) p q ∙ ap₂ ◌+ᴾ◌ h k ∙ plus_idl terms 0ᴾ

  pub bounded_out : (S : ℕ → Bool) → ((w : ℕ) → S w ≡ true → is_lead rs w ≡ false) → (p f : WholePolynomial) → IsIn S f → Bounded rs e p → Bounded rs e (p *ᴾ f)
  unfolding weigh
  bounded_out S apart p f k h =
      over_terms-out (λ k a. term k (a *ℤ outside rs e k)) (scaled_additive (outside rs e)) S
      (λ c m a. ap (λ n. term n ((a *ℤ c) *ℤ outside rs e n)) (·_idr m) ∙ ap₂ term (sym (·_idr m)) (last_factors_swap a c (outside rs e m)) ∙ sym (term_times_term m unit (a *ℤ outside rs e m) c))
      (λ w g m a. ap (term (m · single w)) (ap₂ ◌*ℤ◌ (*ℤ_comm a (pos 1) ∙ *ℤ-idl a) (ap (λ t. cond t (pos 0) (pos 1)) (fits_other rs e m w (apart w g))) ∙ sym (*ℤ_comm (a *ℤ outside rs e m) (pos 1) ∙ *ℤ-idl (a *ℤ outside rs e m))) ∙ sym (term_times_term m (single w) (a *ℤ outside rs e m) (pos 1)))
      p f k ∙ ap (λ z. z *ᴾ f) h ∙ nil_times polynomial_ring f

  -- the terms inside are all
  pub inside_all : (P : WholePolynomial) → Bounded rs e P → weigh (inside rs e) P ≡ P
  unfolding weigh
  inside_all P h =
      sym (plus_idr polynomial_ring (weigh (inside rs e) P)) ∙ ap (λ z. weigh (inside rs e) P +ᴾ z) (sym h)
      ∙ sym (sum_of_entries-plus polynomials (λ k a. term k (a *ℤ inside rs e k)) (λ k a. term k (a *ℤ outside rs e k)) P.list)
      ∙ ap (λ φ. over_terms φ P) (fun_ext (λ k. fun_ext (λ a. sym ((term_additive terms).on_plus k (a *ℤ inside rs e k) (a *ℤ outside rs e k)) ∙ ap (term k) (sym (*ℤ-distl a (inside rs e k) (outside rs e k)) ∙ ap (λ z. a *ℤ z) (both (fits rs e k)) ∙ *ℤ_comm a (pos 1) ∙ *ℤ-idl a))))
      ∙ sum_of_terms terms P
    where
      both : (t : Bool) → cond t (pos 1) (pos 0) +ℤ cond t (pos 0) (pos 1) ≡ pos 1
      both true = refl
      both false = refl

  leb_of : (a b : ℕ) → a ≤ b → leb a b ≡ true
  leb_of a b h = go (leb a b) refl
    where
      go : (t : Bool) → leb a b ≡ t → t ≡ true
      go true f = refl
      go false f = absurd (let g : b < a = leb-false a b f in omega arith)

  pub fits_all : (rs : List SolvedEquation) (m : Monomial) → ((w : ℕ) → exponent m w ≤ e w) → fits rs e m ≡ true
  fits_all [] m h = refl
  fits_all (r ∷ rs) m h = ap₂ ◌&&◌ (leb_of (exponent m r.lead) (e r.lead) (h r.lead)) (fits_all rs m h)

  -- the greatest exponents bound
  pub bounded_greatest : (P : WholePolynomial) → ((w : ℕ) → degrees_of P w ≤ e w) → Bounded rs e P
  unfolding weigh
  bounded_greatest P h = go P.list h
    where
      go : (es : List (Monomial × ℤ)) → ((w : ℕ) → terms_greatest es w ≤ e w) → sum_of_entries polynomials (λ k a. term k (a *ℤ outside rs e k)) es ≡ 0ᴾ
      go [] h = refl
      go (x ∷ es) h =
          ap₂ ◌+ᴾ◌ (ap (λ t. term x.0 (x.1 *ℤ cond t (pos 0) (pos 1))) (fits_all rs x.0 (λ w. max_left (exponent x.0 w) (terms_greatest es w) (e w) (h w))) ∙ ap (term x.0) (*ℤ-zero x.1) ∙ (term_additive terms).on_nil x.0)
          (go es (λ w. max_right (exponent x.0 w) (terms_greatest es w) (e w) (h w))) ∙ plus_idl terms 0ᴾ

-- ---- greater exponents
abbrev pub gap : List SolvedEquation → (ℕ → ℕ) → (ℕ → ℕ) → ℤ
gap [] e f = pos 1
gap (r ∷ rs) e f = to_power integer_algebra r.factor (f r.lead - e r.lead) *ℤ gap rs e f

exchange : (a b x y : ℤ) → (a *ℤ b) *ℤ (x *ℤ y) ≡ (a *ℤ x) *ℤ (b *ℤ y)
exchange a b x y = middle (factors integer_algebra) a b x y

missing_powers_gap : (rs : List SolvedEquation) (e f : ℕ → ℕ) → ((w : ℕ) → e w ≤ f w) → (m : Monomial) → fits rs e m ≡ true → missing_powers rs f m ≡ gap rs e f *ℤ missing_powers rs e m
missing_powers_gap [] e f h m k = refl
missing_powers_gap (r ∷ rs) e f h m k =
    let n = exponent m r.lead in
    let low : n ≤ e r.lead = leb-true n (e r.lead) (and_left (leb n (e r.lead)) (fits rs e m) k) in
    ap₂ ◌*ℤ◌ (ap (to_power integer_algebra r.factor) (split n (e r.lead) (f r.lead) low (h r.lead)) ∙ to_power-plus integer_algebra r.factor (f r.lead - e r.lead) (e r.lead - n)) (missing_powers_gap rs e f h m (and_right (leb n (e r.lead)) (fits rs e m) k))
    ∙ exchange (to_power integer_algebra r.factor (f r.lead - e r.lead)) (to_power integer_algebra r.factor (e r.lead - n)) (gap rs e f) (missing_powers rs e m)
  where
    split : (n e f : ℕ) → n ≤ e → e ≤ f → f - n ≡ (f - e) + (e - n)
    split n e f h k = omega arith

pub reduced_by_gap : (rs : List SolvedEquation) (e f : ℕ → ℕ) → ((w : ℕ) → e w ≤ f w) → (P : WholePolynomial) → Bounded rs e P → reduced_by rs f P ≡ constant (gap rs e f) *ᴾ reduced_by rs e P
unfolding reduced_by weigh
reduced_by_gap rs e f h P b =
    ap (over_terms (reduced_term rs f)) (sym (inside_all rs e P b)) ∙ over_terms-inside (reduced_term rs f) (reduced_term_additive rs f) (λ k a. term k (a *ℤ inside rs e k)) P
    ∙ ap (λ φ. over_terms φ P) (fun_ext (λ k. fun_ext (λ a. over_terms-term (reduced_term rs f) (reduced_term_additive rs f) k (a *ℤ inside rs e k) ∙ at k a (fits rs e k) refl ∙ ap (λ z. constant (gap rs e f) *ᴾ z) (sym (over_terms-term (reduced_term rs e) (reduced_term_additive rs e) k (a *ℤ inside rs e k))))))
    ∙ sym (sum_of_entries-map polynomials polynomials (λ z. constant (gap rs e f) *ᴾ z) (times_nil polynomial_ring (constant (gap rs e f))) (*ᴾ-dist (constant (gap rs e f))) (λ k a. over_terms (reduced_term rs e) (term k (a *ℤ inside rs e k))) P.list)
    ∙ ap (λ z. constant (gap rs e f) *ᴾ z) (sym (over_terms-inside (reduced_term rs e) (reduced_term_additive rs e) (λ k a. term k (a *ℤ inside rs e k)) P) ∙ ap (over_terms (reduced_term rs e)) (inside_all rs e P b))
  where
    turn : (a g x : ℤ) → a *ℤ (g *ℤ x) ≡ g *ℤ (a *ℤ x)
    turn a g x = sym (*ℤ_assoc a g x) ∙ ap (λ z. z *ℤ x) (*ℤ_comm a g) ∙ *ℤ_assoc g a x

    at : (k : Monomial) (a : ℤ) (t : Bool) → fits rs e k ≡ t → reduced_term rs f k (a *ℤ cond t (pos 1) (pos 0)) ≡ constant (gap rs e f) *ᴾ reduced_term rs e k (a *ℤ cond t (pos 1) (pos 0))
    at k a true g =
        ap (λ z. constant ((a *ℤ pos 1) *ℤ z) *ᴾ monomial_value polynomial_algebra (replacement rs) k) (missing_powers_gap rs e f h k g)
        ∙ ap (λ z. constant z *ᴾ monomial_value polynomial_algebra (replacement rs) k) (turn (a *ℤ pos 1) (gap rs e f) (missing_powers rs e k))
        ∙ ap (λ z. z *ᴾ monomial_value polynomial_algebra (replacement rs) k) (constant-times (gap rs e f) ((a *ℤ pos 1) *ℤ missing_powers rs e k)) ∙ *ᴾ_assoc _ _ _
    at k a false g =
        ap (reduced_term rs f k) (*ℤ-zero a) ∙ (reduced_term_additive rs f).on_nil k ∙ sym (ap (λ z. constant (gap rs e f) *ᴾ z) (ap (reduced_term rs e k) (*ℤ-zero a) ∙ (reduced_term_additive rs e).on_nil k) ∙ times_nil polynomial_ring _)

-- ---- no lead has the number 0 before it
pub power_apart : (c : ℤ) → ¬ (c ≡ pos 0) → (n : ℕ) → ¬ (to_power integer_algebra c n ≡ pos 0)
power_apart c h zero k = absurd (omega (arith, ap lib.IntN.nat_abs k))
power_apart c h (suc n) k = power_apart c h n (no_zero_divisors_ℤ c (to_power integer_algebra c n) h k)

abbrev pub NonzeroFactors : List SolvedEquation → Type 0
NonzeroFactors rs = All (λ r. ¬ (r.factor ≡ pos 0)) rs

pub rest_all : (P : SolvedEquation → Type 0) (r : SolvedEquation) (rs : List SolvedEquation) → All P (r ∷ rs) → All P rs
rest_all P r rs h k d g = h (suc k) d (next g)
  where
    next : k < length rs → suc k < length (r ∷ rs)
    next g = omega arith

pub gap_apart : (rs : List SolvedEquation) → NonzeroFactors rs → (e f : ℕ → ℕ) → ¬ (gap rs e f ≡ pos 0)
gap_apart [] h e f k = absurd (omega (arith, ap lib.IntN.nat_abs k))
gap_apart (r ∷ rs) h e f k = gap_apart rs (rest_all (λ r. ¬ (r.factor ≡ pos 0)) r rs h) e f (no_zero_divisors_ℤ _ (gap rs e f) (power_apart r.factor (h 0 r (omega arith)) (f r.lead - e r.lead)) k)

-- what is reduced to 0 does not depend on the exponents
pub same_zero : (rs : List SolvedEquation) → NonzeroFactors rs → (e f : ℕ → ℕ) (P : WholePolynomial) → Bounded rs e P → Bounded rs f P → reduced_by rs e P ≡ 0ᴾ → reduced_by rs f P ≡ 0ᴾ
same_zero rs apart e f P b d z =
    torsion (gap rs f g) (gap_apart rs apart f g) (reduced_by rs f P) (sym (reduced_by_gap rs f g (λ w. right (e w) (f w)) P d) ∙ reduced_by_gap rs e g (λ w. left (e w) (f w)) P b ∙ ap (λ x. constant (gap rs e g) *ᴾ x) z ∙ times_nil polynomial_ring _)
  where
    g : ℕ → ℕ
    g w = e w + f w

    left : (a b : ℕ) → a ≤ a + b
    left a b = omega arith

    right : (a b : ℕ) → b ≤ a + b
    right a b = omega arith

pub bounded_reduced : (rs : List SolvedEquation) (P : WholePolynomial) → Bounded rs (degrees_of P) P
bounded_reduced rs P = bounded_greatest rs (degrees_of P) P (λ w. itself (degrees_of P w))
  where
    itself : (n : ℕ) → n ≤ n
    itself n = omega arith
