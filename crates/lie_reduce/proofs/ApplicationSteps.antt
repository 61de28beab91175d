-- The prolonged field applied to an equation, coordinate by coordinate.
use Rattle.std.specs.Prelude.{◌≡◌, ℕ, zero, suc, ◌+◌, ◌<◌, List, [], ◌∷◌, ◌++◌, length, take, get_or, ℤ, pos, ◌*ℤ◌, unsigned_abs}
use Rattle.std.proofs.Common.{refl, sym, ap, ap₂, subst, subst₂, ◌∙◌, arith}
use Rattle.lie_math.specs.FiniteSumLaws.{plus_idl, plus_comm, plus_assoc}
use Rattle.lie_math.specs.Limits.{absolute}
use Rattle.lie_math.specs.Monomial.{exponent, single, unit}
use Rattle.lie_math.specs.PartialDerivative.{partial, lower}
use Rattle.lie_math.specs.Polynomial.{WholePolynomial, terms, term, 0ᴾ, ◌+ᴾ◌, ◌*ᴾ◌, constant, variable}
use Rattle.lie_math.specs.PolynomialRing.{*ᴾ_comm, 0ᴾ-*ᴾ, one-*ᴾ}
use Rattle.lie_math.specs.Variables.{FreeOf}
use Rattle.lie_math.proofs.Dependence.{partial_of_free}
use Rattle.lie_math.proofs.Limits.{IsCovered, covered_first, covered_second, covered_trans, nonneg_none}
use Rattle.lie_math.proofs.PartialDerivation.{partial-itself, partial-other, partial-constant_times}
use Rattle.lie_math.proofs.PartialDerivative.{partial-+ᴾ, partial-0ᴾ, partial-term}
use Rattle.lie_ring.specs.Causes.{IsCause}
use Rattle.lie_ring.specs.declared.failures.PolyFail.{PolyFail}
use Rattle.lie_poly.proofs.SumSteps.{cause_covered}
use Rattle.lie_jet.proofs.TotalSteps.{size_times}
use Rattle.lie_jet.proofs.BoundedPolynomials.{bounded_signed, absolute-nonneg}
use Rattle.lie_jet.proofs.PositiveMaps.{IsPositive, positive_bounded}
use Rattle.lie_jet.proofs.TotalBounds.{term_bound}
use Rattle.lie_reduce.specs.Applications.{sides, applied_to, absolute_coefficients}
use Rattle.lie_reduce.proofs.PowerSteps.{times_one, absolute_proper, absolute_plain}
use Rattle.lie_reduce.proofs.Products.{times-none, bounded_times, cause_times}
use Rattle.lie_ring.proofs.Fronts.{take_more}
use Rattle.lie_jet.proofs.PolynomialBounds.{IsBound, absolute_bound, covered_absolute, none_bound, plain_bound, sum_bound}

pub right_none : (p q : WholePolynomial) → q ≡ 0ᴾ → p +ᴾ q ≡ p
right_none p q e = ap (λ x. p +ᴾ x) e ∙ plus_comm terms p 0ᴾ ∙ plus_idl terms p

left_none : (p q : WholePolynomial) → p ≡ 0ᴾ → p +ᴾ q ≡ q
left_none p q e = ap (λ x. x +ᴾ q) e ∙ plus_idl terms q

-- ---- the derivatives of both sides
partial_sides : (v w : ℕ) (c s : ℤ) (R : WholePolynomial) → partial v (sides w c s R) ≡ constant c *ᴾ partial v (variable w) +ᴾ constant s *ᴾ partial v R
partial_sides v w c s R = partial-+ᴾ v (constant c *ᴾ variable w) (constant s *ᴾ R) ∙ ap₂ ◌+ᴾ◌ (partial-constant_times v c (variable w)) (partial-constant_times v s R)

pub slope_at_lead : (v w : ℕ) (c s : ℤ) (R : WholePolynomial) → v ≡ w → FreeOf w R → constant c ≡ partial v (sides w c s R)
slope_at_lead v w c s R e free =
    sym (ap (λ n. partial n (sides w c s R)) e ∙ partial_sides w w c s R
    ∙ right_none (constant c *ᴾ partial w (variable w)) (constant s *ᴾ partial w R) (ap (λ p. constant s *ᴾ p) (partial_of_free w R free) ∙ times-none (constant s))
    ∙ ap (λ p. constant c *ᴾ p) (partial-itself w) ∙ times_one (constant c))

pub slope_elsewhere : (v w : ℕ) (c s : ℤ) (R : WholePolynomial) → ¬ (v ≡ w) → constant s *ᴾ partial v R ≡ partial v (sides w c s R)
slope_elsewhere v w c s R n =
    sym (partial_sides v w c s R ∙ left_none (constant c *ᴾ partial v (variable w)) (constant s *ᴾ partial v R) (ap (λ p. constant c *ᴾ p) (partial-other v w n) ∙ times-none (constant c)))

-- ---- bounds
partial_is_positive : (v : ℕ) → IsPositive (partial v)
partial_is_positive v = record {
  plus = partial-+ᴾ v;
  nothing = partial-0ᴾ v;
  on_term = λ m c. subst₂ IsBound (sym (partial-term v m c)) (ap (term (lower v m)) (size_times c (exponent m v)) ∙ sym (partial-term v m (pos (unsigned_abs c)))) (term_bound (lower v m) (c *ℤ pos (exponent m v)));
}

abbrev pub bulk_sides : ℕ → ℤ → WholePolynomial → WholePolynomial
bulk_sides w c R = sides w (pos (unsigned_abs c)) (pos 1) (absolute R)

sides_bounded : (w : ℕ) (c s : ℤ) (R : WholePolynomial) → unsigned_abs s ≡ 1 → IsBound (sides w c s R) (bulk_sides w c R)
sides_bounded w c s R u =
    sum_bound (constant c *ᴾ variable w) (constant s *ᴾ R) (constant (pos (unsigned_abs c)) *ᴾ variable w) (constant (pos 1) *ᴾ absolute R)
    (bounded_times (constant c) (variable w) (constant (pos (unsigned_abs c))) (variable w) (term_bound unit c) (term_bound (single w) (pos 1)))
    (subst (IsBound (constant s *ᴾ R)) (sym (one-*ᴾ (absolute R))) (bounded_signed s R (absolute R) u (absolute_bound R)))

pub slope_bounded : (v w : ℕ) (c s : ℤ) (R : WholePolynomial) → unsigned_abs s ≡ 1 → IsBound (partial v (sides w c s R)) (partial v (bulk_sides w c R))
slope_bounded v w c s R u = positive_bounded (partial_is_positive v) (sides w c s R) (bulk_sides w c R) (sides_bounded w c s R u)

-- ---- causes
bulk_elsewhere : (v w : ℕ) (c : ℤ) (R : WholePolynomial) → ¬ (v ≡ w) → partial v (absolute R) ≡ partial v (bulk_sides w c R)
bulk_elsewhere v w c R n = sym (one-*ᴾ (partial v (absolute R))) ∙ slope_elsewhere v w (pos (unsigned_abs c)) (pos 1) (absolute R) n

pub derive_cause : (fail : PolyFail) (v w : ℕ) (c : ℤ) (R : WholePolynomial) → ¬ (v ≡ w) → IsCause fail (partial v (absolute R)) → IsCause fail (partial v (bulk_sides w c R))
derive_cause fail v w c R n = subst (IsCause fail) (bulk_elsewhere v w c R n)

pub scale_cause : (fail : PolyFail) (v w : ℕ) (c s : ℤ) (R d : WholePolynomial) → ¬ (v ≡ w) → unsigned_abs s ≡ 1 → d ≡ partial v R → IsCause fail (constant (pos (unsigned_abs s)) *ᴾ absolute d) → IsCause fail (partial v (bulk_sides w c R))
scale_cause fail v w c s R d n u e h =
    subst (IsCause fail) (bulk_elsewhere v w c R n)
    (cause_covered fail (absolute d) (partial v (absolute R)) ((covered_absolute d (partial v (absolute R)) (subst (λ p. IsBound p (partial v (absolute R))) (sym e) (positive_bounded (partial_is_positive v) R (absolute R) (absolute_bound R)))).covered)
    (subst (IsCause fail) (ap (λ k. constant (pos k) *ᴾ absolute d) u ∙ one-*ᴾ (absolute d)) h))

pub slope_cause : (fail : PolyFail) (v w : ℕ) (c s : ℤ) (R k : WholePolynomial) → unsigned_abs s ≡ 1 → ¬ (k ≡ 0ᴾ) → IsCause fail (partial v (bulk_sides w c R)) → IsCause fail (absolute k *ᴾ partial v (bulk_sides w c R))
slope_cause fail v w c s R k u n h =
    subst (IsCause fail) (*ᴾ_comm (partial v (bulk_sides w c R)) (absolute k))
    (cause_times fail (partial v (bulk_sides w c R)) (absolute k) ((slope_bounded v w c s R u).plain) (absolute_proper k n) h)

pub part_cause : (fail : PolyFail) (v w : ℕ) (c s : ℤ) (R k d : WholePolynomial) → unsigned_abs s ≡ 1 → d ≡ partial v (sides w c s R) → IsCause fail (absolute k *ᴾ absolute d) → IsCause fail (absolute k *ᴾ partial v (bulk_sides w c R))
part_cause fail v w c s R k d u e h =
    cause_covered fail (absolute k *ᴾ absolute d) _
    ((bounded_times (absolute k) (absolute d) (absolute k) (partial v (bulk_sides w c R)) (plain_bound (absolute k) (absolute_plain k)) (covered_absolute d _ (subst (λ p. IsBound p (partial v (bulk_sides w c R))) (sym e) (slope_bounded v w c s R u)))).covered) h

pub none_part : (p k q : WholePolynomial) → k ≡ 0ᴾ → p ≡ p +ᴾ k *ᴾ q
none_part p k q e = sym (right_none p (k *ᴾ q) (ap (λ x. x *ᴾ q) e ∙ 0ᴾ-*ᴾ q))

pub none_size : (p k q : WholePolynomial) → k ≡ 0ᴾ → p ≡ p +ᴾ absolute (k *ᴾ q)
none_size p k q e = sym (right_none p (absolute (k *ᴾ q)) (ap absolute (ap (λ x. x *ᴾ q) e ∙ 0ᴾ-*ᴾ q) ∙ absolute-nonneg 0ᴾ nonneg_none))

-- ---- sums
pub applied-append : (cs ds : List (ℕ × WholePolynomial)) (P : WholePolynomial) → applied_to (cs ++ ds) P ≡ applied_to cs P +ᴾ applied_to ds P
applied-append [] ds P = sym (plus_idl terms (applied_to ds P))
applied-append (c ∷ cs) ds P = ap (λ q. c.1 *ᴾ partial c.0 P +ᴾ q) (applied-append cs ds P) ∙ sym (plus_assoc terms (c.1 *ᴾ partial c.0 P) (applied_to cs P) (applied_to ds P))

pub applied_more : (cs : List (ℕ × WholePolynomial)) (i : ℕ) (c : ℕ × WholePolynomial) (P : WholePolynomial) → i < length cs → c ≡ get_or cs i c → applied_to (take (i + 1) cs) P ≡ applied_to (take i cs) P +ᴾ c.1 *ᴾ partial c.0 P
applied_more cs i c P lt is = ap (λ xs. applied_to xs P) (sym (take_more cs i c lt is)) ∙ applied-append (take i cs) (c ∷ []) P ∙ ap (λ q. applied_to (take i cs) P +ᴾ q) (right_none (c.1 *ᴾ partial c.0 P) 0ᴾ refl)

module _ (w : ℕ) (c s : ℤ) (R : WholePolynomial) where
  -- the sum of the absolute values of the parts
  abbrev pub sized : List (ℕ × WholePolynomial) → WholePolynomial
  sized [] = 0ᴾ
  sized (k ∷ ks) = absolute (k.1 *ᴾ partial k.0 (sides w c s R)) +ᴾ sized ks

  sized-append : (cs ds : List (ℕ × WholePolynomial)) → sized (cs ++ ds) ≡ sized cs +ᴾ sized ds
  sized-append [] ds = sym (plus_idl terms (sized ds))
  sized-append (k ∷ cs) ds = ap (λ q. absolute (k.1 *ᴾ partial k.0 (sides w c s R)) +ᴾ q) (sized-append cs ds) ∙ sym (plus_assoc terms (absolute (k.1 *ᴾ partial k.0 (sides w c s R))) (sized cs) (sized ds))

  pub sized_more : (cs : List (ℕ × WholePolynomial)) (i : ℕ) (k : ℕ × WholePolynomial) → i < length cs → k ≡ get_or cs i k → sized (take (i + 1) cs) ≡ sized (take i cs) +ᴾ absolute (k.1 *ᴾ partial k.0 (sides w c s R))
  sized_more cs i k lt is = ap sized (sym (take_more cs i k lt is)) ∙ sized-append (take i cs) (k ∷ []) ∙ ap (λ q. sized (take i cs) +ᴾ q) (right_none (absolute (k.1 *ᴾ partial k.0 (sides w c s R))) 0ᴾ refl)

  part_bounded : unsigned_abs s ≡ 1 → (k : ℕ × WholePolynomial) → IsBound (absolute (k.1 *ᴾ partial k.0 (sides w c s R))) (absolute k.1 *ᴾ partial k.0 (bulk_sides w c R))
  part_bounded u k = covered_absolute _ _ (bounded_times k.1 (partial k.0 (sides w c s R)) (absolute k.1) (partial k.0 (bulk_sides w c R)) (absolute_bound k.1) (slope_bounded k.0 w c s R u))

  sized_bounded : unsigned_abs s ≡ 1 → (cs : List (ℕ × WholePolynomial)) → IsBound (sized cs) (applied_to (absolute_coefficients cs) (bulk_sides w c R))
  sized_bounded u [] = none_bound
  sized_bounded u (k ∷ cs) = sum_bound _ _ _ _ (part_bounded u k) (sized_bounded u cs)

  pub sized_cause : unsigned_abs s ≡ 1 → (fail : PolyFail) (cs : List (ℕ × WholePolynomial)) (made : WholePolynomial) → made ≡ sized cs → IsCause fail made → IsCause fail (applied_to (absolute_coefficients cs) (bulk_sides w c R))
  sized_cause u fail cs made e h = cause_covered fail (sized cs) _ ((sized_bounded u cs).covered) (subst (IsCause fail) e h)

  part_covered : unsigned_abs s ≡ 1 → (cs : List (ℕ × WholePolynomial)) (i : ℕ) (k : ℕ × WholePolynomial) → i < length cs → k ≡ get_or cs i k → IsCovered (absolute k.1 *ᴾ partial k.0 (bulk_sides w c R)) (applied_to (absolute_coefficients cs) (bulk_sides w c R))
  part_covered u [] i k lt is = absurd (omega arith)
  part_covered u (x ∷ cs) zero k lt is = subst (λ (y : ℕ × WholePolynomial). IsCovered (absolute y.1 *ᴾ partial y.0 (bulk_sides w c R)) (applied_to (absolute_coefficients (x ∷ cs)) (bulk_sides w c R))) (sym is) (covered_first _ _ ((part_bounded u x).plain) ((sized_bounded u cs).plain))
  part_covered u (x ∷ cs) (suc i) k lt is = covered_trans _ _ _ (part_covered u cs i k (omega arith) is) (covered_second _ _ ((part_bounded u x).plain) ((sized_bounded u cs).plain))

  pub part_of_all : unsigned_abs s ≡ 1 → (fail : PolyFail) (cs : List (ℕ × WholePolynomial)) (i : ℕ) (k : ℕ × WholePolynomial) → i < length cs → k ≡ get_or cs i k → IsCause fail (absolute k.1 *ᴾ partial k.0 (bulk_sides w c R)) → IsCause fail (applied_to (absolute_coefficients cs) (bulk_sides w c R))
  part_of_all u fail cs i k lt is = cause_covered fail _ _ (part_covered u cs i k lt is)
