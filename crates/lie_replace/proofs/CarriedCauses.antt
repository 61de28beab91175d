-- What is past a limit before derivatives is past it after them, where no term is lost, and in multiples.
use Rattle.std.specs.Prelude.{◌≡◌, ℕ, suc, ◌<◌, ◌≤◌, true, List, [], ◌∷◌}
use Rattle.std.proofs.Common.{sym, ap, subst, ◌∙◌, arith}
use Rattle.std.specs.List.{AllByRecursion as Every, Any}
use Rattle.lie_math.specs.Counts.{Derivative, order, raised}
use Rattle.lie_math.specs.LinearForm.{LinearForm, form_term, times_form}
use Rattle.lie_math.specs.LinearSystem.{Unknown}
use Rattle.lie_math.specs.Limits.{absolute}
use Rattle.lie_math.specs.Polynomial.{WholePolynomial, 0ᴾ, ◌*ᴾ◌}
use Rattle.lie_math.specs.PolynomialRing.{polynomial_ring, *ᴾ-dist}
use Rattle.lie_math.proofs.Counts.{order_raise}
use Rattle.lie_math.proofs.Limits.{IsNonNegative}
use Rattle.lie_math.proofs.Ring.{times_nil}
use Rattle.lie_systems.specs.Triples.{Triple}
use Rattle.lie_ring.specs.declared.failures.PastKind.TheVariants.{Coefficient, Exponent, Terms, Order, Unknowns, Width}
use Rattle.lie_ring.specs.declared.failures.PolyFail.{PolyFail}
use Rattle.lie_ring.specs.declared.failures.PolyFail.TheVariants.{Past, NoMemory}
use Rattle.lie_poly.proofs.SumSteps.{cause_covered}
use Rattle.lie_jet.proofs.PolynomialBounds.{absolute_bound}
use Rattle.lie_form.specs.FormLimits.{IsFormCause, IsFormCoefficientCause}
use Rattle.lie_form.proofs.FormBounds.{at, IsFormBound, IsPlain, form_plain, form_first, form_second, form_sum, form_none, form_one, form_trans}
use Rattle.lie_geometry.proofs.AbsoluteForms.{entry_absolutes}
use Rattle.lie_form.proofs.FormCauses.{coefficient_cause, triple_of}
use Rattle.lie_form.proofs.FormSteps.{at_term}
use Rattle.lie_steps.specs.Derivatives.{derivative}
use Rattle.lie_steps.specs.Equations.{depends}
use Rattle.lie_replace.specs.Growing.{GrowsTo, FormLasts, HasHighDerivative, IsGrownCause, IsPartCause}
use Rattle.lie_normal.specs.Orders.{Entry, RisesHigh}
use Rattle.lie_replace.specs.Replacing.{derivatives_by, form_of}
use Rattle.lie_normal.proofs.DerivedForms.{any_every}
use Rattle.lie_replace.proofs.DerivativeBounds.{at_each}
use Rattle.lie_replace.proofs.GrowingCoefficients.{grows_covered, grows_times}
use Rattle.lie_replace.proofs.LastingForms.{step, steps, grows_step, grows_steps, order_steps, lasting_low}

-- ---- causes of parts
pub coefficient_part : (fail : PolyFail) (B : LinearForm) → IsFormCoefficientCause fail B → IsPartCause fail B
coefficient_part (Past Coefficient) B c = c
coefficient_part (Past Exponent) B c = c
coefficient_part (Past Terms) B c = c
coefficient_part (Past Order) B c = absurd c.1
coefficient_part (Past Unknowns) B c = absurd c.1
coefficient_part (Past Width) B c = absurd c.1
coefficient_part NoMemory B c = tt

pub grown_part : (fail : PolyFail) (B : LinearForm) → IsGrownCause fail B → IsPartCause fail B
grown_part (Past Coefficient) B c = c
grown_part (Past Exponent) B c = absurd c
grown_part (Past Terms) B c = c
grown_part (Past Order) B c = c
grown_part (Past Unknowns) B c = absurd c
grown_part (Past Width) B c = absurd c
grown_part NoMemory B c = tt

occurs_in_bound : (E B : LinearForm) (d : Derivative) → IsFormBound E B → ¬ (at E d ≡ 0ᴾ) → ¬ (at B d ≡ 0ᴾ)
occurs_in_bound E B d h n = (grows_covered (at E d) (at B d) (h.each d).covered).some n

-- what bounds a form has its causes
pub part_bound : (fail : PolyFail) (E B : LinearForm) → IsFormBound E B → IsPartCause fail E → IsPartCause fail B
part_bound (Past Coefficient) E B h c = (c.0, cause_covered (Past Coefficient) (at E c.0) (at B c.0) (h.each c.0).covered c.1)
part_bound (Past Exponent) E B h c = (c.0, cause_covered (Past Exponent) (at E c.0) (at B c.0) (h.each c.0).covered c.1)
part_bound (Past Terms) E B h c = (c.0, cause_covered (Past Terms) (at E c.0) (at B c.0) (h.each c.0).covered c.1)
part_bound (Past Order) E B h c = (c.0, occurs_in_bound E B c.0 h c.1, c.2)
part_bound (Past Unknowns) E B h c = c
part_bound (Past Width) E B h c = c
part_bound NoMemory E B h c = tt

-- and they are those of the form
pub part_form : (fail : PolyFail) (B : LinearForm) → IsPartCause fail B → IsFormCause fail B
part_form (Past Coefficient) B c = coefficient_cause (Past Coefficient) B c
part_form (Past Exponent) B c = coefficient_cause (Past Exponent) B c
part_form (Past Terms) B c = coefficient_cause (Past Terms) B c
part_form (Past Order) B c = triple_of B c.0 (λ (t : Triple). 64 < order t.0.counts) c.1 (λ m a. c.2)
part_form (Past Unknowns) B c = absurd c
part_form (Past Width) B c = absurd c
part_form NoMemory B c = tt

-- ---- through derivatives
module _ (us : List Unknown) where
  pub carried_coefficient : (fail : PolyFail) (vs : List ℕ) (X : LinearForm) → IsPlain X → FormLasts us vs X → IsFormCoefficientCause fail X → IsGrownCause fail (derivatives_by us vs X)
  carried_coefficient (Past Coefficient) vs X p l c = (steps us vs c.0, (grows_steps us vs X c.0 p l).wide c.1)
  carried_coefficient (Past Exponent) vs X p l c = lasting_low us vs (c.0).unknown (at X c.0) (l.each c.0) c.1
  carried_coefficient (Past Terms) vs X p l c = (steps us vs c.0, (grows_steps us vs X c.0 p l).many c.1)
  carried_coefficient (Past Order) vs X p l c = absurd c.1
  carried_coefficient (Past Unknowns) vs X p l c = absurd c.1
  carried_coefficient (Past Width) vs X p l c = absurd c.1
  carried_coefficient NoMemory vs X p l c = tt

  pub carried_high : (vs : List ℕ) (X : LinearForm) → IsPlain X → FormLasts us vs X → HasHighDerivative X → HasHighDerivative (derivatives_by us vs X)
  carried_high vs X p l c = (steps us vs c.0, (grows_steps us vs X c.0 p l).some c.1, (let o = order_steps us vs c.0 in let h : 64 < order (c.0).counts = c.2 in omega arith))

  -- a derivative of the greatest order that is derived once more
  rises_at : (v : ℕ) (vs : List ℕ) (B : LinearForm) → IsPlain B → FormLasts us (v ∷ vs) B → (d : Derivative) → ¬ (at B d ≡ 0ᴾ) → 64 ≤ order d.counts → depends us d.unknown v ≡ true → HasHighDerivative (derivative us v B)
  rises_at v vs B p l d n o e = (step us v d, (grows_step us v vs B d p l).some n, subst (λ (k : Derivative). 64 < order k.counts) (ap (λ t. Rattle.std.specs.Prelude.cond t (raised v d) d) (sym e)) (let r = order_raise v d.counts in omega arith))

  pub plain_sizes : (es : List Entry) → IsPlain (form_of (entry_absolutes es))
  plain_sizes [] = form_none
  plain_sizes (e ∷ es) = form_sum (form_term e.0 (absolute e.1)) (form_of (entry_absolutes es)) (form_term e.0 (absolute e.1)) (form_of (entry_absolutes es)) (one e.0 e.1) (plain_sizes es)
    where
      one : (d : Derivative) (a : WholePolynomial) → IsPlain (form_term d (absolute a))
      one d a = form_plain (form_term d a) (form_term d (absolute a)) (form_one d a (absolute a) (absolute_bound a))

  each_rises : (v : ℕ) (vs : List ℕ) (B : LinearForm) → IsPlain B → FormLasts us (v ∷ vs) B → (es : List Entry) → Every (λ (e : Entry). ¬ (e.1 ≡ 0ᴾ)) es → IsFormBound (form_of (entry_absolutes es)) B → Every (λ (e : Entry). RisesHigh us v e → HasHighDerivative (derivative us v B)) es
  each_rises v vs B p l [] n h = tt
  each_rises v vs B p l (e ∷ es) n h = (
    λ r. rises_at v vs B p l e.0 (occurs_in_bound (form_term e.0 e.1) B e.0 inside (λ z. n.0 (sym (at_term e.0 e.1) ∙ z))) r.0 r.1,
    each_rises v vs B p l es n.1 (form_trans (form_of (entry_absolutes es)) (form_of (entry_absolutes (e ∷ es))) B (form_second (form_term e.0 (absolute e.1)) (form_of (entry_absolutes es)) (form_plain _ _ one) (plain_sizes es)) h),
  )
    where
      one : IsFormBound (form_term e.0 e.1) (form_term e.0 (absolute e.1))
      one = form_one e.0 e.1 (absolute e.1) (absolute_bound e.1)

      inside : IsFormBound (form_term e.0 e.1) B
      inside = form_trans (form_term e.0 e.1) (form_of (entry_absolutes (e ∷ es))) B (form_trans (form_term e.0 e.1) (form_term e.0 (absolute e.1)) (form_of (entry_absolutes (e ∷ es))) one (form_first (form_term e.0 (absolute e.1)) (form_of (entry_absolutes es)) (form_plain _ _ one) (plain_sizes es))) h

  pub rises_cause : (v : ℕ) (vs : List ℕ) (B : LinearForm) → IsPlain B → FormLasts us (v ∷ vs) B → (es : List Entry) → Every (λ (e : Entry). ¬ (e.1 ≡ 0ᴾ)) es → IsFormBound (form_of (entry_absolutes es)) B → Any (RisesHigh us v) es → HasHighDerivative (derivative us v B)
  rises_cause v vs B p l es n h a = any_every (RisesHigh us v) (HasHighDerivative (derivative us v B)) es a (each_rises v vs B p l es n h)

-- ---- through multiples
pub at_times : (a : WholePolynomial) (X : LinearForm) (d : Derivative) → at (times_form a X) d ≡ a *ᴾ at X d
at_times a X d = at_each (λ b. a *ᴾ b) (times_nil polynomial_ring a) (*ᴾ-dist a) X d

module _ (a : WholePolynomial) (n : ¬ (a ≡ 0ᴾ)) (h : IsNonNegative a) (X : LinearForm) (p : IsPlain X) where
  grows_at : (d : Derivative) → GrowsTo (at X d) (at (times_form a X) d)
  grows_at d = subst (GrowsTo (at X d)) (sym (at_times a X d)) (grows_times a (at X d) n h (p.each d).plain)

  pub multiple_grown : (fail : PolyFail) → IsGrownCause fail X → IsGrownCause fail (times_form a X)
  multiple_grown (Past Coefficient) c = (c.0, (grows_at c.0).wide c.1)
  multiple_grown (Past Exponent) c = c
  multiple_grown (Past Terms) c = (c.0, (grows_at c.0).many c.1)
  multiple_grown (Past Order) c = (c.0, (grows_at c.0).some c.1, c.2)
  multiple_grown (Past Unknowns) c = c
  multiple_grown (Past Width) c = c
  multiple_grown NoMemory c = tt
