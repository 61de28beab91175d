-- The steps of the recursion of the symbolic coefficients: multiple by multiple, and from the jet derived once less to the jet.
use Rattle.std.specs.Prelude.{◌≡◌, ℕ, suc, ◌+◌, ◌<◌, ◌≤◌, List, [], ◌∷◌, length, take, ℤ, pos, negsuc, unsigned_abs}
use Rattle.std.specs.List.{AllByRecursion as Every}
use Rattle.std.proofs.Common.{refl, sym, ap, ap₂, subst, ◌∙◌, arith}
use Rattle.lie_math.specs.Canonical.{idr}
use Rattle.lie_math.specs.Counts.{Derivative}
use Rattle.lie_math.specs.Derivation.{numbers_below}
use Rattle.lie_math.specs.FiniteSum as finite
use Rattle.lie_math.specs.FiniteSumLaws as finite_laws
use Rattle.lie_math.specs.FiniteSumLaws.{plus_idl, plus_assoc, plus_comm, value-none}
use Rattle.lie_math.specs.Limits.{absolute}
use Rattle.lie_math.specs.LinearForm.{forms, LinearForm, no_form, ◌+ᶠ◌, form_term, each_coefficient, times_form}
use Rattle.lie_math.specs.Monomial.{unit}
use Rattle.lie_math.specs.Polynomial.{WholePolynomial, terms, constant, ◌+ᴾ◌}
use Rattle.lie_jet.proofs.Absolutes.{one_within}
use Rattle.lie_geometry.specs.Coordinates.{Space}
use Rattle.lie_geometry.specs.Prolongation.{indices}
use Rattle.lie_geometry.specs.SymbolicProlongation.{forms_over, unknown, symbolic_total, symbolic_coefficient, symbolic_coefficient_at}
use Rattle.lie_ring.specs.Causes.{IsCause}
use Rattle.lie_ring.specs.declared.failures.PolyFail.{PolyFail}
use Rattle.lie_systems.specs.Bulk.{IsFormWithinLimits}
use Rattle.lie_systems.specs.Triples.{triples, triples_in}
use Rattle.lie_form.specs.FormLimits.{IsFormCoefficientCause}
use Rattle.lie_jet.specs.Jets.{coordinate_of, IsSmall}
use Rattle.lie_jet.specs.declared.jet.Jet.{Jet}
use Rattle.lie_form.proofs.FormBounds.{at, IsFormBound, IsPlain, cause_bound, form_trans, form_plain, form_sum, form_first, over_bound, fewer_bound, form_absolute_bound}
use Rattle.lie_jet.proofs.PolynomialBounds.{absolute_none}
use Rattle.lie_form.proofs.FormCauses.{IsLowEntry, within_limits}
use Rattle.lie_form.proofs.FormSteps.{at_term, form_total_bound}
use Rattle.lie_jet.proofs.TotalBounds.{absolute_term}
use Rattle.lie_jet.specs.Lowered.{IsLowered}
use Rattle.lie_symbolic.specs.SymbolicBulks.{symbolic_multiple, symbolic_multiples, symbolic_coefficient_bulk, symbolic_bulk_at}
use Rattle.lie_jet.proofs.LoweredJets.{counts_of_jet}
use Rattle.lie_symbolic.proofs.SymbolicMultiples.{times_over, multiple_bound, component_at}

-- ---- the multiples, one by one
module _ (S : Space) (k a : ℕ) (J : List ℕ) (s : ℤ) where
  abbrev pub signed : ℕ → LinearForm
  signed i = times_form (constant s) (symbolic_multiple S k a J i)

  pub none_put : (T E : LinearForm) → E ≡ T → E ≡ T +ᶠ forms_over (numbers_below 0) signed
  none_put T E e = e ∙ sym (idr (finite_laws.adder forms) T)

  pub more_put : (T E G : LinearForm) (b : ℕ) → E ≡ T +ᶠ forms_over (numbers_below b) signed → G ≡ E +ᶠ signed b → G ≡ T +ᶠ forms_over (numbers_below (b + 1)) signed
  more_put T E G b e g =
      g ∙ ap (λ K. K +ᶠ signed b) e ∙ plus_assoc forms T (forms_over (numbers_below b) signed) (signed b)
      ∙ ap (λ K. T +ᶠ K) (plus_comm forms (forms_over (numbers_below b) signed) (signed b) ∙ ap (λ n. forms_over (numbers_below n) signed) (next b))
    where
      next : (b : ℕ) → suc b ≡ b + 1
      next b = omega arith

  pub all_put : (T E : LinearForm) (n : ℕ) → E ≡ T +ᶠ forms_over (numbers_below n) signed → n ≡ S.p → E ≡ T +ᶠ times_form (constant s) (symbolic_multiples S k a J)
  all_put T E n e h = e ∙ ap (λ K. T +ᶠ K) (ap (λ m. forms_over (numbers_below m) signed) h ∙ sym (times_over (constant s) (numbers_below S.p) (symbolic_multiple S k a J)))

  module _ (small : IsSmall S) (inside : k < S.p) (B : LinearForm) where
    plain : (i : ℕ) → IsPlain (symbolic_multiple S k a J i)
    plain i = form_plain _ _ (multiple_bound S k a J i small inside (pos 1) refl)

    all_plain : (n : ℕ) → IsPlain (forms_over (numbers_below n) (symbolic_multiple S k a J))
    all_plain n = over_bound _ _ (numbers_below n) plain

    total_plain : IsPlain (symbolic_total S k (each_coefficient absolute B))
    total_plain = form_plain _ _ (form_total_bound S small k inside B)

    pub totals_cause : (fail : PolyFail) → IsFormCoefficientCause fail (symbolic_total S k (each_coefficient absolute B)) → IsFormCoefficientCause fail (symbolic_total S k (each_coefficient absolute B) +ᶠ symbolic_multiples S k a J)
    totals_cause fail cause = cause_bound fail _ _ (form_first _ _ total_plain (all_plain S.p)) cause

    abbrev T : LinearForm
    T = symbolic_total S k (each_coefficient absolute B)

    abbrev M : ℕ → LinearForm
    M n = forms_over (numbers_below n) (symbolic_multiple S k a J)

    front : unsigned_abs s ≡ 1 → (E : LinearForm) (b : ℕ) → E ≡ symbolic_total S k B +ᶠ forms_over (numbers_below b) signed → IsFormBound (each_coefficient absolute E) (T +ᶠ M b)
    front unit E b e = form_absolute_bound E _ (subst (λ K. IsFormBound K (T +ᶠ M b)) (sym e) (form_sum _ _ _ _ (form_total_bound S small k inside B) (over_bound signed (symbolic_multiple S k a J) (numbers_below b) (λ i. multiple_bound S k a J i small inside s unit))))

    wider : (b : ℕ) → suc b ≤ S.p → IsFormBound ((T +ᶠ M b) +ᶠ symbolic_multiple S k a J b) (T +ᶠ symbolic_multiples S k a J)
    wider b less =
        subst (λ K. IsFormBound K (T +ᶠ symbolic_multiples S k a J)) (sym (plus_assoc forms T (M b) (symbolic_multiple S k a J b) ∙ ap (λ K. T +ᶠ K) (plus_comm forms (M b) (symbolic_multiple S k a J b))))
        (form_sum _ _ _ _ total_plain (fewer_bound (symbolic_multiple S k a J) plain (suc b) S.p less))

    pub put_multiple_cause : (fail : PolyFail) → unsigned_abs s ≡ 1 → (E : LinearForm) (b : ℕ) → b < S.p → E ≡ symbolic_total S k B +ᶠ forms_over (numbers_below b) signed → IsFormCoefficientCause fail (each_coefficient absolute E +ᶠ symbolic_multiple S k a J b) → IsFormCoefficientCause fail (symbolic_total S k (each_coefficient absolute B) +ᶠ symbolic_multiples S k a J)
    put_multiple_cause fail unit E b h e cause = cause_bound fail _ _ (form_trans _ _ _ (form_sum _ _ _ _ (front unit E b e) (plain b)) (wider b (omega arith))) cause

-- ---- from the jet derived once less to the jet
module _ (S : Space) (j l : Jet) (k : ℕ) (low : IsLowered S j k l) where
  pub symbolic_stepped : symbolic_total S k (symbolic_coefficient_at S (coordinate_of S l)) +ᶠ times_form (constant (negsuc 0)) (symbolic_multiples S k l.dep (take S.p l.counts)) ≡ symbolic_coefficient_at S (coordinate_of S j)
  unfolding symbolic_coefficient
  symbolic_stepped =
      ap (λ K. symbolic_total S k (symbolic_coefficient_at S (coordinate_of S l)) +ᶠ times_form (constant (negsuc 0)) (symbolic_multiples S k l.dep K)) (sym (counts_of_jet S l low.jet))
      ∙ ap₂ (λ a W. symbolic_coefficient S a W) low.dependent (sym low.first)

  pub symbolic_bulk_stepped : symbolic_total S k (each_coefficient absolute (symbolic_coefficient_at S (coordinate_of S l))) +ᶠ symbolic_multiples S k l.dep (take S.p l.counts) ≡ symbolic_bulk_at S (coordinate_of S j)
  symbolic_bulk_stepped =
      ap (λ K. symbolic_total S k (each_coefficient absolute (symbolic_coefficient_at S (coordinate_of S l))) +ᶠ symbolic_multiples S k l.dep K) (sym (counts_of_jet S l low.jet))
      ∙ ap₂ (λ a W. symbolic_coefficient_bulk S a W) low.dependent (sym low.first)

module _ (S : Space) (j : Jet) (none : indices (take S.p j.counts) ≡ []) where
  pub symbolic_first : unknown (S.p + j.dep) ≡ symbolic_coefficient_at S (coordinate_of S j)
  unfolding symbolic_coefficient
  symbolic_first = ap (λ W. symbolic_coefficient S j.dep W) (sym none)

-- ---- a component
module _ (v : ℕ) where
  pub unknown_put : (E G : LinearForm) (d : Derivative) (z : ℤ) (p : WholePolynomial) → E ≡ no_form → d ≡ component_at v → z ≡ pos 1 → p ≡ constant z → G ≡ E +ᶠ form_term d p → G ≡ unknown v
  unknown_put E G d z p e h y q g = g ∙ ap₂ (λ K F. K +ᶠ F) e (ap₂ (λ j u. form_term j u) h (q ∙ ap constant y)) ∙ plus_idl forms (unknown v)

  pub unknown_cause : (fail : PolyFail) (E : LinearForm) (d : Derivative) (z : ℤ) (p : WholePolynomial) → E ≡ no_form → z ≡ pos 1 → p ≡ constant z → IsCause fail (absolute (at E d) +ᴾ absolute p) → IsFormCoefficientCause fail (unknown v)
  unknown_cause fail E d z p e y q cause = (
    component_at v,
    subst (IsCause fail) (sym (at_term (component_at v) (constant (pos 1))))
        (subst (IsCause fail) (ap₂ ◌+ᴾ◌ (ap absolute (ap (λ K. at K d) e ∙ value-none forms d) ∙ absolute_none) (ap absolute (q ∙ ap constant y) ∙ absolute_term unit (pos 1) refl) ∙ plus_idl terms (constant (pos 1))) cause),
  )

  unknown_listed : (unknown v).list ≡ (component_at v, constant (pos 1)) ∷ []
  unfolding finite.term finite.of
  unknown_listed = refl

  one_triple : length (triples_in ((component_at v, constant (pos 1)) ∷ [])) ≡ 1
  unfolding finite.term finite.of
  one_triple = refl

  pub unknown_within : IsFormWithinLimits (unknown v)
  unknown_within =
      within_limits (unknown v) (subst (Every IsLowEntry) (sym unknown_listed) ((one_within, let o : 0 ≤ 64 = omega arith in o), tt))
      (let e : length (triples (unknown v)) ≡ 1 = ap (λ es. length (triples_in es)) unknown_listed ∙ one_triple in omega arith)
