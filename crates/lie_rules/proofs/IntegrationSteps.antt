-- What is put in by the rule for a derivative by one variable: the integral over the least number that makes it whole, and its limits.
use Rattle.std.specs.Prelude.{◌≡◌, ◌⊎◌, ℕ, true, false, ◌<◌, ◌≤◌, suc, List, [], ◌∷◌, map, length, ℤ, pos, unsigned_abs}
use Rattle.std.proofs.Common.{refl, sym, ap, ap₂, subst, ◌∙◌, arith}
use Rattle.std.specs.List.{AllByRecursion as Every, Contains}
use Rattle.lie_math.specs.Counts.{Derivative}
use Rattle.lie_math.specs.LinearForm.{LinearForm, forms, no_form, ◌+ᶠ◌, each_coefficient}
use Rattle.lie_math.specs.FiniteSum as finite
use Rattle.lie_math.specs.FiniteSumLaws as finite_laws
use Rattle.lie_math.specs.LinearSystem.{LinearSystem, Unknown}
use Rattle.lie_math.specs.Limits.{absolute, number_limit}
use Rattle.lie_math.specs.Polynomial.{WholePolynomial, 0ᴾ}
use Rattle.lie_math.proofs.ContainedElements.{contains_first, contains_later}
use Rattle.lie_math.proofs.EveryElement.{every-map, every_contained}
use Rattle.lie_systems.specs.Bulk.{IsFormWithinLimits}
use Rattle.lie_systems.specs.Triples.{triples}
use Rattle.lie_systems.specs.ValidSystems.{IsValid}
use Rattle.lie_systems.specs.Works.{AForm, ANumber, IsWorkWithin}
use Rattle.lie_ring.specs.declared.failures.PastKind.TheVariants.{Coefficient}
use Rattle.lie_ring.specs.declared.failures.PolyFail.{PolyFail}
use Rattle.lie_ring.specs.declared.failures.PolyFail.TheVariants.{Past}
use Rattle.lie_jet.specs.Derivatives.{derivative_of}
use Rattle.lie_jet.specs.declared.derivative.Der.{Der}
use Rattle.lie_lin.specs.declared.system.Unknown.{Unknown as Kept}
use Rattle.lie_lin.specs.Forms.{coefficients_of}
use Rattle.lie_lin.specs.Systems.{unknown_of}
use Rattle.lie_form.specs.FormLimits.{IsFormCause, IsFormCoefficientCause}
use Rattle.lie_form.proofs.FormBounds.{at as value_of, IsPlain, cause_bound, form_absolute, form_first, form_plain}
use Rattle.lie_form.proofs.FormCauses.{coefficient_cause}
use Rattle.lie_steps.specs.Absent.{Power, powers_from, fresh_sum, fresh_unknowns}
use Rattle.lie_steps.specs.Bulks.{absolute_form}
use Rattle.lie_steps.specs.Equations.{equation, mentions, IsPlace, IsGreatest, IsIndependent, rest_of}
use Rattle.lie_steps.specs.Integrate.{counts_of, integral, integral_sum, integral_unknowns, AfterIntegrate, IsIntegrable, IsIntegrableFor}
use Rattle.lie_steps.specs.Integrate.{IsIntegratedAt, IsLeastDenominator, AppliesIntegrate}
use Rattle.lie_steps.specs.Substitute.{IsSolvedFor}
use Rattle.lie_steps.proofs.DecideAlone.{equation_form}
use Rattle.lie_steps.proofs.IntegrateRule.{counts_same}
use Rattle.lie_steps.proofs.SolvedForms.{d_owned}
use Rattle.lie_steps.specs.Replacement.{eliminated_divided, fresh_made, solution_made}
use Rattle.lie_steps.specs.Rules.{Integrate}
use Rattle.lie_steps.specs.Tidying.{IsTidySystem}
use Rattle.lie_steps.proofs.Denominators.{denominator_exists}
use Rattle.lie_normal.specs.WorkCauses.{IsWorkCause}
use Rattle.lie_normal.proofs.AbsoluteForms.{absolute_form_is}
use Rattle.lie_normal.proofs.WorkSteps.{form_work}
use Rattle.lie_change.specs.Ends.{StaysValid, EliminationMakes}
use Rattle.lie_change.specs.Tried.{at, TryMakes}
use Rattle.std.proofs.lemmas.List.{length-map}
use Rattle.lie_integral.specs.Integrals.{integrated_polynomial, IsDenominator, IsWide}
use Rattle.lie_rules.specs.IntegrableForms.{IsIntegrableAs, IsIntegration, integral_with, IsIntegral, IsIntegralCause}
use Rattle.lie_rules.specs.declared.integrate.Integrable.{Integrable}
use Rattle.lie_integral.proofs.IntegralForms.{list_integral}
use Rattle.lie_integral.proofs.IntegralNumbers.{least_of}
use Rattle.lie_rules.proofs.IntegrateSteps.{sums_apart, fresh_cause, solution_cause, rest_older, integrate_occurs, integral_free}
use Rattle.lie_rules.proofs.IntegrateSteps.{kept_stays, kept_after, kept_cause, kept_within}
use Rattle.lie_rules.proofs.PlainSums.{absolute_sum}

plain_absolutes : (E : LinearForm) → IsPlain (absolute_form E)
plain_absolutes E = subst IsPlain (sym (absolute_form_is E)) (form_plain E (each_coefficient absolute E) (form_absolute E))

module _ (found : Integrable) (next : ℕ) (powers : List Power) (apart : ¬ (found.integration.number ≡ pos 0))
    (older : Every (λ (e : Derivative × WholePolynomial). (e.0).unknown < next) (found.rest).list) where
  -- ---- the number
  pub wide_cause : IsWide found.integration.number found.integration.var found.integration.times (triples found.rest)
      → IsIntegralCause (Past Coefficient) found next powers
  wide_cause wide L least = (
    ANumber L,
    contains_later (AForm (absolute_form (integral_with found next powers L))) (ANumber L ∷ [])
        (ANumber L) (contains_first (ANumber L) []),
    wide L least.positive least.clears,
  )

  module _ (D : ℤ) (h : IsDenominator found.integration.number found.integration.var found.integration.times (triples found.rest) D) where
    is_least : IsLeastDenominator found.integration.number found.integration.var found.integration.times (triples found.rest)
        (unsigned_abs D)
    is_least = least_of found.integration.number found.integration.var found.integration.times (triples found.rest) D h

    same_least : (L : ℕ) → IsLeastDenominator found.integration.number found.integration.var found.integration.times (triples found.rest) L
        → unsigned_abs D ≡ L
    same_least L l = same (unsigned_abs D) L (is_least.least L l.positive l.clears)
        (l.least (unsigned_abs D) is_least.positive is_least.clears)
      where
        same : (a b : ℕ) → a ≤ b → b ≤ a → a ≡ b
        same a b h g = omega arith

    -- ---- the form
    pub integral_apart : (d : Derivative)
        → (value_of (integral found.integration.number found.integration.var found.integration.times (unsigned_abs D) found.rest) d ≡ 0ᴾ)
        ⊎ (value_of (fresh_sum next powers) d ≡ 0ᴾ)
    integral_apart =
        sums_apart (integral found.integration.number found.integration.var found.integration.times (unsigned_abs D) found.rest) next powers
        (subst (Every (λ (e : Derivative × WholePolynomial). (e.0).unknown < next))
        (sym (list_integral found.integration.number apart found.integration.var found.integration.times D h.positive found.rest
        is_least.clears))
        (every-map (λ (e : Derivative × WholePolynomial). (e.0).unknown < next)
        (λ (e : Derivative × WholePolynomial).
        (e.0, integrated_polynomial found.integration.number found.integration.var found.integration.times (unsigned_abs D) e.1))
        (found.rest).list older))

    pub sum_cause : (fail : PolyFail) → IsFormCause fail (absolute_form (integral_with found next powers (unsigned_abs D)))
        → IsIntegralCause fail found next powers
    sum_cause fail cause L l =
        form_work (Contains (solution_made (integral_with found next powers L) L)) fail (absolute_form (integral_with found next powers L))
        (contains_first (AForm (absolute_form (integral_with found next powers L))) (ANumber L ∷ []))
        (subst (λ m. IsFormCause fail (absolute_form (integral_with found next powers m))) (same_least L l) cause)

    pub part_cause : (fail : PolyFail)
        → IsFormCoefficientCause fail (absolute_form
        (integral found.integration.number found.integration.var found.integration.times (unsigned_abs D) found.rest))
        → IsIntegralCause fail found next powers
    part_cause fail cause =
        sum_cause fail (coefficient_cause fail (absolute_form (integral_with found next powers (unsigned_abs D)))
        (subst (IsFormCoefficientCause fail)
        (absolute_sum (integral found.integration.number found.integration.var found.integration.times (unsigned_abs D) found.rest)
        (fresh_sum next powers) integral_apart)
        (cause_bound fail _ _ (form_first
        (absolute_form (integral found.integration.number found.integration.var found.integration.times (unsigned_abs D) found.rest))
        (absolute_form (fresh_sum next powers))
        (plain_absolutes (integral found.integration.number found.integration.var found.integration.times
        (unsigned_abs D) found.rest)) (plain_absolutes (fresh_sum next powers))) cause)))

    pub integral_is : (W : LinearForm) → W ≡ integral_with found next powers (unsigned_abs D) → IsIntegral found next powers W D
    integral_is W e = record { positive = h.positive; least = is_least; form = e }

-- ---- at a place of a system
module _ (S : LinearSystem) (i : ℕ) (found : Integrable) (h : IsIntegration S i found) where
  pub number_apart : ¬ (found.integration.number ≡ pos 0)
  number_apart = (((h.integrable).is).solved).apart

  pub some_least : (L : ℕ) × IsLeastDenominator found.integration.number found.integration.var found.integration.times
      (triples found.rest) L
  some_least = denominator_exists found.integration.number number_apart found.integration.var found.integration.times (triples found.rest)

  module _ (f : Unknown) (listed : Contains S.unknowns f) (number : f.number ≡ (found.der).unknown) where
    pub integrated_at : (L : ℕ) → IsLeastDenominator found.integration.number found.integration.var found.integration.times
        (triples found.rest) L
        → IsIntegratedAt S i f (derivative_of found.der) found.integration.number found.integration.var found.integration.times L
    integrated_at L l = record {
      place = h.place;
      listed = listed;
      number = number;
      integrable = (h.integrable).is;
      greatest = h.greatest;
      denominator = subst (λ E. IsLeastDenominator found.integration.number found.integration.var found.integration.times (triples E) L)
          (h.integrable).rest l;
    }

    -- the form is that of the rule
    pub integral_same : (powers : List Power) → powers ≡ powers_from found.integration.var 0 found.integration.times → (L : ℕ)
        → integral_with found S.next powers L ≡ integral_sum S i
        (derivative_of found.der) found.integration.number found.integration.var found.integration.times L
    integral_same powers e L = ap₂
        (λ (E : LinearForm) cs. integral found.integration.number found.integration.var found.integration.times L E +ᶠ fresh_sum S.next cs)
        (h.integrable).rest e

-- ---- the equation at a place, where its unknowns and its form are known by other names
module _ (S : LinearSystem) (i : ℕ) (us : List Unknown) (E : LinearForm) (unknowns : us ≡ S.unknowns) (form : E ≡ equation S i) where
  both : ◌≡◌ {A = List Unknown × LinearForm} (us, E) (S.unknowns, equation S i)
  both = λ j. (unknowns j, form j)

  pub no_integration : ((d : Derivative) → ¬ (IsIntegrable us E d)) → ¬ (AppliesIntegrate S i)
  no_integration n (p, d, g) = n d (subst (λ (x : List Unknown × LinearForm). IsIntegrable x.0 x.1 d) (sym both) g.holds)

  pub is_integration : IsPlace S i → (found : Integrable) → IsIntegrableAs us E found
      × IsGreatest (IsIntegrable us E) (derivative_of found.der) → IsIntegration S i found
  is_integration p found h = record {
    place = p;
    integrable = subst (λ (x : List Unknown × LinearForm). IsIntegrableAs x.0 x.1 found) both h.0;
    greatest = subst (λ (x : List Unknown × LinearForm). IsGreatest (IsIntegrable x.0 x.1) (derivative_of found.der)) both h.1;
  }

-- the unknown is listed
pub number_listed : (n : ℕ) (S : LinearSystem) (i : ℕ) (found : Integrable) → IsValid n S → IsIntegration S i found → (us : List Kept)
    → map unknown_of us ≡ S.unknowns → ¬ (Every (λ (u : Kept). ¬ (u.number ≡ (found.der).unknown)) us)
number_listed n S i found valid h us e none =
    let o = d_owned n S (equation S i) (equation_form n S valid i h.place) (derivative_of found.der) found.integration.number
    (((h.integrable).is).solved) in
    every_contained (λ (u : Unknown). ¬ (u.number ≡ (found.der).unknown)) S.unknowns o.unknown
    (subst (Every (λ (u : Unknown). ¬ (u.number ≡ (found.der).unknown))) e
    (every-map (λ (u : Unknown). ¬ (u.number ≡ (found.der).unknown)) unknown_of us none)) o.listed o.number

-- ---- what a form that cannot be integrated lacks
module _ (us : List Unknown) (E : LinearForm) (d : Derivative) where
  pub rest_empty : rest_of d E ≡ no_form → ¬ (IsIntegrable us E d)
  rest_empty e h = (h.3).some e

  -- it is by the variable v alone
  pub same_variable : (v k : ℕ) → 0 < k → d.counts ≡ counts_of v k → ¬ (IsIndependent us v (rest_of d E)) → ¬ (IsIntegrable us E d)
  same_variable v k p e n h =
      let s = counts_same h.1 v h.2 k (h.3).several p (sym (h.3).derived ∙ e) in
      n (subst (λ w. IsIndependent us w (rest_of d E)) s.0 (h.3).independent)

  pub integrable : (c : ℤ) (v k : ℕ) → 0 < k → d.counts ≡ counts_of v k → IsSolvedFor us E d c → ¬ (rest_of d E ≡ no_form)
      → IsIndependent us v (rest_of d E) → IsIntegrableFor us E d c v k
  integrable c v k p e s n i = record { several = p; derived = e; solved = s; some = n; independent = i }

-- a form without terms
pub empty_rest : (R : LinearForm) (ts : List (Der × WholePolynomial)) → coefficients_of ts ≡ R.list → length ts ≡ 0 → R ≡ no_form
unfolding finite.none finite.of
empty_rest R [] e l = finite_laws.same_list forms R no_form (sym e)
empty_rest R (t ∷ ts) e l = absurd (omega arith)

pub some_rest : (R : LinearForm) (ts : List (Der × WholePolynomial)) → coefficients_of ts ≡ R.list → ¬ (length ts ≡ 0) → ¬ (R ≡ no_form)
unfolding finite.none finite.of
some_rest R [] e l z = l refl
some_rest R (t ∷ ts) e l z = absurd
    (let h : suc (length (coefficients_of ts)) ≡ 0 = ap length e ∙ ap (λ (G : LinearForm). length G.list) z in omega arith)

-- ---- the step, with what is made for it as it is kept
module _ (n : ℕ) (S : LinearSystem) (valid : IsValid n S) (i : ℕ) (found : Integrable) (h : IsIntegration S i found) (f : Unknown)
    (listed : Contains S.unknowns f) (number : f.number ≡ (found.der).unknown)
    (m : ℕ) (cs : List Power) (next : m ≡ S.next) (powers : cs ≡ powers_from found.integration.var 0 found.integration.times) where
  fresh_same : fresh_unknowns m f cs ≡ integral_unknowns S f found.integration.var found.integration.times
  fresh_same = ap₂ (λ j ds. fresh_unknowns j f ds) next powers

  with_same : (L : ℕ) → integral_with found m cs L ≡ integral_sum S i
      (derivative_of found.der) found.integration.number found.integration.var found.integration.times L
  with_same L = ap (λ j. integral_with found j cs L) next ∙ integral_same S i found h f listed number cs powers L

  some : (L : ℕ) × IsLeastDenominator found.integration.number found.integration.var found.integration.times (triples found.rest) L
  some = some_least S i found h

  pub fresh_error : (fail : PolyFail) → IsWorkCause fail (Contains (fresh_made (fresh_unknowns m f cs)))
      → IsWorkCause fail (TryMakes Integrate S (at i))
  fresh_error fail cause =
      fresh_cause n S valid i f (derivative_of found.der) found.integration.number found.integration.var found.integration.times some.0
      (integrated_at S i found h f listed number some.0 some.1) fail
      (subst (λ us. IsWorkCause fail (Contains (fresh_made us))) fresh_same cause)

  pub older : Every (λ (e : Derivative × WholePolynomial). (e.0).unknown < m) (found.rest).list
  older =
      subst (λ (E : LinearForm). Every (λ (e : Derivative × WholePolynomial). (e.0).unknown < m) E.list) (sym (h.integrable).rest)
      (subst (λ j. Every (λ (e : Derivative × WholePolynomial). (e.0).unknown < j) (rest_of (derivative_of found.der) (equation S i)).list)
      (sym next)
      (rest_older n S valid i f (derivative_of found.der) found.integration.number found.integration.var found.integration.times some.0
      (integrated_at S i found h f listed number some.0 some.1)))

  pub solution_error : (fail : PolyFail) → IsIntegralCause fail found m cs → IsWorkCause fail (TryMakes Integrate S (at i))
  solution_error fail cause =
      solution_cause n S valid i f (derivative_of found.der) found.integration.number found.integration.var found.integration.times some.0
      (integrated_at S i found h f listed number some.0 some.1) fail
      (subst (λ (W : LinearForm). IsWorkCause fail (Contains (solution_made W some.0))) (with_same some.0) (cause some.0 some.1))

  pub own : mentions f.number (equation S i) ≡ true
  own = integrate_occurs n S valid i f
      (derivative_of found.der) found.integration.number found.integration.var found.integration.times some.0
      (integrated_at S i found h f listed number some.0 some.1)

  module _ (W : LinearForm) (D : ℤ) (F : List Unknown) (s : IsIntegral found m cs W D) (fresh : F ≡ fresh_unknowns m f cs) where
    is : IsIntegratedAt S i f (derivative_of found.der) found.integration.number found.integration.var found.integration.times
        (unsigned_abs D)
    is = integrated_at S i found h f listed number (unsigned_abs D) s.least

    form : W ≡ integral_sum S i (derivative_of found.der) found.integration.number found.integration.var found.integration.times
        (unsigned_abs D)
    form = s.form ∙ with_same (unsigned_abs D)

    pub form_free : mentions f.number W ≡ false
    form_free =
        ap (mentions f.number) form
        ∙ integral_free n S valid i f (derivative_of found.der) found.integration.number found.integration.var found.integration.times
        (unsigned_abs D) is (number_apart S i found h) (s.positive).1

    pub stays : StaysValid n (eliminated_divided S i f.number W (unsigned_abs D) F)
    stays = kept_stays n S valid i f (derivative_of found.der) found.integration.number found.integration.var found.integration.times
        (unsigned_abs D) is W D F form (s.positive).0 (fresh ∙ fresh_same)

    pub after : (T : LinearSystem) → IsTidySystem (eliminated_divided S i f.number W (unsigned_abs D) F) T → AfterIntegrate S i T
    after = kept_after n S valid i f (derivative_of found.der) found.integration.number found.integration.var found.integration.times
        (unsigned_abs D) is W D F form (s.positive).0 (fresh ∙ fresh_same)

    pub elimination_error : (fail : PolyFail)
        → IsWorkCause fail (EliminationMakes S i f.number W (unsigned_abs D) F (eliminated_divided S i f.number W (unsigned_abs D) F))
        → IsWorkCause fail (TryMakes Integrate S (at i))
    elimination_error = kept_cause n S valid i f
        (derivative_of found.der) found.integration.number found.integration.var found.integration.times (unsigned_abs D) is W D F form
        (s.positive).0 (fresh ∙ fresh_same)

    pub within : IsWorkWithin (Contains (fresh_made (fresh_unknowns m f cs))) → IsFormWithinLimits (absolute_form W)
        → unsigned_abs D < number_limit
        → IsWorkWithin (EliminationMakes S i f.number W (unsigned_abs D) F (eliminated_divided S i f.number W (unsigned_abs D) F))
        → IsWorkWithin (TryMakes Integrate S (at i))
    within new = kept_within n S valid i f (derivative_of found.der) found.integration.number found.integration.var found.integration.times
        (unsigned_abs D) is W D F form (s.positive).0 (fresh ∙ fresh_same)
        (subst (λ us. IsWorkWithin (Contains (fresh_made us))) fresh_same new)

-- as many unknowns as powers
pub fresh_length : (m : ℕ) (f : Unknown) (cs : List Power) (us : List Kept) → map unknown_of us ≡ fresh_unknowns m f cs
    → length us ≡ length cs
fresh_length m f cs us e = sym (length-map us unknown_of) ∙ ap length e ∙ go m cs
  where
    go : (m : ℕ) (cs : List Power) → length (fresh_unknowns m f cs) ≡ length cs
    go m [] = refl
    go m (c ∷ cs) = ap suc (go (suc m) cs)
