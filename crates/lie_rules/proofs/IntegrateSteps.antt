-- The step of the rule for an equation solved for a derivative by one variable.
use Rattle.std.specs.Prelude.{◌≡◌, ◌⊎◌, ℕ, suc, ◌<◌, ◌≤◌, Bool, true, false, cond, ltb, List, [], ◌∷◌, ◌++◌, ℤ, pos, unsigned_abs}
use Rattle.std.proofs.Common.{refl, sym, ap, ap₂, subst, ◌∙◌, arith, inl, inr, true≢false, append_assoc}
use Rattle.std.specs.List.{AllByRecursion as Every, Contains}
use Rattle.std.specs.Ordering.{eq_by_cmp}
use Rattle.lie_math.specs.Counts.{Derivative, derivative_cmp}
use Rattle.lie_math.specs.FiniteSum as finite
use Rattle.lie_math.specs.FiniteSumLaws as finite_laws
use Rattle.lie_math.specs.FiniteSumLaws.{value-none, value-plus, value-term, plus_idl}
use Rattle.lie_math.specs.LinearForm.{LinearForm, forms, form_term}
use Rattle.lie_math.specs.LinearSystem.{LinearSystem, Unknown}
use Rattle.lie_math.specs.Limits.{number_limit}
use Rattle.lie_math.specs.Monomial.{power_of}
use Rattle.lie_math.specs.Polynomial.{WholePolynomial, terms, term, 0ᴾ, ◌+ᴾ◌}
use Rattle.lie_math.specs.Variables.{IsIn}
use Rattle.lie_math.proofs.EveryElement.{every-weaken, every_contained, every-map}
use Rattle.lie_math.proofs.FiniteSum.{key}
use Rattle.lie_systems.specs.Bulk.{IsFormWithinLimits}
use Rattle.lie_systems.specs.Triples.{triples}
use Rattle.lie_systems.specs.ValidSystems.{IsValid, IsOwned}
use Rattle.lie_systems.specs.Works.{IsWorkWithin}
use Rattle.lie_ring.specs.declared.failures.PolyFail.{PolyFail}
use Rattle.lie_form.proofs.FormBounds.{at as value_of}
use Rattle.lie_steps.specs.Absent.{Power, powers_from, fresh_sum}
use Rattle.lie_steps.specs.Bulks.{absolute_form}
use Rattle.lie_steps.specs.Equations.{equation, rest_of, mentions}
use Rattle.lie_steps.specs.Integrate.{integral, integral_sum, integral_unknowns, integrated, integrated_made, IsIntegrable, IsIntegratedAt}
use Rattle.lie_steps.specs.Integrate.{IsLeastDenominator, AfterIntegrate}
use Rattle.lie_steps.specs.Replacement.{eliminated_divided, fresh_made, solution_made, replacement_made}
use Rattle.lie_steps.specs.Rules.{Integrate}
use Rattle.lie_steps.specs.Tidying.{IsTidySystem}
use Rattle.lie_steps.proofs.DecideAlone.{equation_form}
use Rattle.lie_steps.proofs.IntegrateRule.{counts_same, integrate_keeps}
use Rattle.lie_steps.proofs.NoneApplies.{solved_occurs}
use Rattle.lie_steps.proofs.Rests.{at_derivative, coefficient_has, each-rest}
use Rattle.lie_steps.proofs.SolvedForms.{greatest_unique, same_constant}
use Rattle.lie_steps.proofs.Unknowns.{same_unknown}
use Rattle.lie_normal.specs.WorkCauses.{IsWorkCause}
use Rattle.lie_normal.proofs.WorkSteps.{all_within}
use Rattle.lie_change.specs.Ends.{StaysValid, EliminationMakes}
use Rattle.lie_change.specs.Tried.{at, TryMakes}
use Rattle.lie_integral.specs.Integrals.{integrated_polynomial}
use Rattle.lie_rules.proofs.FreshSteps.{sum_mentions}
use Rattle.lie_integral.proofs.IntegralForms.{list_integral}
use Rattle.lie_rules.proofs.OtherUnknowns.{IsOther, others_of, not_mentioned, others_plus, occurs_mentioned}
use Rattle.lie_rules.proofs.Steps.{IsStep, try_within, try_cause, later_within, later_cause, front_cause}

module _ (n : ℕ) (S : LinearSystem) (valid : IsValid n S) (i : ℕ) where
  -- ---- of the equation it is one step
  module _ (f : Unknown) (d : Derivative) (c : ℤ) (v k L : ℕ) (a : IsIntegratedAt S i f d c v k L) where
    module _ (g : Unknown) (e : Derivative) (b : ℤ) (w l M : ℕ) (x : IsIntegratedAt S i g e b w l M) where
      derivatives : e ≡ d
      derivatives = greatest_unique (IsIntegrable S.unknowns (equation S i)) e d x.greatest a.greatest

      numbers : b ≡ c
      numbers = same_constant b c (sym ((x.integrable).solved).leads ∙ ap (at_derivative (equation S i)) derivatives
          ∙ ((a.integrable).solved).leads)

      counts : (w ≡ v) × (l ≡ k)
      counts = counts_same w v l k (x.integrable).several (a.integrable).several
          (sym (x.integrable).derived ∙ ap (λ (z : Derivative). z.counts) derivatives ∙ (a.integrable).derived)

      unknowns : g ≡ f
      unknowns = same_unknown S.unknowns g f valid.rising x.listed a.listed
          (x.number ∙ ap (λ (z : Derivative). z.unknown) derivatives ∙ sym a.number)

      least : IsLeastDenominator c v k (triples (rest_of d (equation S i))) M
      least =
          subst (λ z. IsLeastDenominator c v k (triples (rest_of z (equation S i))) M) derivatives
          (subst (λ z. IsLeastDenominator c v z (triples (rest_of e (equation S i))) M) counts.1
          (subst (λ z. IsLeastDenominator c z l (triples (rest_of e (equation S i))) M) counts.0
          (subst (λ z. IsLeastDenominator z w l (triples (rest_of e (equation S i))) M) numbers x.denominator)))

      denominators : M ≡ L
      denominators = same M L (least.least L (a.denominator).positive (a.denominator).clears)
          ((a.denominator).least M least.positive least.clears)
        where
          same : (a b : ℕ) → a ≤ b → b ≤ a → a ≡ b
          same a b h g = omega arith

      same_data : ◌≡◌ {A = Unknown × Derivative × ℤ × ℕ × ℕ × ℕ} (g, e, b, w, l, M) (f, d, c, v, k, L)
      same_data = λ j. (unknowns j, derivatives j, numbers j, counts.0 j, counts.1 j, denominators j)

    -- the actions: the fresh numbers, then what is put in, and then the replacements
    parts : integrated_made S i f d c v k L ≡ fresh_made (integral_unknowns S f v k) ++
        (solution_made (integral_sum S i d c v k L) L ++ replacement_made S i f.number (integral_sum S i d c v k L) L
        (integral_unknowns S f v k))
    parts = append_assoc (fresh_made (integral_unknowns S f v k)) (solution_made (integral_sum S i d c v k L) L)
        (replacement_made S i f.number (integral_sum S i d c v k L) L (integral_unknowns S f v k))

    pub integrate_step : IsStep Integrate S (at i) (integrated S i f d c v k L)
        (fresh_made (integral_unknowns S f v k) ++
        (solution_made (integral_sum S i d c v k L) L ++ replacement_made S i f.number (integral_sum S i d c v k L) L
        (integral_unknowns S f v k)))
    integrate_step = record {
      untested = λ b t. t;
      leaves = λ T t. (f, d, c, v, k, L, a, t);
      left = λ T (g, e, b, w, l, M, x, t). subst
          (λ (y : Unknown × Derivative × ℤ × ℕ × ℕ × ℕ). IsTidySystem (integrated S i y.0 y.1 y.2 y.3 y.4 y.5) T)
          (same_data g e b w l M x) t;
      made = λ m (g, e, b, w, l, M, x, h). subst (λ bs. Contains bs m) parts
          (subst (λ (y : Unknown × Derivative × ℤ × ℕ × ℕ × ℕ). Contains (integrated_made S i y.0 y.1 y.2 y.3 y.4 y.5) m)
          (same_data g e b w l M x) h);
      makes = λ m h. (f, d, c, v, k, L, a, subst (λ bs. Contains bs m) (sym parts) h);
    }

    -- ---- what an elimination asks
    pub integrate_stays : StaysValid n (integrated S i f d c v k L)
    integrate_stays T t = (integrate_keeps n S T i valid (f, d, c, v, k, L, a, t)).0

    pub integrate_occurs : mentions f.number (equation S i) ≡ true
    integrate_occurs = subst (λ m. mentions m (equation S i) ≡ true) (sym a.number)
        (occurs_mentioned d (equation S i) (solved_occurs S.unknowns (equation S i) d c (a.integrable).solved))

    -- ---- limits
    pub fresh_cause : (fail : PolyFail) → IsWorkCause fail (Contains (fresh_made (integral_unknowns S f v k)))
        → IsWorkCause fail (TryMakes Integrate S (at i))
    fresh_cause fail h =
        try_cause Integrate S (at i) (integrated S i f d c v k L) _ integrate_step fail
        (front_cause (integrated S i f d c v k L) (fresh_made (integral_unknowns S f v k))
        (solution_made (integral_sum S i d c v k L) L ++ replacement_made S i f.number (integral_sum S i d c v k L) L
        (integral_unknowns S f v k)) fail h)

    pub solution_cause : (fail : PolyFail) → IsWorkCause fail (Contains (solution_made (integral_sum S i d c v k L) L))
        → IsWorkCause fail (TryMakes Integrate S (at i))
    solution_cause fail h =
        try_cause Integrate S (at i) (integrated S i f d c v k L) _ integrate_step fail
        (later_cause (integrated S i f d c v k L) (fresh_made (integral_unknowns S f v k))
        (solution_made (integral_sum S i d c v k L) L ++ replacement_made S i f.number (integral_sum S i d c v k L) L
        (integral_unknowns S f v k)) fail
        (front_cause (integrated S i f d c v k L) (solution_made (integral_sum S i d c v k L) L)
        (replacement_made S i f.number (integral_sum S i d c v k L) L (integral_unknowns S f v k)) fail h))

    pub elimination_cause : (fail : PolyFail)
        → IsWorkCause fail (EliminationMakes S i f.number (integral_sum S i d c v k L) L (integral_unknowns S f v k)
        (integrated S i f d c v k L)) → IsWorkCause fail (TryMakes Integrate S (at i))
    elimination_cause fail h =
        try_cause Integrate S (at i) (integrated S i f d c v k L) _ integrate_step fail
        (later_cause (integrated S i f d c v k L) (fresh_made (integral_unknowns S f v k))
        (solution_made (integral_sum S i d c v k L) L ++ replacement_made S i f.number (integral_sum S i d c v k L) L
        (integral_unknowns S f v k)) fail
        (later_cause (integrated S i f d c v k L) (solution_made (integral_sum S i d c v k L) L)
        (replacement_made S i f.number (integral_sum S i d c v k L) L (integral_unknowns S f v k)) fail h))

    pub integration_within : IsWorkWithin (Contains (fresh_made (integral_unknowns S f v k)))
        → IsFormWithinLimits (absolute_form (integral_sum S i d c v k L)) → L < number_limit
        → IsWorkWithin (EliminationMakes S i f.number (integral_sum S i d c v k L) L (integral_unknowns S f v k)
        (integrated S i f d c v k L)) → IsWorkWithin (TryMakes Integrate S (at i))
    integration_within new h l w =
        try_within Integrate S (at i) (integrated S i f d c v k L) _ integrate_step
        (later_within (integrated S i f d c v k L) (fresh_made (integral_unknowns S f v k))
        (solution_made (integral_sum S i d c v k L) L ++ replacement_made S i f.number (integral_sum S i d c v k L) L
        (integral_unknowns S f v k)) new
        (later_within (integrated S i f d c v k L) (solution_made (integral_sum S i d c v k L) L)
        (replacement_made S i f.number (integral_sum S i d c v k L) L (integral_unknowns S f v k))
        (all_within (solution_made (integral_sum S i d c v k L) L) (h, (l, tt))) w))

    -- ---- the unknowns of the rest are older than the fresh ones
    pub rest_older : Every (λ (e : Derivative × WholePolynomial). (e.0).unknown < S.next) (rest_of d (equation S i)).list
    rest_older = every-weaken (λ (e : Derivative × WholePolynomial). (IsOwned S.unknowns e.0 × IsIn (λ w. ltb w n) e.1) × ¬ (e.0 ≡ d)) _
        (λ e h. subst (λ m. m < S.next) ((h.0).0).number
        (every_contained (λ (u : Unknown). u.number < S.next) S.unknowns ((h.0).0).unknown valid.below ((h.0).0).listed))
        (rest_of d (equation S i)).list
        (each-rest (λ (e : Derivative × WholePolynomial). IsOwned S.unknowns e.0 × IsIn (λ w. ltb w n) e.1) d (equation S i)
        (equation_form n S valid i a.place))

    pub number_older : f.number < S.next
    number_older = every_contained (λ (u : Unknown). u.number < S.next) S.unknowns f valid.below a.listed

    -- ---- the form, the number and the fresh unknowns as they are kept
    module _ (W : LinearForm) (D : ℤ) (F : List Unknown) (form : W ≡ integral_sum S i d c v k L) (divisor : D ≡ pos L)
        (fresh : F ≡ integral_unknowns S f v k) where
      same : ◌≡◌ {A = LinearForm × ℕ × List Unknown} (W, unsigned_abs D, F) (integral_sum S i d c v k L, L, integral_unknowns S f v k)
      same = λ j. (form j, ap unsigned_abs divisor j, fresh j)

      pub kept_stays : StaysValid n (eliminated_divided S i f.number W (unsigned_abs D) F)
      kept_stays = subst (λ (x : LinearForm × ℕ × List Unknown). StaysValid n (eliminated_divided S i f.number x.0 x.1 x.2))
          (sym same) integrate_stays

      pub kept_after : (T : LinearSystem) → IsTidySystem (eliminated_divided S i f.number W (unsigned_abs D) F) T → AfterIntegrate S i T
      kept_after T t = (
        f,
        d,
        c,
        v,
        k,
        L,
        a,
        subst
            (λ (x : LinearForm × ℕ × List Unknown). IsTidySystem (eliminated_divided S i f.number x.0 x.1 x.2) T) same t,
      )

      pub kept_cause : (fail : PolyFail)
          → IsWorkCause fail (EliminationMakes S i f.number W (unsigned_abs D) F (eliminated_divided S i f.number W (unsigned_abs D) F))
          → IsWorkCause fail (TryMakes Integrate S (at i))
      kept_cause fail h = elimination_cause fail
          (subst (λ (x : LinearForm × ℕ × List Unknown). IsWorkCause fail
          (EliminationMakes S i f.number x.0 x.1 x.2 (eliminated_divided S i f.number x.0 x.1 x.2))) same h)

      pub kept_within : IsWorkWithin (Contains (fresh_made (integral_unknowns S f v k))) → IsFormWithinLimits (absolute_form W)
          → unsigned_abs D < number_limit
          → IsWorkWithin (EliminationMakes S i f.number W (unsigned_abs D) F (eliminated_divided S i f.number W (unsigned_abs D) F))
          → IsWorkWithin (TryMakes Integrate S (at i))
      kept_within new h l w =
          integration_within new (subst (λ (V : LinearForm). IsFormWithinLimits (absolute_form V)) form h)
          (subst (λ m. m < number_limit) (ap unsigned_abs divisor) l)
          (subst (λ (x : LinearForm × ℕ × List Unknown). IsWorkWithin
          (EliminationMakes S i f.number x.0 x.1 x.2 (eliminated_divided S i f.number x.0 x.1 x.2))) same w)

    -- ---- the form has the unknown no more
    module _ (apart : ¬ (c ≡ pos 0)) (L_positive : 0 < L) where
      integral_others : Every (IsOther f.number) (integral c v k L (rest_of d (equation S i))).list
      integral_others =
          subst (Every (IsOther f.number))
          (sym (list_integral c apart v k (pos L) (refl, L_positive) (rest_of d (equation S i)) (a.denominator).clears))
          (every-map (IsOther f.number) (λ (e : Derivative × WholePolynomial). (e.0, integrated_polynomial c v k L e.1))
          (rest_of d (equation S i)).list
          (subst (λ m. Every (IsOther m) (rest_of d (equation S i)).list) (sym a.number)
          (others_of d.unknown (rest_of d (equation S i)) ((a.integrable).solved).alone)))

      pub integral_free : mentions f.number (integral_sum S i d c v k L) ≡ false
      integral_free =
          not_mentioned f.number (integral_sum S i d c v k L)
          (others_plus f.number (integral c v k L (rest_of d (equation S i))) (fresh_sum S.next (powers_from v 0 k)) integral_others
          (others_of f.number (fresh_sum S.next (powers_from v 0 k)) (sum_mentions f.number S.next (powers_from v 0 k) number_older)))

-- ---- the sum of powers has no older unknown
pub sum_newer : (m n : ℕ) (cs : List Power) → m < n → (d : Derivative) → d.unknown ≡ m → value_of (fresh_sum n cs) d ≡ 0ᴾ
sum_newer m n [] h d u = value-none forms d
sum_newer m n (c ∷ cs) h d u =
    value-plus forms (form_term (record { unknown = n; counts = [] }) (term (power_of c.0 c.1) (pos 1))) (fresh_sum (suc n) cs) d
    ∙ ap₂ ◌+ᴾ◌ (value-term forms (record { unknown = n; counts = [] }) (term (power_of c.0 c.1) (pos 1)) d
    ∙ go (eq_by_cmp derivative_cmp d (record { unknown = n; counts = [] })) refl) (sum_newer m (suc n) cs (omega arith) d u)
    ∙ plus_idl terms 0ᴾ
  where
    go : (t : Bool) → eq_by_cmp derivative_cmp d (record { unknown = n; counts = [] }) ≡ t
        → cond t (term (power_of c.0 c.1) (pos 1)) 0ᴾ ≡ 0ᴾ
    go true e = let s : d.unknown ≡ n = ap (λ (x : Derivative). x.unknown) (key forms d (record { unknown = n; counts = [] }) e) in
        absurd (omega arith)
    go false e = refl

-- a form in older unknowns has no derivative in common with it
pub sums_apart : (E : LinearForm) (n : ℕ) (cs : List Power) → Every (λ (e : Derivative × WholePolynomial). (e.0).unknown < n) E.list
    → (d : Derivative) → (value_of E d ≡ 0ᴾ) ⊎ (value_of (fresh_sum n cs) d ≡ 0ᴾ)
sums_apart E n cs h d = go (finite.is_none terms (value_of E d)) refl
  where
    go : (t : Bool) → finite.is_none terms (value_of E d) ≡ t → (value_of E d ≡ 0ᴾ) ⊎ (value_of (fresh_sum n cs) d ≡ 0ᴾ)
    go true e = inl (finite_laws.none_of_is terms (value_of E d) e)
    go false e = inr (sum_newer d.unknown n cs
        (coefficient_has (λ (x : Derivative × WholePolynomial). (x.0).unknown < n) E h d
        (λ z. true≢false (sym (ap (finite.is_none terms) z ∙ finite_laws.is_none_none terms) ∙ e))) d refl)
