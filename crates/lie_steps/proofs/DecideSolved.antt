-- Whether the rules of substitution and integration apply is decided.
use Rattle.std.specs.Prelude.{◌≡◌, ℕ, zero, suc, ◌<◌, ◌≤◌, Bool, true, false, ltb, List, [], ◌∷◌, length, get_or, drop, ℤ, pos, cond}
use Rattle.std.proofs.Common.{refl, sym, ap, subst, ◌∙◌, arith, inl, inr, true≢false, ltb-true, ltb-false}
use Rattle.std.specs.List.{AllByRecursion as Every}
use Rattle.std.specs.Ordering.{eq_by_cmp}
use Rattle.lie_math.specs.FiniteSum as finite
use Rattle.lie_math.specs.FiniteSum.{IsCanonical}
use Rattle.lie_math.specs.FiniteSumLaws.{is_none_none, none_of_is, value-term, term_additive}
use Rattle.lie_math.specs.Counts.{Derivative}
use Rattle.lie_math.specs.LinearForm.{LinearForm, forms, no_form}
use Rattle.lie_math.specs.LinearSystem.{LinearSystem}
use Rattle.lie_math.specs.Monomial.{Monomial, monomial_cmp, unit}
use Rattle.lie_math.specs.PartialDerivative.{partial}
use Rattle.lie_math.specs.Polynomial.{WholePolynomial, terms, coefficient, constant, 0ᴾ}
use Rattle.lie_math.specs.Variables.{IsIn, FreeOf}
use Rattle.lie_math.proofs.CanonicalLists.{canonical_tail}
use Rattle.lie_math.proofs.Dependence.{free_of_partial, partial_of_free}
use Rattle.lie_math.proofs.FiniteSum.{key, entries_of}
use Rattle.lie_systems.specs.Leads.{Occurs}
use Rattle.lie_systems.specs.ValidSystems.{IsOwned, IsValid, HasVariablesBelow}
use Rattle.lie_steps.specs.Equations.{equation, IsPlace, IsGreatest, rest_of, mentions, depends, Lacks}
use Rattle.lie_steps.specs.Integrate.{counts_of, IsIntegrable, AppliesIntegrate}
use Rattle.lie_steps.specs.Substitute.{IsSolvedFor, IsSubstitutable, AppliesSubstitute}
use Rattle.lie_math.proofs.EveryElement.{every_contained, every-weaken}
use Rattle.lie_steps.proofs.FreshPowers.{has_below}
use Rattle.lie_steps.proofs.IntegrateRule.{count_there, counts_same}
use Rattle.lie_steps.proofs.LowestRule.{constant_of}
use Rattle.lie_steps.proofs.NoneApplies.{solved_occurs}
use Rattle.lie_steps.proofs.Rests.{at_derivative, each-rest}
use Rattle.lie_steps.proofs.SolvedForms.{same_constant}
use Rattle.lie_steps.proofs.Unknowns.{dependent_of}
use Rattle.lie_steps.proofs.DescendingLists.{StandsIn, not_before, stands_later}
use Rattle.lie_math.proofs.Decisions.{Decided, both_decided, if_decided, not_decided, same_decided, bool_decided, every_decided, all_below_decided}
use Rattle.lie_steps.proofs.DecideAlone.{monomial_decided, equation_form}

-- ---- the greatest derivative of a kind
module _ (P : Derivative → Type 0) (tell : (d : Derivative) → Decided (P d)) where
  greatest_in : (es : List (Derivative × WholePolynomial)) → IsCanonical forms es → ((q : Derivative) → P q → StandsIn es q) → Decided ((d : Derivative) × IsGreatest P d)
  greatest_in [] c h = inr (λ g. h g.0 ((g.1).holds) refl)
  greatest_in (e ∷ es) c h = go (tell e.0) (greatest_in es (canonical_tail forms e es c))
    where
      go : Decided (P e.0) → (((q : Derivative) → P q → StandsIn es q) → Decided ((d : Derivative) × IsGreatest P d)) → Decided ((d : Derivative) × IsGreatest P d)
      go (inl p) r = inl (e.0, record { holds = p; greatest = λ q k. not_before e es c q (h q k) })
      go (inr n) r = r (λ q k. stands_later e es c q (h q k) (λ s. n (subst P s k)))

  pub greatest_decided : (E : LinearForm) → ((q : Derivative) → P q → Occurs q E) → Decided ((d : Derivative) × IsGreatest P d)
  greatest_decided E h = greatest_in E.list E.canonical h

-- ---- polynomials and forms
nothing_decided : (p : WholePolynomial) → Decided (p ≡ 0ᴾ)
nothing_decided p = go (finite.is_none terms p) refl
  where
    go : (t : Bool) → finite.is_none terms p ≡ t → Decided (p ≡ 0ᴾ)
    go true e = inl (none_of_is terms p e)
    go false e = inr (λ z. true≢false (sym (ap (finite.is_none terms) z ∙ is_none_none terms) ∙ e))

pub form_decided : (E : LinearForm) → Decided (E ≡ no_form)
form_decided E = go (finite.is_none forms E) refl
  where
    go : (t : Bool) → finite.is_none forms E ≡ t → Decided (E ≡ no_form)
    go true e = inl (none_of_is forms E e)
    go false e = inr (λ z. true≢false (sym (ap (finite.is_none forms) z ∙ is_none_none forms) ∙ e))

free_decided : (v : ℕ) (p : WholePolynomial) → Decided (FreeOf v p)
free_decided v p = same_decided (free_of_partial v p) (partial_of_free v p) (nothing_decided (partial v p))

-- a number that is not 0
number_constant : (c : ℤ) → constant c ≡ 0ᴾ → c ≡ pos 0
number_constant c z = same_constant c (pos 0) (z ∙ sym ((term_additive terms).on_nil unit))

constant_entries : (c : ℤ) → Every (λ (x : Monomial × ℤ). x.0 ≡ unit) (constant c).list
constant_entries c = entries_of terms (constant c) (λ (x : Monomial × ℤ). x.0 ≡ unit) (λ x is n. at x (λ z. n (sym is ∙ z)) (eq_by_cmp monomial_cmp x.0 unit) refl)
  where
    at : (x : Monomial × ℤ) → ¬ (coefficient (constant c) x.0 ≡ pos 0) → (t : Bool) → eq_by_cmp monomial_cmp x.0 unit ≡ t → x.0 ≡ unit
    at x k true e = key terms x.0 unit e
    at x k false e = absurd (k (value-term terms unit c x.0 ∙ ap (λ t. cond t c (pos 0)) e))

number_of : (p : WholePolynomial) → Decided ((c : ℤ) × (¬ (c ≡ pos 0)) × (p ≡ constant c))
number_of p = go (nothing_decided p) (every_decided (λ (x : Monomial × ℤ). x.0 ≡ unit) (λ x. monomial_decided x.0 unit) p.list)
  where
    go : Decided (p ≡ 0ᴾ) → Decided (Every (λ (x : Monomial × ℤ). x.0 ≡ unit) p.list) → Decided ((c : ℤ) × (¬ (c ≡ pos 0)) × (p ≡ constant c))
    go (inl z) r = inr (λ h. h.1 (number_constant h.0 (sym h.2 ∙ z)))
    go (inr n) (inl h) = inl (coefficient p unit, (λ z. n (constant_of p h ∙ ap constant z ∙ (term_additive terms).on_nil unit)), constant_of p h)
    go (inr n) (inr k) = inr (λ h. k (subst (λ (q : WholePolynomial). Every (λ (x : Monomial × ℤ). x.0 ≡ unit) q.list) (sym h.2) (constant_entries h.0)))

-- ---- counts of a derivative by one variable
shape_decided : (J : List ℕ) → Decided ((v : ℕ) × (k : ℕ) × (0 < k) × (J ≡ counts_of v k))
shape_decided [] = inr (λ h. let z : h.1 ≡ 0 = sym (count_there h.0 h.1) ∙ ap (λ J. get_or J h.0 0) (sym h.3) in let p : 0 < h.1 = h.2 in absurd (omega arith))
shape_decided (zero ∷ J) = go (shape_decided J)
  where
    tail : (v k : ℕ) → 0 < k → 0 ∷ J ≡ counts_of v k → (w : ℕ) × (l : ℕ) × (0 < l) × (J ≡ counts_of w l)
    tail zero k p e = absurd (let z : 0 ≡ k = ap (λ K. get_or K 0 0) e in omega arith)
    tail (suc v) k p e = (v, k, p, ap (λ K. drop 1 K) e)

    go : Decided ((v : ℕ) × (k : ℕ) × (0 < k) × (J ≡ counts_of v k)) → Decided ((v : ℕ) × (k : ℕ) × (0 < k) × (0 ∷ J ≡ counts_of v k))
    go (inl (v, k, p, e)) = inl (suc v, k, p, ap (λ K. 0 ∷ K) e)
    go (inr n) = inr (λ h. n (tail h.0 h.1 h.2 h.3))
shape_decided (suc c ∷ []) = inl (0, suc c, omega arith, refl)
shape_decided (suc c ∷ j ∷ J) = inr (λ h. no h.0 h.1 h.3)
  where
    no : (v k : ℕ) → ¬ (suc c ∷ j ∷ J ≡ counts_of v k)
    no zero k e = let z : suc (length J) ≡ 0 = ap (λ K. length (drop 1 K)) e in absurd (omega arith)
    no (suc v) k e = let z : suc c ≡ 0 = ap (λ K. get_or K 0 0) e in absurd (omega arith)

module _ (n : ℕ) (S : LinearSystem) (valid : IsValid n S) (i : ℕ) (place : IsPlace S i) where
  abbrev E : LinearForm
  E = equation S i

  -- ---- a form solved for a derivative
  lacks_decided : (d : Derivative) (v : ℕ) → Decided (Lacks S.unknowns v (rest_of d (equation S i)))
  lacks_decided d v = every_decided (λ (e : Derivative × WholePolynomial). FreeOf v e.1 × (depends S.unknowns (e.0).unknown v ≡ false)) (λ e. both_decided (free_decided v e.1) (bool_decided (depends S.unknowns (e.0).unknown v) false)) (rest_of d (equation S i)).list

  -- a variable of no space is nowhere
  lacks_outside : (d : Derivative) (v : ℕ) → n ≤ v → Lacks S.unknowns v (rest_of d (equation S i))
  lacks_outside d v le = every-weaken (λ (e : Derivative × WholePolynomial). (IsOwned S.unknowns e.0 × IsIn (λ w. ltb w n) e.1) × ¬ (e.0 ≡ d)) _ (λ e h. ((h.0).1 v outside, none (e.0).unknown (depends S.unknowns (e.0).unknown v) refl))
      (rest_of d (equation S i)).list
      (each-rest (λ (e : Derivative × WholePolynomial). IsOwned S.unknowns e.0 × IsIn (λ w. ltb w n) e.1) d (equation S i) (equation_form n S valid i place))
    where
      outside : ltb v n ≡ false
      outside = at (ltb v n) refl
        where
          at : (t : Bool) → ltb v n ≡ t → t ≡ false
          at true e = absurd (let k = ltb-true v n e in omega arith)
          at false e = refl

      none : (f : ℕ) (t : Bool) → depends S.unknowns f v ≡ t → t ≡ false
      none f true e = let p = dependent_of S.unknowns f v e in absurd (let lt = has_below n v (p.0).variables p.3 (every_contained (HasVariablesBelow n) S.unknowns p.0 valid.variables p.1).1 in omega arith)
      none f false e = refl

  within_decided : (d : Derivative) → Decided ((v : ℕ) → depends S.unknowns d.unknown v ≡ false → Lacks S.unknowns v (rest_of d (equation S i)))
  within_decided d = same_decided (λ h v e. at h v e (ltb v n) refl) (λ h v lt. h v)
      (all_below_decided (λ v. depends S.unknowns d.unknown v ≡ false → Lacks S.unknowns v (rest_of d (equation S i))) (λ v. if_decided (bool_decided (depends S.unknowns d.unknown v) false) (lacks_decided d v)) n)
    where
      at : ((v : ℕ) → v < n → depends S.unknowns d.unknown v ≡ false → Lacks S.unknowns v (rest_of d (equation S i))) → (v : ℕ) → depends S.unknowns d.unknown v ≡ false → (t : Bool) → ltb v n ≡ t → Lacks S.unknowns v (rest_of d (equation S i))
      at h v e true k = h v (ltb-true v n k) e
      at h v e false k = lacks_outside d v (ltb-false v n k)

  solved_decided : (d : Derivative) → Decided ((c : ℤ) × IsSolvedFor S.unknowns (equation S i) d c)
  solved_decided d = same_decided
      (λ h. ((h.0).0, record { apart = (h.0).1; leads = (h.0).2; alone = (h.1).0; within = (h.1).1 }))
      (λ h. ((h.0, (h.1).apart, (h.1).leads), ((h.1).alone, (h.1).within)))
      (both_decided (number_of (at_derivative (equation S i) d)) (both_decided (bool_decided (mentions d.unknown (rest_of d (equation S i))) false) (within_decided d)))

  -- ---- substitute
  empty_decided : (J : List ℕ) → Decided (J ≡ [])
  empty_decided [] = inl refl
  empty_decided (j ∷ J) = inr (λ e. let z : suc (length J) ≡ 0 = ap length e in absurd (omega arith))

  pub substitute_decided : Decided (AppliesSubstitute S i)
  substitute_decided = same_decided
      (λ h. (h.0, ((h.1).holds).number, record { place = place; solved = ((h.1).holds).solved; greatest = h.1 }))
      (λ h. (h.0, (h.2).greatest))
      (greatest_decided (IsSubstitutable S.unknowns (equation S i))
      (λ d. same_decided (λ h. record { itself = h.0; number = (h.1).0; solved = (h.1).1 }) (λ h. (h.itself, (h.number, h.solved))) (both_decided (empty_decided d.counts) (solved_decided d)))
      (equation S i) (λ q h. solved_occurs S.unknowns (equation S i) q h.number h.solved))

  -- ---- integrate
  integrable_decided : (d : Derivative) → Decided (IsIntegrable S.unknowns (equation S i) d)
  integrable_decided d = go (shape_decided d.counts) (both_decided (solved_decided d) (not_decided (form_decided (rest_of d (equation S i)))))
    where
      at : (v k : ℕ) → 0 < k → d.counts ≡ counts_of v k → (c : ℤ) → IsSolvedFor S.unknowns (equation S i) d c → ¬ (rest_of d (equation S i) ≡ no_form) → Decided (Every (λ (e : Derivative × WholePolynomial). depends S.unknowns (e.0).unknown v ≡ false) (rest_of d (equation S i)).list) → Decided (IsIntegrable S.unknowns (equation S i) d)
      at v k p e c s m (inl h) = inl (c, v, k, record { several = p; derived = e; solved = s; some = m; independent = h })
      at v k p e c s m (inr j) = inr (λ h. j (subst (λ w. Every (λ (e : Derivative × WholePolynomial). depends S.unknowns (e.0).unknown w ≡ false) (rest_of d (equation S i)).list) (sym (counts_same v h.1 k h.2 p (h.3).several (sym e ∙ (h.3).derived)).0) (h.3).independent))

      go : Decided ((v : ℕ) × (k : ℕ) × (0 < k) × (d.counts ≡ counts_of v k)) → Decided (((c : ℤ) × IsSolvedFor S.unknowns (equation S i) d c) × ¬ (rest_of d (equation S i) ≡ no_form)) → Decided (IsIntegrable S.unknowns (equation S i) d)
      go (inr m) r = inr (λ h. m (h.1, h.2, (h.3).several, (h.3).derived))
      go (inl x) (inr m) = inr (λ h. m ((h.0, (h.3).solved), (h.3).some))
      go (inl (v, k, p, e)) (inl ((c, s), m)) = at v k p e c s m (every_decided (λ (e : Derivative × WholePolynomial). depends S.unknowns (e.0).unknown v ≡ false) (λ e. bool_decided (depends S.unknowns (e.0).unknown v) false) (rest_of d (equation S i)).list)

  pub integrate_decided : Decided (AppliesIntegrate S i)
  integrate_decided = same_decided (λ h. (place, h.0, h.1)) (λ h. (h.1, h.2))
      (greatest_decided (IsIntegrable S.unknowns (equation S i)) integrable_decided (equation S i) (λ q h. solved_occurs S.unknowns (equation S i) q h.0 (h.3).solved))
