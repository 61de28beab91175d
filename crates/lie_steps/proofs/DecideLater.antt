-- Whether the rules that isolate, reduce, derive and cross apply is decided.
use Rattle.std.specs.Prelude.{◌≡◌, ℕ, ◌<◌, ◌≤◌, ◌⊎◌, Bool, true, false, cond, ltb, List, [], ◌∷◌, length, remove}
use Rattle.std.proofs.Common.{refl, sym, ap, ap₂, subst, ◌∙◌, arith, inl, inr, ltb-true, ltb-false}
use Rattle.lie_math.specs.FiniteSum as finite
use Rattle.lie_math.specs.FiniteSumLaws as finite_laws
use Rattle.lie_math.specs.FiniteSumLaws.{value-none, term_additive, plus_idl}
use Rattle.lie_math.specs.Canonical.{sum_of_entries-nil}
use Rattle.lie_math.specs.Counts.{Derivative, raised}
use Rattle.lie_math.specs.LinearForm.{LinearForm, forms, no_form, ◌+ᶠ◌, form_term}
use Rattle.lie_math.specs.LinearSystem.{LinearSystem}
use Rattle.lie_math.specs.PartialDerivative.{partial}
use Rattle.lie_math.specs.Polynomial.{WholePolynomial}
use Rattle.lie_math.specs.Variables.{IsIn, FreeOf}
use Rattle.lie_math.proofs.Dependence.{partial_of_free}
use Rattle.lie_math.proofs.FiniteSum.{sum_of_entries-same}
use Rattle.lie_systems.specs.EquationOrder.{equation_cmp}
use Rattle.lie_systems.specs.Leads.{IsLead}
use Rattle.lie_systems.specs.ValidSystems.{IsOwned, IsFormOf, IsValid, HasVariablesBelow}
use Rattle.lie_systems.proofs.Leads.{first_is_lead}
use Rattle.lie_systems.proofs.Primitive.{no_derivative}
use Rattle.lie_steps.specs.Cross.{least_multiple, raised_to, AppliesCross}
use Rattle.lie_steps.specs.Derivatives.{derivative, missing}
use Rattle.lie_steps.specs.Equations.{equation, IsPlace, depends}
use Rattle.lie_steps.specs.Foreign.{IsForeignBy, AppliesForeign}
use Rattle.lie_steps.specs.Isolate.{SomeDepends, free_degree, freed, IsSinglePart, IsIsolatedBy, AppliesIsolate}
use Rattle.lie_steps.specs.NormalForm.{combined, IsReducible, IsReduction, IsNormalForm, done}
use Rattle.lie_steps.specs.Reduce.{AppliesReduce}
use Rattle.lie_math.proofs.EveryElement.{every-weaken, every_contained}
use Rattle.lie_steps.proofs.Unknowns.{dependent_of}
use Rattle.lie_steps.proofs.FreshPowers.{has_below}
use Rattle.lie_steps.proofs.Derived.{derivative-form, derivatives-form}
use Rattle.lie_steps.proofs.Combining.{combined-form}
use Rattle.lie_steps.proofs.NormalForms.{lead_unique, normal_form_unique}
use Rattle.lie_steps.proofs.NormalFormExists.{normal_form_exists}
use Rattle.lie_steps.proofs.Searching.{search_reduction}
use Rattle.lie_steps.proofs.IsolateNone.{first_single_part}
use Rattle.std.proofs.Common.{Less}
use Rattle.lie_math.proofs.Decisions.{Decided, both_decided, same_decided, bool_decided, number_decided, less_decided, at_most_decided, any_decided, any_with, search_below}
use Rattle.lie_steps.proofs.DecideAlone.{equation_form}
use Rattle.lie_steps.proofs.DecideSolved.{form_decided}

-- ---- the lead of a form, if it has one
lead_or_none : (E : LinearForm) → ((l : Derivative) × IsLead l E) ⊎ ((l : Derivative) → ¬ (IsLead l E))
lead_or_none E = go E.list refl
  where
    go : (es : List (Derivative × WholePolynomial)) → E.list ≡ es → ((l : Derivative) × IsLead l E) ⊎ ((l : Derivative) → ¬ (IsLead l E))
    go [] e = inr (λ l a. a.occurs (ap (λ G. finite.value forms G l) (no_derivative E e) ∙ value-none forms l))
    go (x ∷ es) e = inl (x.0, first_is_lead E x es e)

module _ (n : ℕ) (S : LinearSystem) (valid : IsValid n S) where
  -- a variable on which an unknown depends is one of the space
  dependent_below : (f v : ℕ) → depends S.unknowns f v ≡ true → v < n
  dependent_below f v e = let p = dependent_of S.unknowns f v e in has_below n v (p.0).variables p.3 (every_contained (HasVariablesBelow n) S.unknowns p.0 valid.variables p.1).1

  -- the derivative by a variable of no space is empty
  not_below : (v : ℕ) → n ≤ v → ltb v n ≡ false
  not_below v le = at (ltb v n) refl
    where
      at : (t : Bool) → ltb v n ≡ t → t ≡ false
      at true e = absurd (let k = ltb-true v n e in omega arith)
      at false e = refl

  pub derivative_outside : (E : LinearForm) → IsFormOf n S.unknowns E → (v : ℕ) → n ≤ v → derivative S.unknowns v E ≡ no_form
  unfolding derivative
  derivative_outside E form v le =
      sum_of_entries-same (finite_laws.adder forms) _ (λ d a. no_form) E.list
      (every-weaken (λ (e : Derivative × WholePolynomial). IsOwned S.unknowns e.0 × IsIn (λ w. ltb w n) e.1) _ (λ e h. one e.0 e.1 (h.1 v (not_below v le)) (depends S.unknowns (e.0).unknown v) refl) E.list form)
      ∙ sum_of_entries-nil (finite_laws.adder forms) E.list
    where
      one : (d : Derivative) (a : WholePolynomial) → FreeOf v a → (t : Bool) → depends S.unknowns d.unknown v ≡ t → form_term d (partial v a) +ᶠ cond t (form_term (raised v d) a) no_form ≡ no_form
      one d a h true e = absurd (let lt = dependent_below d.unknown v e in omega arith)
      one d a h false e = ap (λ x. x +ᶠ no_form) (ap (form_term d) (partial_of_free v a h) ∙ (term_additive forms).on_nil d) ∙ plus_idl forms no_form

  module _ (i : ℕ) (place : IsPlace S i) where
    form : IsFormOf n S.unknowns (equation S i)
    form = equation_form n S valid i place

    -- ---- isolate
    single_decided : (v : ℕ) → Decided ((P : LinearForm) × IsSinglePart S.unknowns (freed S.unknowns (equation S i) v) P × ((Q : LinearForm) → IsSinglePart S.unknowns (freed S.unknowns (equation S i) v) Q → ¬ (equation_cmp Q P ≡ Less)))
    single_decided v = go (first_single_part S.unknowns (freed S.unknowns (equation S i) v))
      where
        go : ((P : LinearForm) × IsSinglePart S.unknowns (freed S.unknowns (equation S i) v) P × ((Q : LinearForm) → IsSinglePart S.unknowns (freed S.unknowns (equation S i) v) Q → ¬ (equation_cmp Q P ≡ Less))) ⊎ ((Q : LinearForm) → ¬ (IsSinglePart S.unknowns (freed S.unknowns (equation S i) v) Q)) → Decided ((P : LinearForm) × IsSinglePart S.unknowns (freed S.unknowns (equation S i) v) P × ((Q : LinearForm) → IsSinglePart S.unknowns (freed S.unknowns (equation S i) v) Q → ¬ (equation_cmp Q P ≡ Less)))
        go (inl x) = inl x
        go (inr none) = inr (λ h. none h.0 h.1)

    isolated_decided : (v : ℕ) → Decided ((P : LinearForm) × IsIsolatedBy S.unknowns (equation S i) v P)
    isolated_decided v = same_decided
        (λ h. (((h.1).1).1.0, record { depends = h.0; free = (h.1).0; low = ((h.1).1).0; part = ((h.1).1).1.1; first = ((h.1).1).1.2 }))
        (λ h. ((h.1).depends, ((h.1).free, ((h.1).low, (h.0, (h.1).part, (h.1).first)))))
        (both_decided (any_decided (λ (e : Derivative × WholePolynomial). depends S.unknowns (e.0).unknown v ≡ true) (λ e. bool_decided (depends S.unknowns (e.0).unknown v) true) (equation S i).list)
        (both_decided (any_decided (λ (e : Derivative × WholePolynomial). depends S.unknowns (e.0).unknown v ≡ false) (λ e. bool_decided (depends S.unknowns (e.0).unknown v) false) (equation S i).list)
        (both_decided (at_most_decided (free_degree S.unknowns (equation S i) v) 31) (single_decided v))))

    pub some_depends_below : (v : ℕ) → SomeDepends S.unknowns (equation S i) v → v < n
    some_depends_below v a = let x = any_with (λ (e : Derivative × WholePolynomial). depends S.unknowns (e.0).unknown v ≡ true) (λ (e : Derivative × WholePolynomial). IsOwned S.unknowns e.0 × IsIn (λ w. ltb w n) e.1) (equation S i).list form a in dependent_below ((x.0).0).unknown v x.2

    pub isolate_decided : Decided (AppliesIsolate S i)
    isolate_decided = go (search_below (λ v. (P : LinearForm) × IsIsolatedBy S.unknowns (equation S i) v P) isolated_decided n)
      where
        go : ((v : ℕ) × (v < n) × ((P : LinearForm) × IsIsolatedBy S.unknowns (equation S i) v P) × ((w : ℕ) → w < v → ¬ ((P : LinearForm) × IsIsolatedBy S.unknowns (equation S i) w P))) ⊎ ((v : ℕ) → v < n → ¬ ((P : LinearForm) × IsIsolatedBy S.unknowns (equation S i) v P)) → Decided (AppliesIsolate S i)
        go (inl (v, lt, h, f)) = inl (v, h.0, record { place = place; isolated = h.1; first = λ w Q less k. f w less (Q, k) })
        go (inr none) = inr (λ a. none a.0 (some_depends_below a.0 ((a.2).isolated).depends) (a.1, (a.2).isolated))

    -- ---- reduce
    pub reduce_decided : Decided (AppliesReduce S i)
    reduce_decided = go (search_reduction (remove S.equations i) (equation S i))
      where
        go : ((d : Derivative) × (j : ℕ) × (l : Derivative) × IsReduction (remove S.equations i) (equation S i) d j l) ⊎ ((d : Derivative) → ¬ (IsReducible (remove S.equations i) (equation S i) d)) → Decided (AppliesReduce S i)
        go (inl (d, j, l, r)) = inl (place, d, (r.greatest).holds)
        go (inr none) = inr (λ a. none a.1 a.2)

    -- ---- foreign
    derived_normal : (v : ℕ) → (N : LinearForm) × IsNormalForm S.unknowns S.equations (derivative S.unknowns v (equation S i)) N
    derived_normal v = normal_form_exists n S.unknowns valid.rising valid.variables S.equations valid.equations (derivative S.unknowns v (equation S i)) (derivative-form n S.unknowns valid.rising v (equation S i) form)

    foreign_by_decided : (l : Derivative) → IsLead l (equation S i) → (v : ℕ) → Decided ((N : LinearForm) × IsForeignBy S i v N)
    foreign_by_decided l a v = go (bool_decided (depends S.unknowns l.unknown v) false) (derived_normal v)
      where
        by : depends S.unknowns l.unknown v ≡ false → (N : LinearForm) → IsNormalForm S.unknowns S.equations (derivative S.unknowns v (equation S i)) N → Decided (N ≡ no_form) → Decided ((N : LinearForm) × IsForeignBy S i v N)
        by e N k (inl z) = inr (λ h. (h.1).some (normal_form_unique (h.1).normal N k ∙ z))
        by e N k (inr m) = inl (N, record { lead = l; leads = a; free = e; normal = k; some = m })

        go : Decided (depends S.unknowns l.unknown v ≡ false) → (N : LinearForm) × IsNormalForm S.unknowns S.equations (derivative S.unknowns v (equation S i)) N → Decided ((N : LinearForm) × IsForeignBy S i v N)
        go (inl e) (N, k) = by e N k (form_decided N)
        go (inr m) x = inr (λ h. m (subst (λ (d : Derivative). depends S.unknowns d.unknown v ≡ false) (lead_unique (equation S i) (h.1).lead l (h.1).leads a) (h.1).free))

    pub foreign_outside : (v : ℕ) → n ≤ v → ¬ ((N : LinearForm) × IsForeignBy S i v N)
    foreign_outside v le h = (h.1).some (normal_form_unique (h.1).normal no_form (subst (λ E. IsNormalForm S.unknowns S.equations E no_form) (sym (derivative_outside (equation S i) form v le)) (done (λ d r. r.0 (value-none forms d)))))

    pub foreign_decided : Decided (AppliesForeign S i)
    foreign_decided = go (lead_or_none (equation S i))
      where
        by : ((v : ℕ) × (v < n) × ((N : LinearForm) × IsForeignBy S i v N) × ((w : ℕ) → w < v → ¬ ((N : LinearForm) × IsForeignBy S i w N))) ⊎ ((v : ℕ) → v < n → ¬ ((N : LinearForm) × IsForeignBy S i v N)) → Decided (AppliesForeign S i)
        by (inl (v, lt, h, f)) = inl (v, h.0, record { place = place; foreign = h.1; first = λ w M less k. f w less (M, k) })
        by (inr none) = inr (λ a. at a.0 (a.1, (a.2).foreign) (ltb a.0 n) refl)
          where
            at : (v : ℕ) → (N : LinearForm) × IsForeignBy S i v N → (t : Bool) → ltb v n ≡ t → ⊥
            at v h true e = none v (ltb-true v n e) h
            at v h false e = foreign_outside v (ltb-false v n e) h

        go : ((l : Derivative) × IsLead l (equation S i)) ⊎ ((l : Derivative) → ¬ (IsLead l (equation S i))) → Decided (AppliesForeign S i)
        go (inl (l, a)) = by (search_below (λ v. (N : LinearForm) × IsForeignBy S i v N) (foreign_by_decided l a) n)
        go (inr none) = inr (λ a. none ((a.2).foreign).lead ((a.2).foreign).leads)

  -- ---- cross
  pub cross_decided : (i j : ℕ) → Decided (AppliesCross S i j)
  cross_decided i j = go (both_decided (less_decided i j) (less_decided j (length S.equations))) (lead_or_none (equation S i)) (lead_or_none (equation S j))
    where
      normal : (l m : Derivative) → i < length S.equations → j < length S.equations → (N : LinearForm) × IsNormalForm S.unknowns S.equations (combined (least_multiple l m) (raised_to S i l (least_multiple l m)) (raised_to S j m (least_multiple l m))) N
      normal l m p q = normal_form_exists n S.unknowns valid.rising valid.variables S.equations valid.equations (combined (least_multiple l m) (raised_to S i l (least_multiple l m)) (raised_to S j m (least_multiple l m)))
          (combined-form (least_multiple l m) (raised_to S i l (least_multiple l m)) (raised_to S j m (least_multiple l m)) (IsOwned S.unknowns) (λ v. ltb v n)
          (derivatives-form n S.unknowns valid.rising (missing l.counts (least_multiple l m).counts) (equation S i) (equation_form n S valid i p))
          (derivatives-form n S.unknowns valid.rising (missing m.counts (least_multiple l m).counts) (equation S j) (equation_form n S valid j q)))

      by : (i < j) × (j < length S.equations) → (l m : Derivative) → IsLead l (equation S i) → IsLead m (equation S j) → l.unknown ≡ m.unknown → (N : LinearForm) → IsNormalForm S.unknowns S.equations (combined (least_multiple l m) (raised_to S i l (least_multiple l m)) (raised_to S j m (least_multiple l m))) N → Decided (N ≡ no_form) → Decided (AppliesCross S i j)
      by h l m a b u N k (inl z) = inr (λ x. (x.1).some (normal_form_unique (x.1).normal N (subst (λ E. IsNormalForm S.unknowns S.equations E N) (sym (ap₂ (λ d e. combined (least_multiple d e) (raised_to S i d (least_multiple d e)) (raised_to S j e (least_multiple d e))) (lead_unique (equation S i) (x.1).lead l (x.1).leads a) (lead_unique (equation S j) (x.1).other m (x.1).other_leads b))) k) ∙ z))
      by h l m a b u N k (inr s) = inl (N, record { order = h.0; place = h.1; lead = l; leads = a; other = m; other_leads = b; unknown = u; normal = k; some = s })

      unknowns : (i < j) × (j < length S.equations) → (l m : Derivative) → IsLead l (equation S i) → IsLead m (equation S j) → Decided (l.unknown ≡ m.unknown) → Decided (AppliesCross S i j)
      unknowns h l m a b (inl u) = let N = normal l m (let p : i < j = h.0 in let q : j < length S.equations = h.1 in omega arith) h.1 in by h l m a b u N.0 N.1 (form_decided N.0)
      unknowns h l m a b (inr s) = inr (λ x. s (ap (λ (d : Derivative). d.unknown) (lead_unique (equation S i) l (x.1).lead a (x.1).leads) ∙ (x.1).unknown ∙ ap (λ (d : Derivative). d.unknown) (lead_unique (equation S j) (x.1).other m (x.1).other_leads b)))

      go : Decided ((i < j) × (j < length S.equations)) → ((l : Derivative) × IsLead l (equation S i)) ⊎ ((l : Derivative) → ¬ (IsLead l (equation S i))) → ((l : Derivative) × IsLead l (equation S j)) ⊎ ((l : Derivative) → ¬ (IsLead l (equation S j))) → Decided (AppliesCross S i j)
      go (inr none) a b = inr (λ x. none ((x.1).order, (x.1).place))
      go (inl h) (inr none) b = inr (λ x. none (x.1).lead (x.1).leads)
      go (inl h) (inl a) (inr none) = inr (λ x. none (x.1).other (x.1).other_leads)
      go (inl h) (inl (l, a)) (inl (m, b)) = unknowns h l m a b (number_decided l.unknown m.unknown)
