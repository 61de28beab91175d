-- A system is valid exactly where each of its parts is as the functions that decide say.
use Rattle.std.specs.declared.result.Result.{Result}
use Rattle.std.specs.Prelude.{◌≡◌, MatchBool, IfOk, Ok, Err, ℕ, zero, suc, ◌+◌, ◌<◌, pos, take, Bool, true, false, List, [], ◌∷◌, length, get_or, map}
use Rattle.std.proofs.Common.{Less, Equal, Greater, sym, ap, subst, ◌∙◌, arith, inl, inr, add-one}
use Rattle.std.specs.Cmp.{tied_itself}
use Rattle.std.proofs.lemmas.List.{length-map, get_or-map}
use Rattle.std.specs.List.{AllByRecursion as Every, Contains}
use Rattle.std.specs.List.Sorted.{IsStrictlySortedBy}
use Rattle.std.specs.Ordering.{nat_cmp, on}
use Rattle.lie_math.specs.FiniteSum as finite
use Rattle.lie_math.specs.FiniteSumLaws as finite_laws
use Rattle.lie_math.specs.Polynomial.{WholePolynomial, terms, constant}
use Rattle.lie_math.specs.Counts.{Derivative}
use Rattle.lie_math.specs.LinearForm.{LinearForm, forms, no_form}
use Rattle.lie_math.proofs.CanonicalLists.{canonical_cons}
use Rattle.lie_math.proofs.Limits.{by_test, one_apart}
use Rattle.lie_math.proofs.SortedLists.{less_equal}
use Rattle.lie_math.specs.LinearSystem.{Unknown, has}
use Rattle.lie_math.proofs.EveryElement.{every-map, every_mapped, every_both, every-weaken, every_contained}
use Rattle.lie_math.proofs.ContainedElements.{contained_map}
use Rattle.lie_systems.specs.EquationOrder.{equation_cmp}
use Rattle.lie_systems.specs.Normalised.{IsNormalised, primitive, derivative_alone}
use Rattle.lie_systems.proofs.Primitive.{primitive_normalised}
use Rattle.lie_systems.proofs.Unique.{primitive-normalised}
use Rattle.lie_systems.proofs.EquationOrder.{equation_cmp_total, equation_cmp-IsAntisymmetric}
use Rattle.lie_systems.specs.ValidSystems.{IsOwned, IsFormOf, IsValid, HasVariablesBelow}
use Rattle.lie_jet.specs.declared.derivative.Der.{Der}
use Rattle.lie_jet.specs.Derivatives.{derivative_of}
use Rattle.lie_lin.specs.declared.system.Unknown as kept
use Rattle.lie_lin.specs.Forms.{coefficients_of}
use Rattle.lie_lin.proofs.EquationTies.{greater_equal}
use Rattle.lie_lin.specs.Systems.{has_bit, unknown_of, system_of}
use Rattle.lie_lin.specs.Validity.{IsOwner, IsUnknownBelow, AreRising}
use Rattle.lie_lin.proofs.DecidingParts.{has_is, has_below, get-trimmed, trimmed_twice, sorted_variables}

-- ---- derivatives of listed unknowns
pub owner_owns : (us : List kept.Unknown) (d : Der) (i : ℕ) (f : kept.Unknown) → i < length us → f ≡ get_or us i f → IsOwner f d → IsOwned (map unknown_of us) (derivative_of d)
owner_owns us d i f lt is o = record {
  unknown = unknown_of f;
  listed = (i, (let n = length-map us unknown_of in omega arith), get_or-map unknown_of us i f (unknown_of f) lt ∙ ap unknown_of (sym is));
  number = o.0;
  own = λ v n. let own = o.1 v (λ z. n (get-trimmed d.counts v ∙ z)) in has_is (has_bit f.vars) v own.0 ∙ own.1;
  short = trimmed_twice d.counts;
}

pub none_owns : (us : List kept.Unknown) (d : Der) → Every (λ (f : kept.Unknown). ¬ (IsOwner f d)) us → ¬ (IsOwned (map unknown_of us) (derivative_of d))
none_owns us d h o = go (contained_map unknown_of us o.unknown o.listed)
  where
    go : (f : kept.Unknown) × Contains us f × (unknown_of f ≡ o.unknown) → ⊥
    go (f, c, e) = every_contained (λ (g : kept.Unknown). ¬ (IsOwner g d)) us f h c (
      ap (λ (g : Unknown). g.number) e ∙ o.number,
      λ v n. by v (subst (λ (g : Unknown). has g v ≡ true) (sym e) (o.own v (λ z. n (sym (get-trimmed d.counts v) ∙ z)))),
    )
      where
        by : (v : ℕ) → has (unknown_of f) v ≡ true → (v < 8) × (has_bit f.vars v ≡ true)
        by v h = let lt = has_below (has_bit f.vars) v h in (lt, sym (has_is (has_bit f.vars) v lt) ∙ h)

-- ---- unknowns
rising_map : (us : List kept.Unknown) → AreRising us → IsStrictlySortedBy (on (λ (f : Unknown). f.number) nat_cmp) (map unknown_of us)
unfolding IsStrictlySortedBy
rising_map [] s = tt
rising_map (f ∷ us) s = (every-map (λ (g : Unknown). nat_cmp f.number g.number ≡ Less) unknown_of us s.0, rising_map us s.1)

rising_mapped : (us : List kept.Unknown) → IsStrictlySortedBy (on (λ (f : Unknown). f.number) nat_cmp) (map unknown_of us) → AreRising us
unfolding IsStrictlySortedBy
rising_mapped [] s = tt
rising_mapped (f ∷ us) s = (every_mapped (λ (g : Unknown). nat_cmp f.number g.number ≡ Less) unknown_of us s.0, rising_mapped us s.1)

module _ (n : ℕ) (us : List kept.Unknown) (Es Gs : List LinearForm) (next : ℕ) where
  pub valid_of : length Gs ≡ n → Every (IsUnknownBelow n next) us → AreRising us → Every (IsFormOf n (map unknown_of us)) Es → Every IsNormalised Es → IsStrictlySortedBy equation_cmp Es → Every (IsFormOf n (map unknown_of us)) Gs → IsValid n (system_of us Es Gs next)
  valid_of components below rising equations normalised ordered general = record {
    rising = rising_map us rising;
    below = every-map (λ (f : Unknown). f.number < next) unknown_of us (every-weaken (IsUnknownBelow n next) (λ (f : kept.Unknown). f.number < next) (λ f h. h.0) us below);
    variables = every-map (HasVariablesBelow n) unknown_of us (every-weaken (IsUnknownBelow n next) (λ (f : kept.Unknown). HasVariablesBelow n (unknown_of f)) (λ f h. h.1) us below);
    equations = equations;
    normalised = normalised;
    ordered = ordered;
    general = general;
    components = components;
  }

  module _ (v : IsValid n (system_of us Es Gs next)) where
    pub below_of : Every (IsUnknownBelow n next) us
    below_of =
        every_both (λ (f : kept.Unknown). f.number < next) (λ (f : kept.Unknown). HasVariablesBelow n (unknown_of f)) (IsUnknownBelow n next) (λ f h k. (h, k)) us
        (every_mapped (λ (f : Unknown). f.number < next) unknown_of us v.below) (every_mapped (HasVariablesBelow n) unknown_of us v.variables)

    pub rising_of : AreRising us
    rising_of = rising_mapped us v.rising

-- ---- normalised equations
alone_listed : (d : Derivative) → ¬ ((derivative_alone d).list ≡ [])
unfolding finite.term
alone_listed d e = none (sym (finite_laws.list-of forms ((d, constant (pos 1)) ∷ []) (canonical_cons forms (d, constant (pos 1)) [] (by_test (finite.is_none terms (constant (pos 1))) (λ n. one_apart (finite_laws.none_of_is terms (constant (pos 1)) n))) tt tt)) ∙ e)
  where
    none : ◌≡◌ {A = List (Derivative × WholePolynomial)} ((d, constant (pos 1)) ∷ []) [] → ⊥
    none f = let n = ap length f in absurd (omega arith)

pub empty_not_normalised : (E : LinearForm) (es : List (Der × WholePolynomial)) → coefficients_of es ≡ E.list → length es ≡ 0 → ¬ (IsNormalised E)
empty_not_normalised E [] is n (inl (d, e)) = alone_listed d (ap (λ (G : LinearForm). G.list) (sym e) ∙ sym is)
empty_not_normalised E [] is n (inr (more, p)) = let k = ap length is in absurd (omega arith)
empty_not_normalised E (x ∷ es) is n h = absurd (omega arith)

pub primitive_is : (E N : LinearForm) → ¬ (E ≡ no_form) → N ≡ primitive E → equation_cmp N E ≡ Equal → IsNormalised E
primitive_is E N some is e = subst IsNormalised (sym is ∙ equation_cmp-IsAntisymmetric N E e) (primitive_normalised E some)

pub primitive_less : (E N : LinearForm) → N ≡ primitive E → equation_cmp N E ≡ Less → ¬ (IsNormalised E)
primitive_less E N is e h = less_equal e (ap (λ M. equation_cmp M E) (is ∙ primitive-normalised E h) ∙ tied_itself equation_cmp_total E)

pub primitive_greater : (E N : LinearForm) → N ≡ primitive E → equation_cmp N E ≡ Greater → ¬ (IsNormalised E)
primitive_greater E N is e h = greater_equal e (ap (λ M. equation_cmp M E) (is ∙ primitive-normalised E h) ∙ tied_itself equation_cmp_total E)

-- ---- coefficients that are looked through
module _ (Q : Derivative × WholePolynomial → Type 0) where
  pub coefficients_at : (es : List (Der × WholePolynomial)) (i : ℕ) (x : Der × WholePolynomial) → i < length es → x ≡ get_or es i x → Every Q (coefficients_of es) → Q (derivative_of x.0, x.1)
  coefficients_at [] i x lt is h = absurd (omega arith)
  coefficients_at (e ∷ es) zero x lt is h = subst (λ (y : Der × WholePolynomial). Q (derivative_of y.0, y.1)) (sym is) h.0
  coefficients_at (e ∷ es) (suc i) x lt is h = coefficients_at es i x (omega arith) is h.1

  pub coefficients_more : (es : List (Der × WholePolynomial)) (i : ℕ) (x : Der × WholePolynomial) → i < length es → x ≡ get_or es i x → Every Q (coefficients_of (take i es)) → Q (derivative_of x.0, x.1) → Every Q (coefficients_of (take (i + 1) es))
  coefficients_more es i x lt is h q = subst (λ k. Every Q (coefficients_of (take k es))) (sym (add-one i)) (go es i lt is h)
    where
      go : (es : List (Der × WholePolynomial)) (i : ℕ) → i < length es → x ≡ get_or es i x → Every Q (coefficients_of (take i es)) → Every Q (coefficients_of (take (suc i) es))
      go [] i lt is h = absurd (omega arith)
      go (e ∷ es) zero lt is h = (subst (λ (y : Der × WholePolynomial). Q (derivative_of y.0, y.1)) is q, tt)
      go (e ∷ es) (suc i) lt is h = (h.0, go es i (omega arith) is h.1)

-- ---- answers of the functions that decide
pub unknown_below : (n next : ℕ) (f : kept.Unknown) (b : Bool) → f.number < next → MatchBool b (Every (λ v. v < n) (unknown_of f).variables) (¬ (Every (λ v. v < n) (unknown_of f).variables)) → MatchBool b (IsUnknownBelow n next f) (¬ (IsUnknownBelow n next f))
unknown_below n next f true lt h = (lt, (sorted_variables (has_bit f.vars), h))
unknown_below n next f false lt h = λ k. h k.1.1

pub valid_by : {X : Type 0} (r : Result Bool X) (n : ℕ) (us : List kept.Unknown) (Es Gs : List LinearForm) (next : ℕ)
    → (IsStrictlySortedBy equation_cmp Es → IsValid n (system_of us Es Gs next))
    → IfOk r (λ yes. MatchBool yes (IsStrictlySortedBy equation_cmp Es) (¬ (IsStrictlySortedBy equation_cmp Es)))
    → IfOk r (λ yes. MatchBool yes (IsValid n (system_of us Es Gs next)) (¬ (IsValid n (system_of us Es Gs next))))
valid_by (Ok true) n us Es Gs next f h = f h
valid_by (Ok false) n us Es Gs next f h = λ v. h v.ordered
valid_by (Err x) n us Es Gs next f h = tt
