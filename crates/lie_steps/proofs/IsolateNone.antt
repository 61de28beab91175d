-- Where nothing is isolated, no part of the derivatives has one derivative only: there are finitely many parts, so one would be the first.
use Rattle.std.specs.Prelude.{◌≡◌, ℕ, ◌⊎◌, Bool, true, false, cond, not, List, [], ◌∷◌, map, length, ℤ}
use Rattle.std.proofs.Common.{refl, sym, ap, subst, ◌∙◌, arith, inl, inr, is_eq}
use Rattle.std.specs.List.{AllByRecursion as Every, Contains}
use Rattle.lie_math.specs.FiniteSum as finite
use Rattle.lie_math.specs.FiniteSumLaws as finite_laws
use Rattle.lie_math.specs.FiniteSumLaws.{term_additive}
use Rattle.lie_math.specs.Canonical.{sum_of_entries-nil}
use Rattle.lie_math.specs.LinearSystem.{Unknown}
use Rattle.lie_math.specs.Counts.{Derivative}
use Rattle.lie_math.specs.LinearForm.{LinearForm, forms, no_form, form_term}
use Rattle.lie_math.specs.Monomial.{Monomial, monomial_cmp}
use Rattle.lie_math.specs.Polynomial.{WholePolynomial, polynomials, terms, term, 0ᴾ}
use Rattle.lie_math.proofs.FiniteSum.{key, sum_of_entries-same}
use Rattle.lie_systems.specs.EquationOrder.{equation_cmp}
use Rattle.lie_systems.specs.Triples.{Triple, triples}
use Rattle.lie_systems.proofs.EquationOrder.{equation_cmp_total}
use Rattle.lie_steps.specs.Equations.{equation}
use Rattle.lie_steps.specs.Parts.{factors_in, polynomial_part, part}
use Rattle.lie_steps.specs.Isolate.{freed, outer, IsSinglePart, IsIsolatedBy}
use Rattle.lie_steps.specs.Laws.{IsolateAppliesToAny}
use Rattle.lie_math.proofs.EveryElement.{every-weaken}
use Rattle.lie_math.proofs.ContainedElements.{contains-map, contains_first, contains_later}
use Rattle.lie_steps.proofs.LowestRule.{entries_of_triples}
use Rattle.lie_math.proofs.FirstNumbers.{none_first}
use Rattle.lie_math.proofs.Decisions.{LeastOf, least_element, number_decided}
use Rattle.std.proofs.Common.{Less}
use Rattle.lie_systems.proofs.EquationOrder.{equation_cmp-IsAntisymmetric}
use Rattle.lie_math.proofs.ContainedElements.{contained_map}

-- ---- a list in which something passes a test
passing : {X : Type 0} (t : X → Bool) (xs : List X) → ((x : X) × Contains xs x × (t x ≡ true)) ⊎ Every (λ x. t x ≡ false) xs
passing {X} t [] = inr tt
passing {X} t (x ∷ xs) = go (t x) refl (passing t xs)
  where
    go : (b : Bool) → t x ≡ b → ((y : X) × Contains xs y × (t y ≡ true)) ⊎ Every (λ x. t x ≡ false) xs → ((y : X) × Contains (x ∷ xs) y × (t y ≡ true)) ⊎ Every (λ x. t x ≡ false) (x ∷ xs)
    go true e r = inl (x, contains_first x xs, e)
    go false e (inl (y, c, f)) = inl (y, contains_later x xs y c, f)
    go false e (inr h) = inr (e, h)

module _ (A : ℕ → Bool) (D : LinearForm) where
  abbrev at : Monomial → Triple → Bool
  at μ t = is_eq (monomial_cmp (factors_in A t.1) μ)

  -- no triple has these factors
  nothing_at : (μ : Monomial) → Every (λ (t : Triple). at μ t ≡ false) (triples D) → part A μ D ≡ no_form
  unfolding polynomial_part
  nothing_at μ h =
      sum_of_entries-same (finite_laws.adder forms) _ (λ d a. no_form) D.list
      (every-weaken (λ (e : Derivative × WholePolynomial). Every (λ (x : Monomial × ℤ). is_eq (monomial_cmp (factors_in A x.0) μ) ≡ false) e.1.list) _ (λ e k. ap (form_term e.0) (sum_of_entries-same polynomials _ (λ m a. 0ᴾ) e.1.list (every-weaken (λ (x : Monomial × ℤ). is_eq (monomial_cmp (factors_in A x.0) μ) ≡ false) _ (λ x z. ap (λ b. cond b (term (factors_in (λ v. not (A v)) x.0) x.1) 0ᴾ) z) e.1.list k) ∙ sum_of_entries-nil polynomials e.1.list) ∙ (term_additive forms).on_nil e.0)
      D.list
      (entries_of_triples (λ (t : Triple). at μ t ≡ false) D.list h))
      ∙ sum_of_entries-nil (finite_laws.adder forms) D.list

  empty_length : length (no_form).list ≡ 0
  unfolding finite.none finite.of
  empty_length = refl

  abbrev pub candidates : List LinearForm
  candidates = map (λ (t : Triple). part A (factors_in A t.1) D) (triples D)

  pub single_listed : (μ : Monomial) → length (part A μ D).list ≡ 1 → Contains candidates (part A μ D)
  single_listed μ one = go (passing (at μ) (triples D))
    where
      go : ((t : Triple) × Contains (triples D) t × (at μ t ≡ true)) ⊎ Every (λ (t : Triple). at μ t ≡ false) (triples D) → Contains candidates (part A μ D)
      go (inl (t, c, e)) = subst (λ ν. Contains candidates (part A ν D)) (key terms (factors_in A t.1) μ e) (contains-map (λ (t : Triple). part A (factors_in A t.1) D) (triples D) t c)
      go (inr h) = absurd (let z : length (part A μ D).list ≡ 0 = ap (λ (E : LinearForm). length E.list) (nothing_at μ h) ∙ empty_length in omega arith)

-- the first part with one derivative only, or none
pub first_single_part : (us : List Unknown) (D : LinearForm) → ((P : LinearForm) × IsSinglePart us D P × ((Q : LinearForm) → IsSinglePart us D Q → ¬ (equation_cmp Q P ≡ Less))) ⊎ ((Q : LinearForm) → ¬ (IsSinglePart us D Q))
first_single_part us D = go (least_element (λ (P : LinearForm). length P.list ≡ 1) (λ P. number_decided (length P.list) 1) equation_cmp equation_cmp_total equation_cmp-IsAntisymmetric (candidates (outer us D) D))
  where
    listed : (Q : LinearForm) → IsSinglePart us D Q → Contains (candidates (outer us D) D) Q
    listed Q s = subst (Contains (candidates (outer us D) D)) (sym s.is) (single_listed (outer us D) D s.monomial (ap (λ (E : LinearForm). length E.list) (sym s.is) ∙ s.single))

    part_of : (P : LinearForm) → length P.list ≡ 1 → (t : Triple) × Contains (triples D) t × (part (outer us D) (factors_in (outer us D) t.1) D ≡ P) → IsSinglePart us D P
    part_of P one m = record { monomial = factors_in (outer us D) (m.0).1; is = sym m.2; single = one }

    go : LeastOf (λ (P : LinearForm). length P.list ≡ 1) (λ P. number_decided (length P.list) 1) equation_cmp equation_cmp_total equation_cmp-IsAntisymmetric (candidates (outer us D) D) ⊎ ((Q : LinearForm) → Contains (candidates (outer us D) D) Q → ¬ (length Q.list ≡ 1)) → ((P : LinearForm) × IsSinglePart us D P × ((Q : LinearForm) → IsSinglePart us D Q → ¬ (equation_cmp Q P ≡ Less))) ⊎ ((Q : LinearForm) → ¬ (IsSinglePart us D Q))
    go (inl (P, one, c, f)) = inl (P, part_of P one (contained_map (λ (t : Triple). part (outer us D) (factors_in (outer us D) t.1) D) (triples D) P c), λ Q s. f Q (listed Q s) s.single)
    go (inr none) = inr (λ Q s. none Q (listed Q s) s.single)

pub isolate_applies : IsolateAppliesToAny
isolate_applies S i p n v depends free low P s = go (first_single_part S.unknowns (freed S.unknowns (equation S i) v))
  where
    go : ((Q : LinearForm) × IsSinglePart S.unknowns (freed S.unknowns (equation S i) v) Q × ((R : LinearForm) → IsSinglePart S.unknowns (freed S.unknowns (equation S i) v) R → ¬ (equation_cmp R Q ≡ Less))) ⊎ ((Q : LinearForm) → ¬ (IsSinglePart S.unknowns (freed S.unknowns (equation S i) v) Q)) → ⊥
    go (inl (Q, q, f)) = none_first (λ w. (R : LinearForm) × IsIsolatedBy S.unknowns (equation S i) w R) (λ w q g. n (w, q.0, record { place = p; isolated = q.1; first = λ x R lt k. g x lt (R, k) })) v (Q, record { depends = depends; free = free; low = low; part = q; first = f })
    go (inr none) = none P s
