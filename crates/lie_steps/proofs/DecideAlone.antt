-- Whether the rules zero, absent, lowest and split apply is decided.
use Rattle.std.specs.Prelude.{◌≡◌, ℕ, suc, ◌<◌, ◌⊎◌, Bool, true, false, ltb, List, [], ◌∷◌, length, pos}
use Rattle.std.proofs.Common.{refl, sym, ap, subst, ◌∙◌, arith, inl, inr, is_eq, ltb-true, true≢false}
use Rattle.std.specs.Cmp.{tied_itself}
use Rattle.std.specs.List.{AllByRecursion as Every, Contains}
use Rattle.lie_math.specs.Counts.{Derivative, order}
use Rattle.lie_math.specs.LinearForm.{LinearForm, forms, no_form}
use Rattle.lie_math.specs.LinearSystem.{LinearSystem}
use Rattle.lie_math.specs.Monomial.{Monomial, monomial_cmp, exponent, unit}
use Rattle.lie_math.specs.MonomialOrder.{monomial_cmp_total}
use Rattle.lie_math.specs.Polynomial.{WholePolynomial, terms, constant}
use Rattle.lie_math.specs.Variables.{IsIn}
use Rattle.lie_math.proofs.FiniteSum.{key, entries_of}
use Rattle.lie_systems.specs.Leads.{Occurs}
use Rattle.lie_systems.specs.Normalised.{IsNormalised, derivative_alone}
use Rattle.lie_systems.specs.Triples.{Triple, triples}
use Rattle.lie_systems.specs.ValidSystems.{IsOwned, IsFormOf, IsValid}
use Rattle.lie_systems.proofs.Leads.{first_is_lead}
use Rattle.lie_steps.specs.Absent.{AppliesAbsent}
use Rattle.lie_steps.specs.Equations.{equation, IsPlace, Divides, depends}
use Rattle.lie_steps.specs.Lowest.{AppliesLowest}
use Rattle.lie_steps.specs.Split.{IsSplitBy, AppliesSplit}
use Rattle.lie_steps.specs.Zero.{AppliesZero}
use Rattle.lie_math.proofs.EveryElement.{every_picked, every_contained}
use Rattle.lie_steps.proofs.FormTriples.{TripleHas, triples-each}
use Rattle.lie_steps.proofs.Rests.{coefficient_has}
use Rattle.lie_steps.proofs.Searching.{divides}
use Rattle.lie_steps.proofs.ZeroRule.{list-derivative_alone, same_alone}
use Rattle.lie_math.proofs.Decisions.{Decided, both_decided, same_decided, bool_decided, less_decided, every_decided, any_decided, any_with, some_element, search_below}

pub monomial_decided : (m n : Monomial) → Decided (m ≡ n)
monomial_decided m n = go (is_eq (monomial_cmp m n)) refl
  where
    go : (t : Bool) → is_eq (monomial_cmp m n) ≡ t → Decided (m ≡ n)
    go true e = inl (key terms m n e)
    go false e = inr (λ s. true≢false (sym (ap (λ x. is_eq (monomial_cmp x n)) s ∙ ap is_eq (tied_itself monomial_cmp_total n)) ∙ e))

module _ (n : ℕ) (S : LinearSystem) (valid : IsValid n S) (i : ℕ) (place : IsPlace S i) where
  abbrev E : LinearForm
  E = equation S i

  pub equation_form : IsFormOf n S.unknowns (equation S i)
  equation_form = (every_picked (IsFormOf n S.unknowns) S.equations i no_form place valid.equations).0

  pub equation_normalised : IsNormalised (equation S i)
  equation_normalised = (every_picked IsNormalised S.equations i no_form place valid.normalised).0

  -- ---- one derivative alone, or more
  abbrev Shape : Type 0
  Shape = ((d : Derivative) × (E ≡ derivative_alone d)) ⊎ ((d : Derivative) → ¬ (E ≡ derivative_alone d))

  shape : Shape
  shape = go equation_normalised
    where
      go : IsNormalised (equation S i) → Shape
      go (inl h) = inl h
      go (inr h) = inr (λ d e. let one : length (equation S i).list ≡ 1 = ap (λ (G : LinearForm). length G.list) e ∙ ap length (list-derivative_alone d) in let lt : 1 < length (equation S i).list = h.0 in absurd (omega arith))

  pub zero_decided : Decided (AppliesZero S i)
  zero_decided = go shape
    where
      at : (d : Derivative) → E ≡ derivative_alone d → (J : List ℕ) → d.counts ≡ J → Decided (AppliesZero S i)
      at d e [] k = inl (d.unknown, record { place = place; is = e ∙ ap derivative_alone (λ j. record { unknown = d.unknown; counts = k j }) })
      at d e (c ∷ J) k = inr (λ z. let l : suc (length J) ≡ 0 = ap length (sym k ∙ ap (λ (x : Derivative). x.counts) (same_alone d (record { unknown = z.0; counts = [] }) (sym e ∙ (z.1).is))) in absurd (omega arith))

      go : Shape → Decided (AppliesZero S i)
      go (inl (d, e)) = at d e d.counts refl
      go (inr none) = inr (λ z. none (record { unknown = z.0; counts = [] }) (z.1).is)

  pub absent_decided : Decided (AppliesAbsent S i)
  absent_decided = go shape
    where
      owned : (d : Derivative) → E ≡ derivative_alone d → IsOwned S.unknowns d
      owned d e = (coefficient_has (λ (x : Derivative × WholePolynomial). IsOwned S.unknowns x.0 × IsIn (λ v. ltb v n) x.1) (equation S i) equation_form d (first_is_lead (equation S i) (d, constant (pos 1)) [] (ap (λ (G : LinearForm). G.list) e ∙ list-derivative_alone d)).occurs).0

      at : (d : Derivative) → E ≡ derivative_alone d → Decided (0 < order d.counts) → Decided (AppliesAbsent S i)
      at d e (inl h) = let o = owned d e in inl (o.unknown, d, record { place = place; listed = o.listed; number = o.number; derived = h; is = e })
      at d e (inr k) = inr (λ z. k (subst (λ (x : Derivative). 0 < order x.counts) (sym (same_alone d z.1 (sym e ∙ (z.2).is))) (z.2).derived))

      go : Shape → Decided (AppliesAbsent S i)
      go (inl (d, e)) = at d e (less_decided 0 (order d.counts))
      go (inr none) = inr (λ z. none z.1 (z.2).is)

  -- ---- lowest
  abbrev DividesAll : Derivative × WholePolynomial → Type 0
  DividesAll e = Every (λ (t : Triple). Divides e.0 t.0) (triples (equation S i))

  all_occur : Every (λ (e : Derivative × WholePolynomial). Occurs e.0 (equation S i)) (equation S i).list
  all_occur = entries_of forms (equation S i) (λ (e : Derivative × WholePolynomial). Occurs e.0 (equation S i)) (λ e is k z. k (sym is ∙ z))

  pub lowest_decided : Decided (AppliesLowest S i)
  lowest_decided = go (both_decided (less_decided 1 (length (triples (equation S i)))) (every_decided (λ (t : Triple). t.1 ≡ unit) (λ t. monomial_decided t.1 unit) (triples (equation S i))))
      (some_element DividesAll (λ e. every_decided (λ (t : Triple). Divides e.0 t.0) (λ t. divides e.0 t.0) (triples (equation S i))) (equation S i).list)
    where
      go : Decided ((1 < length (triples (equation S i))) × Every (λ (t : Triple). t.1 ≡ unit) (triples (equation S i))) → ((e : Derivative × WholePolynomial) × Contains (equation S i).list e × DividesAll e) ⊎ Every (λ e. ¬ (DividesAll e)) (equation S i).list → Decided (AppliesLowest S i)
      go (inl h) (inl (e, c, k)) = inl (e.0, record { place = place; several = h.0; constant = h.1; occurs = every_contained (λ (e : Derivative × WholePolynomial). Occurs e.0 (equation S i)) (equation S i).list e all_occur c; lowest = k })
      go (inl h) (inr none) = inr (λ z. coefficient_has (λ e. ¬ (DividesAll e)) (equation S i) none z.0 (z.1).occurs (z.1).lowest)
      go (inr k) r = inr (λ z. k ((z.1).several, (z.1).constant))

  -- ---- split
  split_by_decided : (v : ℕ) → Decided (IsSplitBy S.unknowns (equation S i) v)
  split_by_decided v = same_decided (λ p. record { occurs = p.0; independent = p.1 }) (λ s. (s.occurs, s.independent))
      (both_decided (any_decided (λ (t : Triple). 0 < exponent t.1 v) (λ t. less_decided 0 (exponent t.1 v)) (triples (equation S i)))
      (every_decided (λ (e : Derivative × WholePolynomial). depends S.unknowns (e.0).unknown v ≡ false) (λ e. bool_decided (depends S.unknowns (e.0).unknown v) false) (equation S i).list))

  split_below : (v : ℕ) → IsSplitBy S.unknowns (equation S i) v → v < n
  split_below v s = go (ltb v n) refl (any_with (λ (t : Triple). 0 < exponent t.1 v) (TripleHas (IsOwned S.unknowns) (λ v. ltb v n)) (triples (equation S i)) (triples-each (IsOwned S.unknowns) (λ v. ltb v n) (equation S i) equation_form) s.occurs)
    where
      go : (t : Bool) → ltb v n ≡ t → (t : Triple) × TripleHas (IsOwned S.unknowns) (λ v. ltb v n) t × (0 < exponent t.1 v) → v < n
      go true e r = ltb-true v n e
      go false e r = let z : exponent (r.0).1 v ≡ 0 = (r.1).1 v e in let p : 0 < exponent (r.0).1 v = r.2 in absurd (omega arith)

  pub split_decided : Decided (AppliesSplit S i)
  split_decided = go (search_below (IsSplitBy S.unknowns (equation S i)) split_by_decided n)
    where
      go : ((v : ℕ) × (v < n) × IsSplitBy S.unknowns (equation S i) v × ((w : ℕ) → w < v → ¬ (IsSplitBy S.unknowns (equation S i) w))) ⊎ ((v : ℕ) → v < n → ¬ (IsSplitBy S.unknowns (equation S i) v)) → Decided (AppliesSplit S i)
      go (inl (v, lt, s, f)) = inl (v, record { place = place; splits = s; first = f })
      go (inr none) = inr (λ z. none z.0 (split_below z.0 (z.1).splits) (z.1).splits)
