-- The rule for a variable in the coefficients on which no unknown depends: what it makes, and that no variable outside the space splits.
use Rattle.std.specs.Prelude.{◌≡◌, ℕ, zero, suc, ◌+◌, ◌<◌, ◌≤◌, Bool, true, false, cond, not, eqb, ltb, List, [], ◌∷◌, map, pos}
use Rattle.std.proofs.Common.{refl, sym, ap, ap₂, subst, ◌∙◌, arith, eq-eqb, ltb-true, true≢false}
use Rattle.std.specs.List.{AllByRecursion as Every, Any, Contains}
use Rattle.lie_math.specs.Counts.{Derivative}
use Rattle.lie_math.specs.LinearForm.{LinearForm, form_term}
use Rattle.lie_math.specs.LinearSystem.{LinearSystem, Unknown}
use Rattle.lie_math.specs.Monomial.{exponent, power_of, ◌·◌}
use Rattle.lie_math.specs.Polynomial.{WholePolynomial, coefficient}
use Rattle.lie_math.specs.Powers.{power_coefficient}
use Rattle.lie_math.specs.Variables.{IsIn}
use Rattle.lie_math.proofs.ContainedElements.{contained_map}
use Rattle.lie_math.proofs.Decisions.{any_with}
use Rattle.lie_math.proofs.EveryElement.{every_contained}
use Rattle.lie_math.proofs.FirstNumbers.{first_unique}
use Rattle.lie_math.proofs.FormEntries.{EachHas, each-over, each-term}
use Rattle.lie_math.proofs.Powers.{coefficient-power_coefficient}
use Rattle.lie_math.proofs.Tests.{same_number, eqb_self}
use Rattle.lie_systems.specs.Normalised.{primitive}
use Rattle.lie_systems.specs.Triples.{Triple, triples}
use Rattle.lie_systems.specs.ValidSystems.{IsFormOf, IsOwned, IsValid}
use Rattle.lie_systems.specs.Works.{AForm, IsWorkWithin}
use Rattle.lie_steps.specs.Bulks.{absolute_form}
use Rattle.lie_steps.specs.Equations.{equation, IsPlace, with_equations_at}
use Rattle.lie_steps.specs.Rules.{Split}
use Rattle.lie_steps.specs.Split.{IsSplitBy, IsSplitAt, AppliesSplit, AfterSplit, coefficient_of_power, form_degree, powers_below}
use Rattle.lie_steps.specs.Split.{all_powers, split}
use Rattle.lie_steps.specs.Tidying.{IsTidySystem}
use Rattle.lie_steps.proofs.FormTriples.{TripleHas, triples-each, each-primitive}
use Rattle.lie_steps.proofs.SplitRule.{split_keeps}
use Rattle.lie_change.specs.Ends.{EndMakes, StaysValid}
use Rattle.lie_change.specs.Tried.{at, TryMakes}
use Rattle.lie_normal.specs.WorkCauses.{IsWorkCause}
use Rattle.lie_ring.specs.declared.failures.PolyFail.{PolyFail}
use Rattle.lie_rules.proofs.Steps.{IsStep, end_cause, end_within, part_cause, try_cause, try_within}

-- ---- the step
module _ (S : LinearSystem) (i v : ℕ) (a : IsSplitAt S i v) where
  same_variable : (w : ℕ) → IsSplitAt S i w → w ≡ v
  same_variable w b = first_unique (IsSplitBy S.unknowns (equation S i)) w v b.splits a.splits b.first a.first

  pub split_step : IsStep Split S (at i) (split S i v) (map (λ P. AForm P) (all_powers v (absolute_form (equation S i))))
  split_step = record {
    untested = λ b t. t;
    leaves = λ T t. (v, a, t);
    left = λ T r. subst (λ w. IsTidySystem (split S i w) T) (same_variable r.0 r.1) r.2;
    made = λ b m. subst (λ w. Contains (map (λ P. AForm P) (all_powers w (absolute_form (equation S i)))) b) (same_variable m.0 m.1) m.2;
    makes = λ b c. (v, a, c);
  }

  pub split_stays : (n : ℕ) → IsValid n S → StaysValid n (split S i v)
  split_stays n h T t = (split_keeps n S T i h (v, a, t)).0

-- ---- the parts are without the variable
module _ (v : ℕ) where
  abbrev others : ℕ → Bool
  others w = not (eqb w v)

  abbrev Whatever : Derivative → Type 0
  Whatever d = Unit {0}

  is_variable : (w : ℕ) → others w ≡ false → w ≡ v
  is_variable w e = go (eqb w v) refl e
    where
      go : (t : Bool) → eqb w v ≡ t → not t ≡ false → w ≡ v
      go true k f = same_number w v k
      go false k f = absurd (true≢false f)

  power_in_others : (e : ℕ) (p : WholePolynomial) → IsIn others (power_coefficient v e p)
  power_in_others e p w out m n = subst (λ u. exponent m u ≡ 0) (sym (is_variable w out)) (go (eqb (exponent m v) 0) refl)
    where
      go : (t : Bool) → eqb (exponent m v) 0 ≡ t → exponent m v ≡ 0
      go true k = same_number (exponent m v) 0 k
      go false k = absurd (n (coefficient-power_coefficient v e p m ∙ ap (λ t. cond t (coefficient p (power_of v e · m)) (pos 0)) k))

  nothing_asked : (es : List (Derivative × WholePolynomial)) → Every (λ e. Unit {0}) es
  nothing_asked [] = tt
  nothing_asked (e ∷ es) = (tt, nothing_asked es)

  part_in_others : (e : ℕ) (E : LinearForm) → EachHas Whatever others (coefficient_of_power v e E)
  part_in_others e E =
      each-over Whatever others (λ x. Unit {0}) (λ d a. form_term d (power_coefficient v e a))
      (λ d a h. each-term Whatever others d (power_coefficient v e a) tt (power_in_others e a)) E (nothing_asked E.list)

  parts_in_others : (E : LinearForm) (k : ℕ) → Every (EachHas Whatever others) (powers_below v E k)
  parts_in_others E zero = tt
  parts_in_others E (suc k) = (part_in_others k E, parts_in_others E k)

  pub split_apart : (E : LinearForm) → Any (λ (t : Triple). 0 < exponent t.1 v) (triples E)
      → ¬ (Contains (map primitive (all_powers v E)) E)
  split_apart E a c =
      let m = contained_map primitive (all_powers v E) E c in
      let lacks : EachHas Whatever others E = subst (EachHas Whatever others) m.2
      (each-primitive Whatever others m.0 (every_contained (EachHas Whatever others) (all_powers v E) m.0
      (parts_in_others E (suc (form_degree v E))) m.1)) in
      lacking (any_with (λ (t : Triple). 0 < exponent t.1 v) (TripleHas Whatever others) (triples E)
      (triples-each Whatever others E lacks) a)
    where
      lacking : (t : Triple) × TripleHas Whatever others t × (0 < exponent t.1 v) → ⊥
      lacking r =
          let none : exponent (r.0).1 v ≡ 0 = (r.1).1 v (ap not (eqb_self v)) in
          let some : 0 < exponent (r.0).1 v = r.2 in
          absurd (omega arith)

-- ---- no variable outside the space splits
pub split_inside : (n : ℕ) (us : List Unknown) (E : LinearForm) → IsFormOf n us E → (v : ℕ) → IsSplitBy us E v → v < n
split_inside n us E form v s =
    go (ltb v n) refl (any_with (λ (t : Triple). 0 < exponent t.1 v) (TripleHas (IsOwned us) (λ v. ltb v n)) (triples E)
    (triples-each (IsOwned us) (λ v. ltb v n) E form) s.occurs)
  where
    go : (t : Bool) → ltb v n ≡ t → (t : Triple) × TripleHas (IsOwned us) (λ v. ltb v n) t × (0 < exponent t.1 v) → v < n
    go true e r = ltb-true v n e
    go false e r = let z : exponent (r.0).1 v ≡ 0 = (r.1).1 v e in let p : 0 < exponent (r.0).1 v = r.2 in absurd (omega arith)

module _ (n : ℕ) (S : LinearSystem) (i : ℕ) (place : IsPlace S i) (E : LinearForm) (same : E ≡ equation S i) where
  pub split_at : (v : ℕ) → IsSplitBy S.unknowns E v → ((w : ℕ) → w < v → ¬ (IsSplitBy S.unknowns E w)) → IsSplitAt S i v
  split_at v s f =
      record {
        place = place;
        splits = subst (λ G. IsSplitBy S.unknowns G v) same s;
        first = λ w lt b. f w lt (subst (λ G. IsSplitBy S.unknowns G w) (sym same) b);
      }

  pub no_split : IsFormOf n S.unknowns E → (k : ℕ) → n ≤ k → ((w : ℕ) → w < k → ¬ (IsSplitBy S.unknowns E w)) → ¬ (AppliesSplit S i)
  no_split form k le none a =
      let s : IsSplitBy S.unknowns E a.0 = subst (λ G. IsSplitBy S.unknowns G a.0) (sym same) (a.1).splits in
      none a.0 (let lt = split_inside n S.unknowns E form a.0 s in omega arith) s

-- one number more
pub below_next : (P : ℕ → Type 0) (k : ℕ) → ((w : ℕ) → w < k → P w) → P k → (w : ℕ) → w < k + 1 → P w
below_next P k h p w lt = go (eqb w k) refl
  where
    go : (t : Bool) → eqb w k ≡ t → P w
    go true e = subst P (sym (same_number w k e)) p
    go false e = let n : ¬ (w ≡ k) = λ s. true≢false (sym (eq-eqb w k s) ∙ e) in h w (omega arith)

-- ---- the step with the code's names: E for the equation, w for the variable, and the forms in its place
module _ (n : ℕ) (S : LinearSystem) (valid : IsValid n S) (i v : ℕ) (a : IsSplitAt S i v) (w : ℕ) (E : LinearForm) (forms : List LinearForm)
    (wv : w ≡ v) (same : E ≡ equation S i) (is : forms ≡ all_powers w E) where
  forms_split : forms ≡ all_powers v (equation S i)
  forms_split = is ∙ ap₂ all_powers wv same

  actions_split : map (λ P. AForm P) (all_powers w (absolute_form E)) ≡ map (λ P. AForm P) (all_powers v (absolute_form (equation S i)))
  actions_split = ap₂ (λ x F. map (λ P. AForm P) (all_powers x (absolute_form F))) wv same

  pub apart_by : ¬ (Contains (map primitive forms) (equation S i))
  apart_by c = split_apart v (equation S i) (a.splits).occurs (subst (λ Fs. Contains (map primitive Fs) (equation S i)) forms_split c)

  pub stays_by : StaysValid n (with_equations_at S i forms)
  stays_by = subst (λ Fs. StaysValid n (with_equations_at S i Fs)) (sym forms_split) (split_stays S i v a n valid)

  pub leaves_by : (T : LinearSystem) → IsTidySystem (with_equations_at S i forms) T → AfterSplit S i T
  leaves_by T t = (v, a, subst (λ Fs. IsTidySystem (with_equations_at S i Fs) T) forms_split t)

  pub within_by : IsWorkWithin (Contains (map (λ P. AForm P) (all_powers w (absolute_form E))))
      → IsWorkWithin (EndMakes (with_equations_at S i forms)) → IsWorkWithin (TryMakes Split S (at i))
  within_by p e =
      try_within Split S (at i) (split S i v) (map (λ P. AForm P) (all_powers v (absolute_form (equation S i)))) (split_step S i v a)
      (end_within (split S i v) (map (λ P. AForm P) (all_powers v (absolute_form (equation S i))))
      (subst (λ bs. IsWorkWithin (Contains bs)) actions_split p)
      (subst (λ Fs. IsWorkWithin (EndMakes (with_equations_at S i Fs))) forms_split e))

  pub cause_by : (fail : PolyFail) → IsWorkCause fail (EndMakes (with_equations_at S i forms)) → IsWorkCause fail (TryMakes Split S (at i))
  cause_by fail e =
      try_cause Split S (at i) (split S i v) (map (λ P. AForm P) (all_powers v (absolute_form (equation S i)))) (split_step S i v a) fail
      (end_cause (split S i v) (map (λ P. AForm P) (all_powers v (absolute_form (equation S i)))) fail
      (subst (λ Fs. IsWorkCause fail (EndMakes (with_equations_at S i Fs))) forms_split e))

-- a part is past a limit
pub part_past : (S : LinearSystem) (i v : ℕ) → IsSplitAt S i v → (w : ℕ) (E : LinearForm) → w ≡ v → E ≡ equation S i → (fail : PolyFail)
    → IsWorkCause fail (Contains (map (λ P. AForm P) (all_powers w (absolute_form E)))) → IsWorkCause fail (TryMakes Split S (at i))
part_past S i v a w E wv same fail p =
    try_cause Split S (at i) (split S i v) (map (λ P. AForm P) (all_powers v (absolute_form (equation S i)))) (split_step S i v a) fail
    (part_cause (split S i v) (map (λ P. AForm P) (all_powers v (absolute_form (equation S i)))) fail
    (subst (λ bs. IsWorkCause fail (Contains bs)) (ap₂ (λ x F. map (λ P. AForm P) (all_powers x (absolute_form F))) wv same) p))
