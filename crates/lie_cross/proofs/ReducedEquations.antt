-- An equation that is reduced by the others: what the step leaves and makes.
use Rattle.std.specs.Prelude.{◌≡◌, ℕ, zero, suc, ◌<◌, ◌≤◌, ◌⊎◌, List, [], ◌∷◌, length, get_or, map, remove}
use Rattle.std.proofs.Common.{sym, ap, ap₂, subst, arith, inl, inr}
use Rattle.std.specs.List.{Contains, insert}
use Rattle.lie_math.specs.Counts.{Derivative}
use Rattle.lie_math.specs.LinearForm.{LinearForm, no_form}
use Rattle.lie_math.specs.LinearSystem.{Unknown, LinearSystem}
use Rattle.lie_math.proofs.ContainedElements.{contained_cons, contains_nothing}
use Rattle.lie_math.proofs.EveryElement.{every_picked}
use Rattle.lie_systems.specs.Leads.{Occurs}
use Rattle.lie_systems.specs.Normalised.{primitive}
use Rattle.lie_systems.specs.ValidSystems.{IsFormOf, IsValid}
use Rattle.lie_systems.specs.Works.{IsWorkWithin}
use Rattle.lie_ring.specs.declared.failures.PolyFail.{PolyFail}
use Rattle.lie_steps.specs.Equations.{equation, IsPlace, with_equations_at}
use Rattle.lie_steps.specs.NormalForm.{IsReducible, IsNormalForm, done, onward, NormalFormMakes}
use Rattle.lie_steps.specs.Reduce.{AppliesReduce, IsReducedAt}
use Rattle.lie_steps.specs.Rules.{Reduce, After}
use Rattle.lie_steps.specs.Tidying.{IsTidySystem}
use Rattle.lie_steps.proofs.NormalForms.{normal_form_unique}
use Rattle.lie_steps.proofs.NormalFormExists.{occurs_before}
use Rattle.lie_steps.proofs.ReducingRules.{reduce_keeps, reduce_total}
use Rattle.lie_lin.specs.Systems.{with_equations}
use Rattle.lie_normal.specs.FormLists.{AreFormsOf}
use Rattle.lie_normal.specs.WorkCauses.{IsWorkCause}
use Rattle.lie_normal.proofs.WorkSteps.{work_weaken}
use Rattle.lie_change.specs.Ends.{EndMakes, StaysValid}
use Rattle.lie_change.specs.Tried.{at, TryMakes}
use Rattle.lie_cross.specs.Normal.{SomeIsReducible}

-- nothing can be reduced in a normal form
normal_form_stays : {us : List Unknown} {Ls : List LinearForm} {E N : LinearForm} → IsNormalForm us Ls E N → (d : Derivative)
    → ¬ (IsReducible Ls N d)
normal_form_stays (done f) = f
normal_form_stays (onward d j l r k) = normal_form_stays k

-- ---- an equation that is taken out and put back
pub restored : {X : Type 0} (xs : List X) (i : ℕ) (x : X) → i < length xs → x ≡ get_or xs i x → insert (remove xs i) i x ≡ xs
restored [] i x lt is = absurd (omega arith)
restored (y ∷ xs) zero x lt is = ap (λ z. z ∷ xs) is
restored (y ∷ xs) (suc i) x lt is = ap (λ zs. y ∷ zs) (restored xs i x (omega arith) is)

pub same_valid : (n m : ℕ) (S T : LinearSystem) → n ≡ m → S ≡ T → IsValid n S → IsValid m T
same_valid n m S T p q h = subst (λ (x : ℕ × LinearSystem). IsValid x.0 x.1) (λ i. (p i, q i)) h

pub set_back : (S R : LinearSystem) (Es : List LinearForm) → R ≡ with_equations S [] → Es ≡ S.equations → S ≡ with_equations R Es
set_back S R Es e f = sym (ap₂ with_equations e f)

-- ---- the rule
module _ (n : ℕ) (S : LinearSystem) (valid : IsValid n S) (i : ℕ) (place : IsPlace S i) where
  pub reduce_forms : n ≤ 8 → AreFormsOf S.unknowns (equation S i ∷ remove S.equations i)
  reduce_forms few = record {
    variable_count = n;
    few = few;
    rising = valid.rising;
    variables = valid.variables;
    forms = every_picked (IsFormOf n S.unknowns) S.equations i no_form place valid.equations;
  }

  pub unreduced_fits : ¬ (SomeIsReducible (remove S.equations i) (equation S i)) → IsWorkWithin (TryMakes Reduce S (at i))
  unreduced_fits none b (inl t) = absurd t
  unreduced_fits none b (inr t) = absurd (none ((((t.1).1).applies).1, (((t.1).1).applies).2))

  module _ (reducible : SomeIsReducible (remove S.equations i) (equation S i)) where
    applies : AppliesReduce S i
    applies = (place, reducible.0, reducible.1)

    pub reduction_cause : (fail : PolyFail) → IsWorkCause fail (NormalFormMakes S.unknowns (remove S.equations i) (equation S i))
        → IsWorkCause fail (TryMakes Reduce S (at i))
    reduction_cause fail cause =
        work_weaken fail (λ b m. let t = reduce_total n S i valid applies in inr (t.0, t.1, inl (applies, m))) cause

    module _ (N : LinearForm) (normal : IsNormalForm S.unknowns (remove S.equations i) (equation S i) N) where
      reduced : IsReducedAt S i N
      reduced = record { applies = applies; normal = normal }

      pub reduced_after : (T : LinearSystem) → IsTidySystem (with_equations_at S i (N ∷ [])) T → After Reduce S (at i) T
      reduced_after T t = (N, reduced, t)

      pub reduced_valid : StaysValid n (with_equations_at S i (N ∷ []))
      reduced_valid T t = (reduce_keeps n S T i valid (N, reduced, t)).0

      pub reduced_apart : ¬ (Contains (map primitive (N ∷ [])) (equation S i))
      reduced_apart c = go (contained_cons (primitive N) [] (equation S i) c)
        where
          go : (primitive N ≡ equation S i) ⊎ Contains [] (equation S i) → ⊥
          go (inl e) =
              let r : IsReducible (remove S.equations i) (equation S i) reducible.0 = reducible.1 in
              normal_form_stays normal reducible.0 (occurs_before N reducible.0 (subst (Occurs reducible.0) (sym e) r.0), r.1, r.2, r.3)
          go (inr k) = contains_nothing (equation S i) k

      pub reduced_end_cause : (fail : PolyFail) → IsWorkCause fail (EndMakes (with_equations_at S i (N ∷ [])))
          → IsWorkCause fail (TryMakes Reduce S (at i))
      reduced_end_cause fail cause = work_weaken fail (λ b e. inr (e.0, reduced_after e.0 e.1, inr e.2)) cause

      pub reduced_fits : IsWorkWithin (NormalFormMakes S.unknowns (remove S.equations i) (equation S i))
          → IsWorkWithin (EndMakes (with_equations_at S i (N ∷ []))) → IsWorkWithin (TryMakes Reduce S (at i))
      reduced_fits within end b (inl t) = absurd t
      reduced_fits within end b (inr (T, a, inl m)) = within b m.1
      reduced_fits within end b (inr (T, a, inr e)) =
          end b (T, subst (λ M. IsTidySystem (with_equations_at S i (M ∷ [])) T) (normal_form_unique (a.1).normal N normal) a.2, e)
