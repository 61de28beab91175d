-- A rule at a place, where what it leaves and its actions are known: from the clauses of a step to those of the rule.
use Rattle.std.specs.Prelude.{◌⊎◌, List, [], ◌++◌}
use Rattle.std.proofs.Common.{inl, inr}
use Rattle.std.specs.List.{Contains}
use Rattle.std.proofs.lemmas.List.Elements.{Contains-append_left, Contains-append_right}
use Rattle.lie_math.specs.LinearSystem.{LinearSystem}
use Rattle.lie_math.proofs.ContainedElements.{contains_nothing}
use Rattle.lie_math.proofs.EveryElement.{every-append}
use Rattle.lie_systems.specs.Works.{Made, IsMadeWithin, IsWorkWithin}
use Rattle.lie_ring.specs.declared.failures.PolyFail.{PolyFail}
use Rattle.lie_steps.specs.Rules.{Rule, Place, After, Tries, Makes}
use Rattle.lie_steps.specs.Tidying.{IsTidySystem}
use Rattle.lie_steps.proofs.Tidied.{tidy_exists}
use Rattle.lie_normal.specs.WorkCauses.{IsWorkCause}
use Rattle.lie_normal.proofs.WorkSteps.{work_weaken, all_within, every_within}
use Rattle.lie_change.specs.Ends.{EndMakes}
use Rattle.lie_change.specs.Tried.{TryMakes}

-- its test makes nothing; it leaves X, tidied, and bs are its actions before the end
pub record IsStep (r : Rule) (S : LinearSystem) (p : Place) (X : LinearSystem) (bs : List Made) : Type 0 where
  pub untested : (b : Made) → ¬ (Tries r S p b)
  pub leaves : (T : LinearSystem) → IsTidySystem X T → After r S p T
  pub left : (T : LinearSystem) → After r S p T → IsTidySystem X T
  pub made : (b : Made) → Makes r S p b → Contains bs b
  pub makes : (b : Made) → Contains bs b → Makes r S p b

-- actions, and then the end
abbrev pub WithEnd : List Made → LinearSystem → Made → Type 0
WithEnd bs X b = Contains bs b ⊎ EndMakes X b

module _ (r : Rule) (S : LinearSystem) (p : Place) (X : LinearSystem) (bs : List Made) (h : IsStep r S p X bs) where
  made_by_try : (b : Made) → TryMakes r S p b → WithEnd bs X b
  made_by_try b (inl t) = absurd (h.untested b t)
  made_by_try b (inr (T, a, inl m)) = inl (h.made b m)
  made_by_try b (inr (T, a, inr e)) = inr (T, h.left T a, e)

  try_makes : (b : Made) → WithEnd bs X b → TryMakes r S p b
  try_makes b (inl c) = let t = tidy_exists X in inr (t.0, h.leaves t.0 t.1, inl (h.makes b c))
  try_makes b (inr (T, t, e)) = inr (T, h.leaves T t, inr e)

  pub try_within : IsWorkWithin (WithEnd bs X) → IsWorkWithin (TryMakes r S p)
  try_within w b m = w b (made_by_try b m)

  pub try_cause : (fail : PolyFail) → IsWorkCause fail (WithEnd bs X) → IsWorkCause fail (TryMakes r S p)
  try_cause fail c = work_weaken fail try_makes c

pub nothing_within : IsWorkWithin (Contains [])
nothing_within b c = absurd (contains_nothing b c)

-- ---- actions one after the other, and the end
module _ (X : LinearSystem) where
  pub end_within : (bs : List Made) → IsWorkWithin (Contains bs) → IsWorkWithin (EndMakes X) → IsWorkWithin (WithEnd bs X)
  end_within bs w v b (inl c) = w b c
  end_within bs w v b (inr e) = v b e

  pub end_cause : (bs : List Made) (fail : PolyFail) → IsWorkCause fail (EndMakes X) → IsWorkCause fail (WithEnd bs X)
  end_cause bs fail c = work_weaken fail (λ b e. inr e) c

  pub part_cause : (bs : List Made) (fail : PolyFail) → IsWorkCause fail (Contains bs) → IsWorkCause fail (WithEnd bs X)
  part_cause bs fail c = work_weaken fail (λ b k. inl k) c

  module _ (front bs : List Made) where
    pub later_within : IsWorkWithin (Contains front) → IsWorkWithin (WithEnd bs X) → IsWorkWithin (WithEnd (front ++ bs) X)
    later_within w v =
        end_within (front ++ bs) (all_within (front ++ bs)
        (every-append IsMadeWithin front bs (every_within front w) (every_within bs (λ b c. v b (inl c))))) (λ b e. v b (inr e))

    later : (b : Made) → WithEnd bs X b → WithEnd (front ++ bs) X b
    later b (inl c) = inl (Contains-append_right front bs b c)
    later b (inr e) = inr e

    pub later_cause : (fail : PolyFail) → IsWorkCause fail (WithEnd bs X) → IsWorkCause fail (WithEnd (front ++ bs) X)
    later_cause fail c = work_weaken fail later c

    pub front_cause : (fail : PolyFail) → IsWorkCause fail (Contains front) → IsWorkCause fail (WithEnd (front ++ bs) X)
    front_cause fail c = work_weaken fail (λ b k. inl (Contains-append_left front bs b k)) c
