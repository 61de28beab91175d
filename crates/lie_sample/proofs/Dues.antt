-- What is due of each member up to the last is due of all of them.
use Rattle.std.specs.Prelude.{ℕ, zero, suc, ◌≡◌, ◌≤◌, ◌<◌, ◌+◌, Bool, true, false, nat_lt}
use Rattle.std.proofs.Common.{refl, sym, subst, arith, inl, inr}
use Rattle.std.proofs.lemmas.Bool.Decides.{nat_tests}
use Rattle.std.specs.declared.result.Result.{Result}
use Rattle.std.specs.declared.result.Result.TheVariants.{Ok, Err}
use Rattle.lie_outer.specs.declared.sink.SinkFail.{SinkFail}
use Rattle.lie_outer.specs.declared.sink.SinkFail.TheVariants as sinks
use Rattle.lie_work.specs.declared.command.FileCommand.TheVariants.{Analyse}
use Rattle.lie_work.specs.declared.outcome.Outcome.{Outcome}
use Rattle.lie_work.specs.declared.outcome.Outcome.TheVariants.{Done, Refused, Failed}
use Rattle.lie_work.specs.declared.outcome.Refusal.{Refusal}
use Rattle.lie_work.specs.declared.outcome.Refusal.TheVariants.{Usage, Missing, Bad, Not, Past, Spent, Taken, Full}
use Rattle.lie_work.specs.declared.outcome.Failure.{Failure}
use Rattle.lie_work.specs.Analyse.{IsAnalyseDue, due_file, due_past, due_spent, due_report}
use Rattle.lie_work.specs.Causes.{put_outcome}
use Rattle.lie_work.specs.Laws.{SomeWorkIsDue}
use Rattle.lie_work.specs.Work.{IsAnswer, IsEnded}
use Rattle.lie_sample.specs.Family.{family_file, least_member}
use Rattle.lie_sample.specs.Members.{IsMember, AreDueBelow, IsSampleDue, SomeSampleIsDue, due_refused, due_lines}

-- no member below the n-th is refused
abbrev pub NoneRefusedBelow : ℕ → ℕ → Type 0
NoneRefusedBelow budget n =
    (j : ℕ) (r : Refusal) → least_member ≤ j → j < n → ¬ (IsAnalyseDue (family_file j) budget (Refused r))

-- ---- outcomes
done_is_no_refusal : (r : Refusal) → Done ≡ Refused r → ⊥
done_is_no_refusal r e = absurd cc

done_answers_none : (r : Refusal) → IsAnswer (Refused r) Done → ⊥
done_answers_none Usage e = done_is_no_refusal Usage e
done_answers_none Missing e = done_is_no_refusal Missing e
done_answers_none (Bad source bad) e = done_is_no_refusal (Bad source bad) e
done_answers_none (Not kind k) e = done_is_no_refusal (Not kind k) e
done_answers_none (Past step what) e = done_is_no_refusal (Past step e.0) e.1
done_answers_none (Spent steps) e = done_is_no_refusal (Spent steps) e
done_answers_none (Taken text) e = done_is_no_refusal (Taken text) e
done_answers_none Full e = done_is_no_refusal Full e

done_is_no_failure : (f : Failure) → Done ≡ Failed f → ⊥
done_is_no_failure f e = absurd cc

done_ends_none : (r : Refusal) → IsEnded (Refused r) Done → ⊥
done_ends_none r h = elim h [
  | inl (inl answer) ↦ done_answers_none r answer
  | inl (inr e) ↦ done_is_no_failure _ e
  | inr (inl e) ↦ done_is_no_failure _ e
  | inr (inr e) ↦ done_is_no_failure _ e
]

-- an outcome that ends where Done is due, and isn't Done, is one for want of memory or by a fault
other_end : (outcome due : Outcome) → (outcome ≡ Done → ⊥) → IsEnded Done outcome → IsEnded due outcome
other_end outcome due other h = elim h [
  | inl (inl e) ↦ absurd (other e)
  | inl (inr e) ↦ inl (inr e)
  | inr faults ↦ inr faults
]

done_ends : {T : Type 0} (put : Result T SinkFail) → IsEnded Done (put_outcome put)
done_ends (Ok taken) = inl (inl refl)
done_ends (Err sinks.Failed) = inr (inr refl)
done_ends (Err sinks.NoMemory) = inl (inr refl)

pub put_ends : {T : Type 0} (due : Outcome) (put : Result T SinkFail) → due ≡ Done → IsEnded due (put_outcome put)
put_ends due put e = subst (λ d. IsEnded d (put_outcome put)) (sym e) (done_ends put)

-- ---- all members
pub none_at_start : (budget : ℕ) → NoneRefusedBelow budget least_member
none_at_start budget j r least below d = absurd (omega arith)

at_or_below : (j k : ℕ) → j < k + 1 → (P : ℕ → Type 0) → ((j < k) → P j) → P k → P j
at_or_below j k lt P below here = go (nat_lt j k) refl
  where
    go : (b : Bool) → nat_lt j k ≡ b → P j
    go true e = below (grind (arith, nat_tests, e))
    go false e = let same : k ≡ j = grind (arith, nat_tests, e) in subst P same here

-- where the k-th line is put, it isn't refused
pub none_further : (budget k : ℕ) → NoneRefusedBelow budget k → ((d : Outcome) → IsAnalyseDue (family_file k) budget d → IsEnded d Done)
    → NoneRefusedBelow budget (k + 1)
none_further budget k none ends j r least lt =
    at_or_below j k lt (λ i. ¬ (IsAnalyseDue (family_file i) budget (Refused r))) (λ below. none j r least below)
    (λ d. done_ends_none r (ends (Refused r) d))

pub all_end : (last budget : ℕ) (due : Outcome) → NoneRefusedBelow budget (last + 1) → IsSampleDue last budget due → IsEnded due Done
all_end last budget due none (due_refused j r member below d) =
    absurd (none j r (member.0) (let up = member.1 in omega (arith, up)) d)
all_end last budget due none (due_lines below) = inl (inl refl)

-- what the k-th member ends with, all end with
module _ (last budget k : ℕ) (outcome : Outcome) (member : IsMember last k) (none : NoneRefusedBelow budget k) (other : outcome ≡ Done → ⊥)
    (ends : (d : Outcome) → IsAnalyseDue (family_file k) budget d → IsEnded d outcome) where
  ended_before : (due : Outcome) → IsAnalyseDue (family_file k) budget Done → IsEnded due outcome
  ended_before due d = other_end outcome due other (ends Done d)

  ended_at : (j : ℕ) (r : Refusal) → least_member ≤ j → AreDueBelow budget j → IsAnalyseDue (family_file j) budget (Refused r)
      → IsEnded (Refused r) outcome
  ended_at j r least below d = go (nat_lt k j) refl
    where
      go : (b : Bool) → nat_lt k j ≡ b → IsEnded (Refused r) outcome
      go true e = ended_before (Refused r) (below k member.0 (grind (arith, nat_tests, e)))
      go false e =
          at_or_below j k (grind (arith, nat_tests, e)) (λ i. IsAnalyseDue (family_file i) budget (Refused r) → IsEnded (Refused r) outcome)
          (λ lt h. absurd (none j r least lt h)) (λ h. ends (Refused r) h) d

  pub stop_ends : (due : Outcome) → IsSampleDue last budget due → IsEnded due outcome
  stop_ends due (due_refused j r m below d) = ended_at j r m.0 below d
  stop_ends due (due_lines below) = ended_before Done (below k member.0 (let up = member.1 in omega (arith, up)))

-- ---- some outcome is due
abbrev IsNoFailure : Outcome → Type 0
IsNoFailure Done = Unit {0}
IsNoFailure (Refused r) = Unit {0}
IsNoFailure (Failed f) = ⊥

no_failure_is_due : (bytes : _) (budget : ℕ) (due : Outcome) → IsAnalyseDue bytes budget due → IsNoFailure due
no_failure_is_due bytes budget due (due_file refusal h) = tt
no_failure_is_due bytes budget due (due_past step what h) = tt
no_failure_is_due bytes budget due (due_spent h) = tt
no_failure_is_due bytes budget due (due_report h) = tt

due_further : (budget k : ℕ) → AreDueBelow budget k → IsAnalyseDue (family_file k) budget Done → AreDueBelow budget (k + 1)
due_further budget k below d j least lt =
    at_or_below j k lt (λ i. IsAnalyseDue (family_file i) budget Done) (λ l. below j least l) d

module _ (some : SomeWorkIsDue) (last budget : ℕ) (none : (due : Outcome) → ¬ (IsSampleDue last budget due)) where
  never_at : (k : ℕ) → least_member ≤ k → k ≤ last → AreDueBelow budget k → ¬ (AreDueBelow budget (k + 1)) → (due : Outcome)
      → IsAnalyseDue (family_file k) budget due → ⊥
  never_at k least up below not_all Done d = not_all (due_further budget k below d)
  never_at k least up below not_all (Refused r) d = none (Refused r) (due_refused k r (least, up) below d)
  never_at k least up below not_all (Failed f) d = no_failure_is_due (family_file k) budget (Failed f) d

  never_below : (k : ℕ) → k ≤ last + 1 → ¬ (AreDueBelow budget k) → ⊥
  never_below zero l not_all = not_all (λ j least lt. absurd (omega arith))
  never_below (suc k) l not_all = never_below k (omega arith) (λ below. go (nat_lt k least_member) refl below)
    where
      go : (b : Bool) → nat_lt k least_member ≡ b → AreDueBelow budget k → ⊥
      go true e below = not_all (λ j least lt. absurd (grind (arith, nat_tests, e, least, lt)))
      go false e below =
          some (Analyse budget) (family_file k)
          (never_at k (grind (arith, nat_tests, e)) (omega arith) below (λ all. not_all (λ j least lt. all j least (omega arith))))

  never : ⊥
  never = never_below (last + 1) (omega arith) (λ all. none Done (due_lines all))

pub some_sample_is_due : SomeWorkIsDue → SomeSampleIsDue
some_sample_is_due some last budget none = never some last budget none
