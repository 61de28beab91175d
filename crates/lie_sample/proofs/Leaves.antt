-- What one member leaves in the output, behind the lines of all lesser ones, is what all members leave.
use Rattle.std.specs.Prelude.{ℕ, ◌≡◌, ◌+◌, ◌++◌, List, Option}
use Rattle.std.proofs.Common.{refl, sym, subst, inl, inr}
use Rattle.std.proofs.KnownBytes.{Appends-trans}
use Rattle.std.specs.declared.result.Result.{Result}
use Rattle.std.specs.declared.result.Result.TheVariants.{Ok, Err}
use Rattle.lie_outer.specs.Causes.{Rose}
use Rattle.lie_outer.specs.Sink.{AppendsFront, Puts, CountsPut}
use Rattle.lie_outer.specs.declared.sink.SinkFail.{SinkFail}
use Rattle.lie_outer.specs.declared.sink.SinkFail.TheVariants as sinks
use Rattle.lie_work.specs.Causes.{put_outcome}
use Rattle.lie_work.specs.declared.outcome.Outcome.{Outcome}
use Rattle.lie_work.specs.declared.outcome.Outcome.TheVariants.{Done, Refused, Failed}
use Rattle.lie_work.specs.declared.outcome.Failure.TheVariants.{NoMemory, ReadFault, WriteFault, KeeperFault, LinkFault}
use Rattle.lie_sample.specs.Members.{IsMember, IsMemberLine, further, LeavesLine, PutsLinesBelow, PutsPartOf, LeavesLines}

module _ {O : Type 0} (taken : O → Option (List ℕ)) (faults starved : O → ℕ) where
  -- ---- one member
  pub put_leaves : {T : Type 0} (old new : O) (budget k : ℕ) (line : List ℕ) (put : Result T SinkFail) → IsMemberLine budget k line
      → Puts (taken old) (taken new) put line → CountsPut (faults old) (faults new) (starved old) (starved new) put
      → LeavesLine taken faults starved old new budget k (put_outcome put)
  put_leaves old new budget k line (Ok done) is puts counts = ((line, is, puts), counts.0, counts.1)
  put_leaves old new budget k line (Err sinks.Failed) is puts counts = (counts.0, (line, is, puts))
  put_leaves old new budget k line (Err sinks.NoMemory) is puts counts = inr (counts.1, (line, is, puts))

  -- ---- all members: behind the lines of those below the k-th
  module _ (start now after : O) (last budget k : ℕ) (lines : PutsLinesBelow (taken start) (taken now) budget k)
      (same_faults : faults now ≡ faults start) (same_starved : starved now ≡ starved start) where
    pub line_leaves : LeavesLine taken faults starved now after budget k Done → PutsLinesBelow (taken start) (taken after) budget (k + 1)
    line_leaves h =
        let line = h.0.0 in
        (lines.0 ++ line, further k lines.0 line lines.1 h.0.1, Appends-trans _ _ _ lines.0 line lines.2 h.0.2)

    part_leaves : (line : List ℕ) × IsMemberLine budget k line × AppendsFront (taken now) (taken after) line
        → PutsPartOf (taken start) (taken after) budget k
    part_leaves (line, is, (front, back, parted, put)) = record {
      text = lines.0;
      front = front;
      back = back;
      lines = lines.1;
      line = subst (IsMemberLine budget k) parted is;
      put = Appends-trans _ _ _ lines.0 front lines.2 put;
    }

    left : after ≡ now → PutsLinesBelow (taken start) (taken after) budget k
    left same = subst (λ o. PutsLinesBelow (taken start) (taken o) budget k) (sym same) lines

    pub stop_leaves : (outcome : Outcome) → IsMember last k → (outcome ≡ Done → ⊥)
        → LeavesLine taken faults starved now after budget k outcome → LeavesLines taken faults starved start after last budget outcome
    stop_leaves Done member other h = absurd (other refl)
    stop_leaves (Refused refusal) member other h = (k, record { member = member; refused = h.0 }, left h.1)
    stop_leaves (Failed NoMemory) member other h = inr (
      k,
      member,
      elim h [
        | inl same ↦ inl (left same)
        | inr p ↦ inr (subst (λ n. Rose n (starved after)) same_starved p.0, part_leaves p.1)
      ],
    )
    stop_leaves (Failed WriteFault) member other h = (k, member, subst (λ n. Rose n (faults after)) same_faults h.0, part_leaves h.1)
    stop_leaves (Failed ReadFault) member other h = absurd h
    stop_leaves (Failed KeeperFault) member other h = absurd h
    stop_leaves (Failed LinkFault) member other h = absurd h
