-- The lines of the members of the family: what they tell, what each outcome leaves of them in the output, and which outcome is due.
use Rattle.std.specs.Prelude.{ℕ, ◌≡◌, ◌≤◌, ◌<◌, ◌+◌, ◌⊎◌, List, [], ◌++◌, Option}
use Rattle.std.specs.Io.KnownBytes.{Appends}
use Rattle.lie_outer.specs.Causes.{Rose}
use Rattle.lie_outer.specs.Sink.{AppendsFront}
use Rattle.lie_work.specs.Analyse.{IsSymmetriesReport, IsAnalyseRefusal, IsAnalyseDue}
use Rattle.lie_work.specs.declared.outcome.Outcome.{Outcome}
use Rattle.lie_work.specs.declared.outcome.Outcome.TheVariants.{Done, Refused, Failed}
use Rattle.lie_work.specs.declared.outcome.Refusal.{Refusal}
use Rattle.lie_work.specs.declared.outcome.Failure.TheVariants.{NoMemory, ReadFault, WriteFault, KeeperFault, LinkFault}
use Rattle.lie_sample.specs.Family.{family_file, least_member}
use Rattle.lie_sample.specs.Numbers.{numbers_line}

-- the line tells the numbers of the report of the symmetries of the k-th member, by a run within the budget
pub record IsMemberLine (budget k : ℕ) (line : List ℕ) : Type 0 where
  pub report : List ℕ
  pub made : IsSymmetriesReport (family_file k) budget report
  pub printed : line ≡ numbers_line k made.told made.found

-- the text has the line of each member below the n-th, in order
pub data AreLinesBelow (budget : ℕ) : ℕ → List ℕ → Type 0 where
  no_line : AreLinesBelow budget least_member []
  further : (k : ℕ) (text line : List ℕ) → AreLinesBelow budget k text → IsMemberLine budget k line
      → AreLinesBelow budget (k + 1) (text ++ line)

-- the number is that of a member up to the last
abbrev pub IsMember : ℕ → ℕ → Type 0
IsMember last k = (least_member ≤ k) × (k ≤ last)

-- ---- one member
-- what each outcome leaves of its line in the output
abbrev pub LeavesLine : {O : Type 0} → (O → Option (List ℕ)) → (O → ℕ) → (O → ℕ) → O → O → ℕ → ℕ → Outcome → Type 0
LeavesLine taken faults starved old new budget k Done =
    ((line : List ℕ) × IsMemberLine budget k line × Appends (taken old) (taken new) line)
    × (faults new ≡ faults old) × (starved new ≡ starved old)
LeavesLine taken faults starved old new budget k (Refused refusal) = IsAnalyseRefusal (family_file k) budget refusal × (new ≡ old)
LeavesLine taken faults starved old new budget k (Failed NoMemory) =
    (new ≡ old)
    ⊎ (Rose (starved old) (starved new) × ((line : List ℕ) × IsMemberLine budget k line × AppendsFront (taken old) (taken new) line))
LeavesLine taken faults starved old new budget k (Failed WriteFault) =
    Rose (faults old) (faults new) × ((line : List ℕ) × IsMemberLine budget k line × AppendsFront (taken old) (taken new) line)
LeavesLine taken faults starved old new budget k (Failed ReadFault) = ⊥
LeavesLine taken faults starved old new budget k (Failed KeeperFault) = ⊥
LeavesLine taken faults starved old new budget k (Failed LinkFault) = ⊥

-- ---- all members up to the last
-- the lines of all lesser members were put
abbrev pub PutsLinesBelow : Option (List ℕ) → Option (List ℕ) → ℕ → ℕ → Type 0
PutsLinesBelow old new budget k = (text : List ℕ) × AreLinesBelow budget k text × Appends old new text

-- the lines of all lesser members were put, and a part from the front of that of the k-th
pub record PutsPartOf (old new : Option (List ℕ)) (budget k : ℕ) : Type 0 where
  pub text : List ℕ
  pub front : List ℕ
  pub back : List ℕ
  pub lines : AreLinesBelow budget k text
  pub line : IsMemberLine budget k (front ++ back)
  pub put : Appends old new (text ++ front)

-- a member up to the last is refused for this cause
pub record IsMemberRefusal (last budget k : ℕ) (refusal : Refusal) : Type 0 where
  pub member : IsMember last k
  pub refused : IsAnalyseRefusal (family_file k) budget refusal

abbrev pub IsSampleRefusal : ℕ → ℕ → Refusal → Type 0
IsSampleRefusal last budget refusal = (k : ℕ) × IsMemberRefusal last budget k refusal

-- what each outcome leaves of the lines in the output
abbrev pub LeavesLines : {O : Type 0} → (O → Option (List ℕ)) → (O → ℕ) → (O → ℕ) → O → O → ℕ → ℕ → Outcome → Type 0
LeavesLines taken faults starved old new last budget Done = PutsLinesBelow (taken old) (taken new) budget (last + 1)
LeavesLines taken faults starved old new last budget (Refused refusal) =
    (k : ℕ) × IsMemberRefusal last budget k refusal × PutsLinesBelow (taken old) (taken new) budget k
LeavesLines taken faults starved old new last budget (Failed NoMemory) =
    (new ≡ old)
    ⊎ ((k : ℕ) × IsMember last k
    × (PutsLinesBelow (taken old) (taken new) budget k
    ⊎ (Rose (starved old) (starved new) × PutsPartOf (taken old) (taken new) budget k)))
LeavesLines taken faults starved old new last budget (Failed WriteFault) =
    (k : ℕ) × IsMember last k × Rose (faults old) (faults new) × PutsPartOf (taken old) (taken new) budget k
LeavesLines taken faults starved old new last budget (Failed ReadFault) = ⊥
LeavesLines taken faults starved old new last budget (Failed KeeperFault) = ⊥
LeavesLines taken faults starved old new last budget (Failed LinkFault) = ⊥

-- ---- which outcome is due
-- the lines of all lesser members are due
abbrev pub AreDueBelow : ℕ → ℕ → Type 0
AreDueBelow budget k = (j : ℕ) → least_member ≤ j → j < k → IsAnalyseDue (family_file j) budget Done

-- the first refusal, or all lines
pub data IsSampleDue (last budget : ℕ) : Outcome → Type 0 where
  due_refused : (k : ℕ) (refusal : Refusal) → IsMember last k → AreDueBelow budget k
      → IsAnalyseDue (family_file k) budget (Refused refusal) → IsSampleDue last budget (Refused refusal)
  due_lines : AreDueBelow budget (last + 1) → IsSampleDue last budget Done

-- there is one
abbrev pub SomeSampleIsDue : Type 0
SomeSampleIsDue = (last budget : ℕ) → ¬ ((due : Outcome) → ¬ (IsSampleDue last budget due))
