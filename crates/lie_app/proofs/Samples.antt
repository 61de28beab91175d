-- What a command leaves in the output, by its kind; and what the lines of a sample say of its outcome.
use Rattle.std.specs.Prelude.{ℕ, ◌≡◌, List, Some, None}
use Rattle.std.proofs.Common.{subst, inl}
use Rattle.std.specs.declared.option.Option.{Option}
use Rattle.lie_outer.specs.Causes.{Rose}
use Rattle.lie_outer.specs.declared.rows.Row.{Row}
use Rattle.lie_work.specs.declared.outcome.Outcome.{Outcome}
use Rattle.lie_work.specs.declared.outcome.Outcome.TheVariants.{Done, Refused, Failed}
use Rattle.lie_work.specs.declared.outcome.Failure.TheVariants.{NoMemory, ReadFault, WriteFault, KeeperFault, LinkFault}
use Rattle.lie_sample.specs.Members.{LeavesLines, IsSampleRefusal}
use Rattle.lie_app.specs.declared.words.Command.TheVariants.{OnFile, OnDesk, Sample, OnLink}
use Rattle.lie_app.specs.OnDesk.{HasRefusal}
use Rattle.lie_app.specs.Outside.{Outside}
use Rattle.lie_app.specs.Run.{LeavesOutput}
use Rattle.lie_app.specs.Words.{AnyCommand}

module _ {O : Type 0} (taken : O → Option (List ℕ)) (faults starved : O → ℕ) (old new : O) where
  -- ---- any command
  pub write_rose : (told : Outside) (left : Option (List Row)) (command : Option AnyCommand)
      → LeavesOutput taken faults starved old new told left command (Failed WriteFault) → Rose (faults old) (faults new)
  write_rose told left None h = h.0
  write_rose told left (Some (OnFile path c)) h = h.0
  write_rose told left (Some (OnDesk c)) h = h.0
  write_rose told left (Some (Sample last budget)) h = h.2
  write_rose told left (Some (OnLink address count budget)) h = h.0

  -- where the output is as it was
  pub nothing_put : (told : Outside) (left : Option (List Row)) (command : Option AnyCommand) → new ≡ old
      → LeavesOutput taken faults starved old new told left command (Failed NoMemory)
  nothing_put told left None same = inl same
  nothing_put told left (Some (OnFile path c)) same = inl same
  nothing_put told left (Some (OnDesk c)) same = inl same
  nothing_put told left (Some (Sample last budget)) same = inl same
  nothing_put told left (Some (OnLink address count budget)) same = inl same

  -- ---- a sample
  module _ (last budget : ℕ) (outcome : Outcome) (leaves : LeavesLines taken faults starved old new last budget outcome) where
    pub sample_cause : HasRefusal (IsSampleRefusal last budget) outcome
    sample_cause = go outcome leaves
      where
        go : (o : Outcome) → LeavesLines taken faults starved old new last budget o → HasRefusal (IsSampleRefusal last budget) o
        go Done h = tt
        go (Refused refusal) h = (h.0, h.1)
        go (Failed NoMemory) h = tt
        go (Failed ReadFault) h = tt
        go (Failed WriteFault) h = tt
        go (Failed KeeperFault) h = tt
        go (Failed LinkFault) h = h

    pub sample_reads_nothing : outcome ≡ Failed ReadFault → ⊥
    sample_reads_nothing e = subst (LeavesLines taken faults starved old new last budget) e leaves

    pub sample_keeps_nothing : outcome ≡ Failed KeeperFault → ⊥
    sample_keeps_nothing e = subst (LeavesLines taken faults starved old new last budget) e leaves

    pub sample_links_nothing : outcome ≡ Failed LinkFault → ⊥
    sample_links_nothing e = subst (LeavesLines taken faults starved old new last budget) e leaves
