-- The service: what it puts, and what it leaves of the rows and of the link.
use Rattle.std.specs.Prelude.{ℕ, ◌≤◌, List, ◌++◌, codes, decimal, Err, ⊤}
use Rattle.lie_outer.specs.Link.{Line}
use Rattle.lie_outer.specs.declared.link.LinkFail.TheVariants as links
use Rattle.lie_serve.specs.Replies.{Kept}
use Rattle.lie_service.specs.Serving.{ServesMany, ServesAll}
use Rattle.lie_work.specs.declared.outcome.Outcome.{Outcome}
use Rattle.lie_work.specs.declared.outcome.Outcome.TheVariants.{Done, Refused, Failed}
use Rattle.lie_work.specs.declared.outcome.Failure.TheVariants.{NoMemory, ReadFault, WriteFault, KeeperFault, LinkFault}

-- how many connections were served
abbrev pub served_line : ℕ → List ℕ
served_line count = codes "served " ++ decimal count ++ codes "\n"

-- it is never refused, and neither a file nor the keeper is at fault
abbrev pub HasServiceCause : Outcome → Type 0
HasServiceCause Done = ⊤
HasServiceCause (Refused refusal) = ⊥
HasServiceCause (Failed NoMemory) = ⊤
HasServiceCause (Failed ReadFault) = ⊥
HasServiceCause (Failed WriteFault) = ⊤
HasServiceCause (Failed KeeperFault) = ⊥
HasServiceCause (Failed LinkFault) = ⊤

-- all connections were served; or fewer, and then no memory was found, or listening or opening the next one failed
abbrev pub LeavesService : ℕ → ℕ → Kept → Kept → Line → Line → Outcome → Type 0
LeavesService budget count old new line line' Done = ServesMany budget old line count new line'
LeavesService budget count old new line line' (Refused refusal) = ⊥
LeavesService budget count old new line line' (Failed NoMemory) = (n : ℕ) × (n ≤ count) × ServesMany budget old line n new line'
LeavesService budget count old new line line' (Failed ReadFault) = ⊥
LeavesService budget count old new line line' (Failed WriteFault) = ServesMany budget old line count new line'
LeavesService budget count old new line line' (Failed KeeperFault) = ⊥
LeavesService budget count old new line line' (Failed LinkFault) =
    ServesAll budget {T = ⊤} count old new line line' (Err links.Failed)
