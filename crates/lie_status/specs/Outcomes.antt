-- How a call went whose status is told.
use Rattle.lie_status.specs.declared.status.Status.{Status}
use Rattle.lie_status.specs.declared.status.Status.TheVariants as statuses
use Rattle.lie_work.specs.declared.outcome.Outcome.{Outcome}
use Rattle.lie_work.specs.declared.outcome.Outcome.TheVariants.{Done, Refused, Failed}
use Rattle.lie_work.specs.declared.outcome.Refusal.TheVariants.{Usage, Missing, Bad, Not, Past, Spent, Taken, Full}
use Rattle.lie_work.specs.declared.outcome.Failure.TheVariants.{NoMemory, ReadFault, WriteFault, KeeperFault, LinkFault}

-- what a status tells
abbrev pub outcome_of : Status → Outcome
outcome_of statuses.Done = Done
outcome_of statuses.Usage = Refused Usage
outcome_of statuses.Missing = Refused Missing
outcome_of (statuses.Bad source bad) = Refused (Bad source bad)
outcome_of (statuses.Not kind k) = Refused (Not kind k)
outcome_of (statuses.Past step what) = Refused (Past step what)
outcome_of (statuses.Spent steps) = Refused (Spent steps)
outcome_of (statuses.Taken text) = Refused (Taken text)
outcome_of statuses.Full = Refused Full
outcome_of statuses.NoMemory = Failed NoMemory
outcome_of statuses.ReadFault = Failed ReadFault
outcome_of statuses.WriteFault = Failed WriteFault
outcome_of statuses.KeeperFault = Failed KeeperFault
outcome_of statuses.LinkFault = Failed LinkFault
