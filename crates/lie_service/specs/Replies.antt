-- The reply that tells what a call of the desk answered.
use Rattle.std.specs.Prelude.{◌≡◌, if◌then◌else◌, Result, Ok, Err, ⊤}
use Rattle.lie_desk.specs.declared.answers.DeskFail.{DeskFail}
use Rattle.lie_desk.specs.declared.answers.DeskFail.TheVariants.{Refused, KeeperFault, NoMemory}
use Rattle.lie_desk.specs.declared.answers.Study.{Study}
use Rattle.lie_serve.specs.declared.desk.Reply.{Reply}
use Rattle.lie_serve.specs.declared.desk.Reply.TheVariants as replies
use Rattle.lie_status.specs.Outcomes.{outcome_of}
use Rattle.lie_status.specs.Status.{line_of}
use Rattle.lie_status.specs.declared.status.Status.{Status}
use Rattle.lie_status.specs.declared.status.Status.TheVariants as statuses
use Rattle.lie_work.specs.declared.outcome.Outcome.TheVariants as outcomes
use Rattle.lie_work.specs.declared.outcome.Refusal.{Refusal}

-- what the rows are the cause of has a reply of its own, and of anything else the line is told
abbrev pub status_reply : Status → Reply
status_reply statuses.Missing = replies.Missing
status_reply (statuses.Taken text) = replies.Taken
status_reply statuses.Full = replies.Full
status_reply status = replies.Refused (line_of status)

-- the reply tells the status of a refusal
abbrev pub TellsRefusal : Refusal → Reply → Type 0
TellsRefusal refusal reply = (status : Status) × (outcome_of status ≡ outcomes.Refused refusal) × (reply ≡ status_reply status)

-- the reply that tells a study
abbrev pub study_reply : Study → Reply
study_reply study = if study.is_new then replies.NewReport study.report else replies.Report study.report

-- the reply that tells why the desk gives nothing; for want of memory there is none, and a fault of the keeper needs none
abbrev pub TellsFail : {E : Type 0} → DeskFail → Result Reply E → Type 0
TellsFail (Refused refusal) (Ok reply) = TellsRefusal refusal reply
TellsFail (Refused refusal) (Err e) = ⊤
TellsFail KeeperFault (Ok reply) = reply ≡ replies.KeeperFault
TellsFail KeeperFault (Err e) = ⊥
TellsFail NoMemory (Ok reply) = ⊥
TellsFail NoMemory (Err e) = ⊤

-- the reply tells what a call answered, where it had memory
abbrev pub Tells : {X : Type 0} → (X → Reply) → Result X DeskFail → Reply → Type 0
Tells told (Ok x) reply = reply ≡ told x
Tells told (Err (Refused refusal)) reply = TellsRefusal refusal reply
Tells told (Err KeeperFault) reply = reply ≡ replies.KeeperFault
Tells told (Err NoMemory) reply = ⊥
