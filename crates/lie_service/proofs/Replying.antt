-- A reply that tells why the desk gives nothing, and what it says of the rows and of the count of the keeper's faults.
use Rattle.std.specs.Prelude.{ℕ, List, Option, Some, None, IfSome, Result, Ok, Err, refl}
use Rattle.std.proofs.Common.{sym, ap₂, subst, inl}
use Rattle.lie_outer.specs.declared.rows.Row.{Row}
use Rattle.lie_http.specs.declared.orders.Order.{Order}
use Rattle.lie_http.specs.declared.orders.Order.TheVariants as orders
use Rattle.lie_desk.specs.Desk.{DeskAnswers}
use Rattle.lie_desk.specs.Kept.{AreHonest}
use Rattle.lie_desk.specs.declared.answers.DeskFail.{DeskFail}
use Rattle.lie_desk.specs.declared.answers.DeskFail.TheVariants.{Refused, KeeperFault, NoMemory}
use Rattle.lie_serve.specs.Replies.{CountsReply, RepliesCounted, Obeys, kept}
use Rattle.lie_serve.specs.declared.desk.Reply.{Reply}
use Rattle.lie_status.specs.declared.status.Status.{Status}
use Rattle.lie_status.specs.declared.status.Status.TheVariants as statuses
use Rattle.lie_service.specs.Calls.{Calls}
use Rattle.lie_service.specs.Orders.{IsAnalysisAnswer, KeepsHonest, RepliesTo}
use Rattle.lie_service.specs.Replies.{status_reply, TellsFail}
use Rattle.lie_service.proofs.Leaves.{honest-refl}

-- no status is told as a fault of the keeper
counts_status : (status : Status) (n : ℕ) → CountsReply n n (status_reply status)
counts_status statuses.Done n = refl
counts_status statuses.Usage n = refl
counts_status (statuses.Bad source bad) n = refl
counts_status (statuses.Not kind k) n = refl
counts_status (statuses.Past step what) n = refl
counts_status (statuses.Spent steps) n = refl
counts_status statuses.NoMemory n = refl
counts_status statuses.ReadFault n = refl
counts_status statuses.WriteFault n = refl
counts_status statuses.KeeperFault n = refl
counts_status statuses.LinkFault n = refl
counts_status statuses.Missing n = refl
counts_status (statuses.Taken text) n = refl
counts_status statuses.Full n = refl

pub analysis_failed : {E : Type 0} (budget : ℕ) (held : Option (List Row)) (n : ℕ) (body : List ℕ) (fail : DeskFail) (result : Result Reply E)
    → IsAnalysisAnswer budget held held body (Err fail) → TellsFail fail result → Calls budget held held n n orders.Analyse body result
analysis_failed budget held n body (Refused refusal) (Ok reply) a (status, is, same) =
    (((Err (Refused refusal), a, (status, is, same)), honest-refl held), subst (CountsReply n n) (sym same) (counts_status status n))
analysis_failed budget held n body (Refused refusal) (Err e) a t = (refl, refl)
analysis_failed budget held n body KeeperFault (Ok reply) a same =
    (((Err KeeperFault, a, same), honest-refl held), subst (CountsReply n n) (sym same) (a.count n))
analysis_failed budget held n body KeeperFault (Err e) a t = absurd t
analysis_failed budget held n body NoMemory (Ok reply) a t = absurd t
analysis_failed budget held n body NoMemory (Err e) a t = (refl, refl)

-- what a call of the desk leaves is what an order leaves
pub call_obeys : {E : Type 0} (budget : ℕ) (held left : Option (List Row)) (before now : ℕ) (order : Order) (body : List ℕ) (result : Result Reply E)
    → Calls budget held left before now order body result → Obeys (RepliesCounted (RepliesTo budget)) (kept held before) (kept left now) order body result
call_obeys budget held left before now order body (Ok reply) calls = calls
call_obeys budget held left before now order body (Err e) (l, n) = inl (ap₂ kept l n)

-- rows that are told stay told
pub answers_honest : {X : Type 0} (does : X → List Row → List Row → Type 0) (held left : Option (List Row)) (answer : Result X DeskFail) → DeskAnswers does held left answer
    → IfSome held (λ rows. AreHonest rows → IfSome left AreHonest) → KeepsHonest held left
answers_honest does None left answer d h = tt
answers_honest does (Some rows) (Some rows') answer d h = h
answers_honest does (Some rows) None (Ok x) d h = λ _. d
answers_honest does (Some rows) None (Err fail) d h = absurd (cc)
