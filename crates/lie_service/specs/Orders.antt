-- What the desk of a service replies to each order, and what becomes of its rows: the calls of the desk, each with the reply that tells it.
use Rattle.std.specs.Prelude.{ℕ, ◌≡◌, List, Vec, Option, Some, IfSome, IsSomeAnd, Result, IfOk, ⊤}
use Rattle.std.specs.declared.alloc.Global.{Global}
use Rattle.lie_outer.specs.declared.rows.Row.{Row}
use Rattle.lie_http.specs.declared.orders.Order.{Order}
use Rattle.lie_http.specs.declared.orders.Order.TheVariants as orders
use Rattle.lie_serve.specs.declared.desk.Reply.{Reply}
use Rattle.lie_serve.specs.declared.desk.Reply.TheVariants as replies
use Rattle.lie_work.specs.Analyse.{IsSymmetriesReport, IsAnalyseRefusal, IsAnalyseDue}
use Rattle.lie_work.specs.declared.outcome.Outcome.{Outcome}
use Rattle.lie_desk.specs.Desk.{DeskAnswers, CountsDesk, HasDeskCause, StudiesFile, IsNewReport, IsStudyRefusal}
use Rattle.lie_desk.specs.Desk.{ListsNames, ShowsReport, DropsStudy}
use Rattle.lie_desk.specs.Desk.{IsNameRefusal, IsNoRefusal}
use Rattle.lie_desk.specs.Due.{IsStudyDue, IsNameDue, IsGiven}
use Rattle.lie_desk.specs.Kept.{HasReport, AreHonest}
use Rattle.lie_desk.specs.declared.answers.DeskFail.{DeskFail}
use Rattle.lie_desk.specs.declared.answers.Study.{Study}
use Rattle.lie_service.specs.Replies.{study_reply, Tells}

-- ---- what a call answers
-- an analysis of the body: the report of its symmetries, or why there is none; the rows stay, and no call of the keeper fails
pub record IsAnalysisAnswer (budget : ℕ) (held left : Option (List Row)) (body : List ℕ)
    (answer : Result (Vec ℕ Global) DeskFail) : Type 0 where
  pub rows : left ≡ held
  pub report : IfOk answer (λ report. IsSymmetriesReport body budget report.items)
  pub cause : HasDeskCause (IsAnalyseRefusal body budget) answer
  pub count : (faults : ℕ) → CountsDesk faults faults answer
  pub due : (due : Outcome) → IsAnalyseDue body budget due → IsGiven due answer

-- a study of the body under a name: its report, which is that of its symmetries where it is new, and over honest rows also where it was
-- kept
pub record IsStudyAnswer (budget : ℕ) (held left : Option (List Row)) (name body : List ℕ) (answer : Result Study DeskFail) : Type 0 where
  pub rows : DeskAnswers (StudiesFile name body budget) held left answer
  pub cause : HasDeskCause (IsStudyRefusal name body budget held) answer
  pub new : IsNewReport body budget answer
  pub honest : IfSome held (λ rows. AreHonest rows → IfOk answer (λ study. HasReport body study.report))
  pub due : (rows : List Row) (due : Outcome) → held ≡ Some rows → IsStudyDue name body budget rows due → IsGiven due answer

-- the names of all rows
pub record IsListAnswer (held left : Option (List Row)) (answer : Result (Vec (List ℕ) Global) DeskFail) : Type 0 where
  pub rows : DeskAnswers ListsNames held left answer
  pub cause : HasDeskCause IsNoRefusal answer

-- a call on a kept name
pub record IsNameAnswer {X : Type 0} (does : X → List Row → List Row → Type 0) (held left : Option (List Row)) (name : List ℕ)
    (answer : Result X DeskFail) : Type 0 where
  pub rows : DeskAnswers does held left answer
  pub cause : HasDeskCause (IsNameRefusal name held) answer
  pub due : (rows : List Row) (due : Outcome) → held ≡ Some rows → IsNameDue name rows due → IsGiven due answer

-- ---- the replies
-- honest rows stay told, and honest
abbrev pub KeepsHonest : Option (List Row) → Option (List Row) → Type 0
KeepsHonest held left = IfSome held (λ rows. AreHonest rows → IsSomeAnd left AreHonest)

-- the reply tells what the call answered
abbrev pub TellsOrder : ℕ → Option (List Row) → Order → List ℕ → Reply → Option (List Row) → Type 0
TellsOrder budget held orders.Analyse body reply left =
    (answer : Result (Vec ℕ Global) DeskFail) × IsAnalysisAnswer budget held left body answer × Tells replies.Analysis answer reply
TellsOrder budget held orders.List body reply left =
    (answer : Result (Vec (List ℕ) Global) DeskFail) × IsListAnswer held left answer × Tells replies.Names answer reply
TellsOrder budget held (orders.Study name) body reply left =
    (answer : Result Study DeskFail) × IsStudyAnswer budget held left name body answer × Tells study_reply answer reply
TellsOrder budget held (orders.Show name) body reply left =
    (answer : Result (List ℕ) DeskFail) × IsNameAnswer (ShowsReport name) held left name answer × Tells replies.Report answer reply
TellsOrder budget held (orders.Drop name) body reply left =
    (answer : Result ⊤ DeskFail) × IsNameAnswer (DropsStudy name) held left name answer × Tells (λ done. replies.Dropped name) answer reply

-- the same, and honest rows stay honest
abbrev pub RepliesTo : ℕ → Option (List Row) → Order → List ℕ → Reply → Option (List Row) → Type 0
RepliesTo budget held order body reply left = TellsOrder budget held order body reply left × KeepsHonest held left
