-- What a good answer says of the body of its request.
use Rattle.std.specs.Prelude.{ℕ, ◌≡◌, ◌⊎◌, List, Option, IfSome, Ok, ⊤}
use Rattle.std.specs.Io.KnownBytes.{Appends}
use Rattle.lie_outer.specs.Link.{Line}
use Rattle.lie_outer.specs.declared.rows.Row.{Row}
use Rattle.lie_http.specs.AnswerText.{answer_text}
use Rattle.lie_http.specs.Places.{IsDestination}
use Rattle.lie_http.specs.Requests.{Answers}
use Rattle.lie_http.specs.declared.answer.Answer.{Answer}
use Rattle.lie_http.specs.declared.orders.Destination.TheVariants.{Desk}
use Rattle.lie_http.specs.declared.orders.Order.{Order}
use Rattle.lie_http.specs.declared.orders.Order.TheVariants.{Analyse, List as Names, Study, Show, Drop}
use Rattle.lie_http.specs.declared.request.Ask.{Ask}
use Rattle.lie_serve.specs.Replies.{Kept}
use Rattle.lie_serve.specs.declared.serving.Served.TheVariants.{Answered}
use Rattle.lie_work.specs.Analyse.{IsSymmetriesReport}
use Rattle.lie_desk.specs.Kept.{HasReport, AreHonest}
use Rattle.lie_service.specs.Serving.{ServesOpen}

-- the answer is a good one
abbrev pub IsGood : ℕ → Type 0
IsGood status = (status ≡ 200) ⊎ (status ≡ 201)

-- the text is the report of the body: of an analysis it is that of its symmetries, and so it is of a study, where it is new, or where the
-- rows are honest
abbrev pub IsReportTo : ℕ → ℕ → Option (List Row) → Order → List ℕ → List ℕ → Type 0
IsReportTo budget status rows Analyse body text = IsSymmetriesReport body budget text
IsReportTo budget status rows (Study name) body text =
    (status ≡ 201 → IsSymmetriesReport body budget text) × IfSome rows (λ rows. AreHonest rows → HasReport body text)
IsReportTo budget status rows Names body text = ⊤
IsReportTo budget status rows (Show name) body text = ⊤
IsReportTo budget status rows (Drop name) body text = ⊤

-- the bytes are a request for the desk, and the text that was written is the answer to it
pub record IsGoodAnswer (budget status : ℕ) (old : Kept) (line line' : Line) : Type 0 where
  pub ask : Ask
  pub order : Order
  pub answer : Answer
  pub asked : IfSome line.unread (λ bytes. Answers bytes (Ok ask))
  pub leads : IsDestination ask.method ask.path (Desk order)
  pub stated : answer.status ≡ status
  pub report : IsReportTo budget status old.rows order ask.body answer.body
  pub written : Appends line.written line'.written (answer_text answer)

-- the headline over connections
abbrev pub GoodAnswersAreReports : Type 0
GoodAnswersAreReports = (budget status : ℕ) (old new : Kept) (line line' : Line) → ServesOpen budget old new line line' (Answered status)
    → IsGood status → IsGoodAnswer budget status old line line'
