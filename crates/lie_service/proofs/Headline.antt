-- A good answer comes of a request for the desk.
use Rattle.std.specs.Prelude.{IfSome}
use Rattle.std.proofs.Common.{◌≡◌, ℕ, ◌≤◌, true, false, List, Option, refl, sym, ap}
use Rattle.std.proofs.Common.{subst, ◌∙◌, arith, Result, Ok, Err, inl, inr, Bool, if◌then◌else◌}
use Rattle.std.specs.Io.KnownBytes.{Appends}
use Rattle.lie_outer.specs.Link.{Line}
use Rattle.lie_outer.specs.declared.rows.Row.{Row}
use Rattle.lie_http.specs.AnswerText.{answer_text}
use Rattle.lie_http.specs.Requests.{Answers}
use Rattle.lie_http.specs.declared.answer.Answer.{Answer}
use Rattle.lie_http.specs.declared.orders.Destination.TheVariants.{Desk, NoSuchPath, NoSuchMethod}
use Rattle.lie_http.specs.declared.orders.Order.{Order}
use Rattle.lie_http.specs.declared.orders.Order.TheVariants as orders
use Rattle.lie_http.specs.declared.request.Ask.{Ask}
use Rattle.lie_http.specs.declared.request.HttpFault.{HttpFault}
use Rattle.lie_http.specs.declared.request.HttpFault.TheVariants.{BadHead, HeadTooLong, BodyTooLong, LengthMissing, Ended, Failed, NoMemory}
use Rattle.lie_desk.specs.declared.answers.DeskFail.{DeskFail}
use Rattle.lie_desk.specs.declared.answers.DeskFail.TheVariants as fails
use Rattle.lie_desk.specs.declared.answers.Study.{Study}
use Rattle.lie_status.specs.declared.status.Status.{Status}
use Rattle.lie_status.specs.declared.status.Status.TheVariants as statuses
use Rattle.lie_serve.specs.Replies.{Kept, answer_of, RepliesCounted}
use Rattle.lie_serve.specs.Serving.{IsDue, refusal}
use Rattle.lie_serve.specs.declared.desk.Reply.{Reply}
use Rattle.lie_serve.specs.declared.desk.Reply.TheVariants as replies
use Rattle.lie_serve.specs.declared.serving.Served.TheVariants as served
use Rattle.lie_service.specs.Orders.{RepliesTo, TellsOrder, IsStudyAnswer}
use Rattle.lie_service.specs.Replies.{status_reply, study_reply, Tells}
use Rattle.lie_service.specs.Serving.{ServesOpen}
use Rattle.lie_service.specs.Headline.{IsGood, IsReportTo, IsGoodAnswer}

-- ---- which answers are not good

not_good : (status n : ℕ) → IsGood status → status ≡ n → 400 ≤ n → ⊥
not_good status n (inl is) e le = omega arith
not_good status n (inr is) e le = omega arith

status_of : Answer → ℕ
status_of answer = answer.status

bad_refusal : (fault : HttpFault) → 400 ≤ (refusal fault).status
bad_refusal BadHead = omega arith
bad_refusal HeadTooLong = omega arith
bad_refusal BodyTooLong = omega arith
bad_refusal LengthMissing = omega arith
bad_refusal (Ended any) = omega arith
bad_refusal Failed = omega arith
bad_refusal NoMemory = omega arith

bad_status : (status : Status) → 400 ≤ (answer_of (status_reply status)).status
bad_status statuses.Done = omega arith
bad_status statuses.Usage = omega arith
bad_status (statuses.Bad source bad) = omega arith
bad_status (statuses.Not kind k) = omega arith
bad_status (statuses.Past step what) = omega arith
bad_status (statuses.Spent steps) = omega arith
bad_status statuses.NoMemory = omega arith
bad_status statuses.ReadFault = omega arith
bad_status statuses.WriteFault = omega arith
bad_status statuses.KeeperFault = omega arith
bad_status statuses.LinkFault = omega arith
bad_status statuses.Missing = omega arith
bad_status (statuses.Taken text) = omega arith
bad_status statuses.Full = omega arith

-- a reply that tells of no success has no good answer
told_badly : {X : Type 0} (told : X → Reply) (fail : DeskFail) (reply : Reply) → Tells told (Err fail) reply
    → IsGood (answer_of reply).status → ⊥
told_badly told (fails.Refused refusal) reply (status, is, same) good =
    not_good (answer_of reply).status (answer_of (status_reply status)).status good
    (ap (λ (r : Reply). (answer_of r).status) same) (bad_status status)
told_badly told fails.KeeperFault reply same good =
    not_good (answer_of reply).status 503 good (ap (λ (r : Reply). (answer_of r).status) same) (omega arith)
told_badly told fails.NoMemory reply same good = absurd same

-- ---- what the desk replied

study_report : (budget : ℕ) (held left : Option (List Row)) (name body : List ℕ) (study : Study) (is_new : Bool)
    → study.is_new ≡ is_new → IsStudyAnswer budget held left name body (Ok study)
    → IsReportTo budget (answer_of (if is_new then replies.NewReport study.report else replies.Report study.report)).status held
    (orders.Study name) body study.report
study_report budget held left name body study true is a = (λ _. a.new is, a.honest)
study_report budget held left name body study false is a = (λ e. absurd (omega arith), a.honest)

new_body : (study : Study) (is_new : Bool)
    → (answer_of (if is_new then replies.NewReport study.report else replies.Report study.report)).body ≡ study.report
new_body study true = refl
new_body study false = refl

order_report : (budget : ℕ) (held left : Option (List Row)) (order : Order) (body : List ℕ) (reply : Reply)
    → TellsOrder budget held order body reply left → IsGood (answer_of reply).status
    → IsReportTo budget (answer_of reply).status held order body (answer_of reply).body
order_report budget held left orders.Analyse body reply (Ok report, a, same) good =
    subst (λ (r : Reply). IsReportTo budget (answer_of r).status held orders.Analyse body (answer_of r).body) (sym same) a.report
order_report budget held left orders.Analyse body reply (Err fail, a, told) good = absurd (told_badly replies.Analysis fail reply told good)
order_report budget held left orders.List body reply h good = tt
order_report budget held left (orders.Study name) body reply (Ok study, a, same) good =
    subst (λ (r : Reply). IsReportTo budget (answer_of r).status held (orders.Study name) body (answer_of r).body) (sym same)
    (subst (λ (text : List ℕ). IsReportTo budget (answer_of (study_reply study)).status held (orders.Study name) body text)
    (sym (new_body study study.is_new)) (study_report budget held left name body study study.is_new refl a))
order_report budget held left (orders.Study name) body reply (Err fail, a, told) good = absurd (told_badly study_reply fail reply told good)
order_report budget held left (orders.Show name) body reply h good = tt
order_report budget held left (orders.Drop name) body reply h good = tt

-- ---- the whole

good_due : (budget status : ℕ) (old new : Kept) (line line' : Line) (read : Result Ask HttpFault) (answer : Answer)
    → IfSome line.unread (λ all. Answers all read) → IsDue (RepliesCounted (RepliesTo budget)) old new read answer → answer.status ≡ status
    → IsGood status → Appends line.written line'.written (answer_text answer) → IsGoodAnswer budget status old line line'
unfolding status_of
good_due budget status old new line line' (Err fault) answer says (refused, is, same) e good writes =
    absurd (not_good status (refusal fault).status good (sym e ∙ ap status_of is) (bad_refusal fault))
good_due budget status old new line line' (Ok ask) answer says (NoSuchPath, leads, (is, same)) e good writes =
    absurd (not_good status 404 good (sym e ∙ ap status_of is) (omega arith))
good_due budget status old new line line' (Ok ask) answer says (NoSuchMethod, leads, (is, same)) e good writes =
    absurd (not_good status 405 good (sym e ∙ ap status_of is) (omega arith))
good_due budget status old new line line' (Ok ask) answer says (Desk order, leads, (reply, ((told, honest), counts), is)) e good writes =
    let good' : IsGood (answer_of reply).status = subst IsGood (sym e ∙ ap status_of is) good in
    record {
      ask = ask;
      order = order;
      answer = answer;
      asked = says;
      leads = leads;
      stated = e;
      report = subst (λ (n : ℕ). IsReportTo budget n old.rows order ask.body answer.body) e
          (subst (λ (a : Answer). IsReportTo budget a.status old.rows order ask.body a.body) (sym is)
          (order_report budget old.rows new.rows order ask.body reply told good'));
      written = writes;
    }

pub good_answers : (budget status : ℕ) (old new : Kept) (line line' : Line) → ServesOpen budget old new line line' (served.Answered status)
    → IsGood status → IsGoodAnswer budget status old line line'
good_answers budget status old new line line' (read, between, is, (text, inl (answer, due, e, t), (writes, others))) good =
    good_due budget status old new line line' read answer is.says due (sym e) good
    (subst (λ (w : Option (List ℕ)). Appends w line'.written (answer_text answer)) (ap (λ (l : Line). l.written) is.takes.others)
    (subst (λ (s : List ℕ). Appends between.written line'.written s) t writes))
good_answers budget status old new line line' (read, between, is, (text, inr (spared, (e, t)), writes)) good =
    absurd (not_good status 500 good e (omega arith))
