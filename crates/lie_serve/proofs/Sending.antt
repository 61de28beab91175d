-- What was read, what is due to it, and what is left once it was to be written.
use Rattle.std.specs.Prelude.{IfSome, ⊤, ◌≢◌}
use Rattle.std.proofs.Common.{◌≡◌, ℕ, ◌+◌, ◌-◌, ◌^◌, ◌<◌, ◌≤◌, ◌⊎◌, min, true, false, List, [], refl, sym, ap, subst, ◌∙◌, arith}
use Rattle.std.proofs.Common.{Result, Ok, Err, Option, inl, inr}
use Rattle.lie_outer.specs.declared.rows.Row.{Row}
use Rattle.std.proofs.KnownBytes.{Appends-nil}
use Rattle.lie_outer.specs.Link.{Line, Writes, starving, faulted}
use Rattle.lie_outer.specs.declared.link.LinkFail.TheVariants as links
use Rattle.lie_http.specs.declared.request.Ask.{Ask}
use Rattle.lie_http.specs.declared.request.HttpFault.{HttpFault}
use Rattle.lie_http.specs.declared.request.HttpFault.TheVariants.{BadHead, HeadTooLong, BodyTooLong, LengthMissing, Ended, Failed, NoMemory}
use Rattle.lie_http.specs.declared.answer.Answer.{Answer}
use Rattle.lie_http.specs.Requests.{Answers}
use Rattle.lie_http.specs.Reading.{Takes, Spends}
use Rattle.lie_http.specs.AnswerText.{WritesAnswer}
use Rattle.lie_http.specs.declared.orders.Order.{Order}
use Rattle.lie_http.specs.declared.orders.Destination.{Destination}
use Rattle.lie_http.specs.declared.orders.Destination.TheVariants.{Desk, NoSuchPath, NoSuchMethod}
use Rattle.lie_serve.specs.declared.desk.Reply.{Reply}
use Rattle.lie_serve.specs.declared.desk.Reply.TheVariants as replied
use Rattle.lie_serve.specs.Replies.{Kept, answer_of, CountsReply, RepliesCounted}
use Rattle.lie_outer.specs.Causes.{RoseByOne}
use Rattle.lie_serve.specs.declared.serving.Served.{Served}
use Rattle.lie_serve.specs.declared.serving.Served.TheVariants as served
use Rattle.lie_serve.specs.Serving.{IsDue, IsFixed, IsAnswerText, IsTextOf, Sends, HasRisen, Refuses, refusal, IsRefused, IsDueAt}
use Rattle.lie_serve.specs.Serving.{IsSparedAt, IsDueTo, IsSparedOf, Decides, IsRead, IsDueText, Replies, Serves}

-- ---- counts

same_at_end : (n : ℕ) → n ≡ 2 ^ 64 - 1 → n ≡ min (n + 1) (2 ^ 64 - 1)
same_at_end n e = omega arith

not_risen : (n m : ℕ) → m ≡ min (n + 1) (2 ^ 64 - 1) → m ≤ n → m ≢ 2 ^ 64 - 1 → ⊥
not_risen n m e le ne = omega arith

at_end : (n m : ℕ) → n ≡ m → (n < m) ⊎ (m ≡ 2 ^ 64 - 1) → n ≡ 2 ^ 64 - 1
at_end n m e (inl lt) = absurd (omega arith)
at_end n m e (inr is) = e ∙ is

-- the link found no memory, as its count shows
pub starved_end : (old new : Line) (text : List ℕ) → WritesAnswer {T = ⊤} old new text (Err links.NoMemory)
    → HasRisen old.counts.starved new.counts.starved true
    → Writes {T = ⊤} old new text (Err links.NoMemory)
starved_end old new text (inr h) rose = h
starved_end old new text (inl same) rose =
    let last = at_end old.counts.starved new.counts.starved (ap (λ (l : Line). l.counts.starved) (sym same)) rose in
    let kept : old ≡ starving old = λ i. record old { counts = record (old.counts) { starved = same_at_end old.counts.starved last i } } in
    subst (λ (l : Line). Writes {T = ⊤} old l text (Err links.NoMemory)) (sym same) (([], text, refl, Appends-nil old.written), kept)

-- the service found no memory, as the link's count shows
pub not_starved : (old new : Line) (text : List ℕ) → WritesAnswer {T = ⊤} old new text (Err links.NoMemory)
    → HasRisen old.counts.starved new.counts.starved false → new ≡ old
not_starved old new text (inl same) kept = same
not_starved old new text (inr (front, others)) (le, ne) = absurd (not_risen old.counts.starved new.counts.starved (ap (λ
    (l : Line). l.counts.starved) others) le ne)

-- ---- texts

pub sends-weaken : (old new : Line) (P Q : ℕ → List ℕ → Type 0) → ((status : ℕ) (text : List ℕ) → P status text → Q status text)
    → (result : Served) → Sends old new P result → Sends old new Q result
sends-weaken old new P Q f (served.Answered status) (text, is, writes) = (text, f status text is, writes)
sends-weaken old new P Q f served.Ended h = h
sends-weaken old new P Q f served.LinkFailed (status, text, is, writes) = (status, text, f status text is, writes)
sends-weaken old new P Q f served.LinkNoMemory (status, text, is, writes) = (status, text, f status text is, writes)

-- the answer for want of memory, after nothing was written
pub sends_fixed : (old between new : Line) (answer : Answer) (result : Served) → between ≡ old → Sends between new IsFixed result
    → Sends old new (IsAnswerText answer) result
sends_fixed old between new answer result same h =
    subst (λ (l : Line). Sends l new (IsAnswerText answer) result) same (sends-weaken between new IsFixed (IsAnswerText answer)
    (λ status text fixed. inr fixed) result h)

-- ---- the whole

module _ {D : Type 0} (replies : D → Order → List ℕ → Reply → D → Type 0) where
  due_at_spares : (old new : D) (to : Destination) (body : List ℕ) (answer : Answer) → IsDueAt replies old new to body answer
      → IsSparedAt replies old new to body
  due_at_spares old new (Desk order) body answer (reply, replied, is) = inr (reply, replied)
  due_at_spares old new NoSuchPath body answer due = due.1
  due_at_spares old new NoSuchMethod body answer due = due.1

  due_spares : (old new : D) (ask : Ask) (answer : Answer) → IsDueTo replies old new ask answer → IsSparedOf replies old new ask
  due_spares old new ask answer (to, leads, due) = inr (to, leads, due_at_spares old new to ask.body answer due)

  decided_text : {E : Type 0} (old new : D) (ask : Ask) (made : Result Answer E) → Decides replies old new ask made
      → (status : ℕ) (text : List ℕ) → IsTextOf made status text → IsDueText replies old new (Ok ask) status text
  decided_text old new ask (Ok answer) due status text (inl (s, t)) = inl (answer, due, s, t)
  decided_text old new ask (Ok answer) due status text (inr fixed) = inr (due_spares old new ask answer due, fixed)
  decided_text old new ask (Err e) spared status text fixed = inr (spared, fixed)

  refused_text : (old : D) (fault : HttpFault) → IsRefused fault → (status : ℕ) (text : List ℕ)
      → IsAnswerText (refusal fault) status text → IsDueText replies old old (Err fault) status text
  refused_text old fault refused status text (inl (s, t)) = inl (refusal fault, (refused, refl, refl), s, t)
  refused_text old fault refused status text (inr fixed) = inr (refl, fixed)

  serves : (old new : D) (line between line' : Line) (read : Result Ask HttpFault) (result : Served) → IsRead line between read
      → Sends between line' (IsDueText replies old new read) result → Serves replies old new line line' result
  serves old new line between line' read (served.Answered status) is sends = (read, between, is, sends)
  serves old new line between line' read served.Ended is sends = absurd sends
  serves old new line between line' read served.LinkFailed is sends = inr (read, between, is, sends)
  serves old new line between line' read served.LinkNoMemory is sends = (read, between, is, sends)

  -- a request was read
  pub asked_serves : {E : Type 0} (old new : D) (line between line' : Line) (ask : Ask) (made : Result Answer E) (result : Served)
      → Spends {T = Ask} line between (Ok ask) → IfSome line.unread (λ all. Answers all (Ok ask)) → Decides replies old new ask made
      → Sends between line' (IsTextOf made) result → Serves replies old new line line' result
  asked_serves old new line between line' ask made result (bytes, takes) says decides sends =
      serves old new line between line' (Ok ask) result (record { bytes = bytes; takes = takes; says = says })
      (sends-weaken between line' (IsTextOf made) (IsDueText replies old new (Ok ask))
      (decided_text old new ask made decides) result sends)

  refused : (old : D) (line between line' : Line) (fault : HttpFault) (result : Served) → IsRefused fault → IsRead line between (Err fault)
      → Sends between line' (IsAnswerText (refusal fault)) result → Serves replies old old line line' result
  refused old line between line' fault result is_refused is sends =
      serves old old line between line' (Err fault) result is
      (sends-weaken between line' (IsAnswerText (refusal fault)) (IsDueText replies old old (Err fault))
      (refused_text old fault is_refused) result sends)

  -- a fault was read
  pub fault_serves : (old : D) (line between line' : Line) (fault : HttpFault) (result : Served)
      → Spends {T = Ask} line between (Err fault) → IfSome line.unread (λ all. Answers all (Err fault))
      → Refuses between line' fault result → Serves replies old old line line' result
  fault_serves old line between line' BadHead result (bytes, takes) says h = refused old line between line' BadHead result tt
      (record { bytes = bytes; takes = takes; says = says }) h
  fault_serves old line between line' HeadTooLong result (bytes, takes) says h = refused old line between line' HeadTooLong result tt
      (record { bytes = bytes; takes = takes; says = says }) h
  fault_serves old line between line' BodyTooLong result (bytes, takes) says h = refused old line between line' BodyTooLong result tt
      (record { bytes = bytes; takes = takes; says = says }) h
  fault_serves old line between line' LengthMissing result
      (bytes, takes) says h = refused old line between line' LengthMissing result tt
      (record { bytes = bytes; takes = takes; says = says }) h
  fault_serves old line between line' (Ended true) result (bytes, takes) says h = refused old line between line' (Ended true) result tt
      (record { bytes = bytes; takes = takes; says = says }) h
  fault_serves old line between line' (Ended false) result (bytes, takes) says (is, same) =
      subst (Serves replies old old line line') (sym is)
      (refl, subst (λ (l : Line). IsRead line l (Err (Ended false))) (sym same) (record { bytes = bytes; takes = takes; says = says }))
  fault_serves old line between line' Failed result (bytes, takes) says (is, same) =
      subst (Serves replies old old line line') (sym is)
      (inl (refl, (bytes, subst (λ (l : Line). Takes (faulted line) l bytes) (sym same) takes)))
  fault_serves old line between line' NoMemory result (bytes, takes) says h =
      serves old old line between line' (Err NoMemory) result (record { bytes = bytes; takes = takes; says = says })
      (sends-weaken between line' IsFixed (IsDueText replies old old (Err NoMemory)) (λ status text fixed. inr
      (refl, fixed)) result h)

-- ---- the connection stays open

sends_open : (old new : Line) (P : ℕ → List ℕ → Type 0) (result : Served) → Sends old new P result → new.is_open ≡ old.is_open
sends_open old new P (served.Answered status) (text, is, writes) = ap (λ (l : Line). l.is_open) writes.1
sends_open old new P served.Ended h = absurd h
sends_open old new P served.LinkFailed (status, text, is, writes) = ap (λ (l : Line). l.is_open) writes.1
sends_open old new P served.LinkNoMemory (status, text, is, writes) = ap (λ (l : Line). l.is_open) writes.1

module _ {D : Type 0} (replies : D → Order → List ℕ → Reply → D → Type 0) where
  replies_open : (old new : D) (line line' : Line) (result : Served) → Replies replies old new line line' result
      → line'.is_open ≡ line.is_open
  replies_open old new line line' result (read, between, is, sends) =
      sends_open between line' (IsDueText replies old new read) result sends ∙ ap (λ (l : Line). l.is_open) is.takes.others

  pub serves_open : (old new : D) (line line' : Line) (result : Served) → Serves replies old new line line' result
      → line'.is_open ≡ line.is_open
  serves_open old new line line' (served.Answered status) h = replies_open old new line line' (served.Answered status) h
  serves_open old new line line' served.Ended (same, is) = ap (λ (l : Line). l.is_open) is.takes.others
  serves_open old new line line' served.LinkFailed (inl (same, (bytes, takes))) = ap (λ (l : Line). l.is_open) takes.others
  serves_open old new line line' served.LinkFailed (inr h) = replies_open old new line line' served.LinkFailed h
  serves_open old new line line' served.LinkNoMemory h = replies_open old new line line' served.LinkNoMemory h

-- ---- the status of a keeper's fault

reply_status : (reply : Reply) → 503 ≡ (answer_of reply).status → (before now : ℕ) → CountsReply before now reply → RoseByOne before now
reply_status (replied.Analysis report) e before now counts = absurd (omega arith)
reply_status (replied.Report text) e before now counts = absurd (omega arith)
reply_status (replied.NewReport text) e before now counts = absurd (omega arith)
reply_status (replied.Names names) e before now counts = absurd (omega arith)
reply_status (replied.Dropped name) e before now counts = absurd (omega arith)
reply_status replied.Missing e before now counts = absurd (omega arith)
reply_status replied.Taken e before now counts = absurd (omega arith)
reply_status (replied.Refused line) e before now counts = absurd (omega arith)
reply_status replied.Full e before now counts = absurd (omega arith)
reply_status replied.KeeperFault e before now counts = counts

refusal_status : (fault : HttpFault) → 503 ≡ (refusal fault).status → ⊥
refusal_status BadHead e = omega arith
refusal_status HeadTooLong e = omega arith
refusal_status BodyTooLong e = omega arith
refusal_status LengthMissing e = omega arith
refusal_status (Ended any) e = omega arith
refusal_status Failed e = omega arith
refusal_status NoMemory e = omega arith

status_of : Answer → ℕ
status_of answer = answer.status

other_status : (status : ℕ) → status < 500 ⊎ (status ≡ 500) → 503 ≡ status → ⊥
other_status status (inl below) e = omega arith
other_status status (inr is) e = omega arith

module _ (replies : Option (List Row) → Order → List ℕ → Reply → Option (List Row) → Type 0) where
  due_at_status : (old new : Kept) (to : Destination) (body : List ℕ) (answer : Answer)
      → IsDueAt (RepliesCounted replies) old new to body answer → 503 ≡ answer.status
      → RoseByOne old.faults new.faults
  unfolding status_of
  due_at_status old new (Desk order) body answer (reply, (replied_so, counts), is) e =
      reply_status reply (e ∙ ap status_of is) old.faults new.faults counts
  due_at_status old new NoSuchPath body answer (is, same) e = absurd (other_status 404 (inl (omega arith)) (e ∙ ap status_of is))
  due_at_status old new NoSuchMethod body answer (is, same) e = absurd (other_status 405 (inl (omega arith)) (e ∙ ap status_of is))

  due_status : (old new : Kept) (read : Result Ask HttpFault) (answer : Answer)
      → IsDue (RepliesCounted replies) old new read answer → 503 ≡ answer.status
      → RoseByOne old.faults new.faults
  unfolding status_of
  due_status old new (Ok ask) answer (to, leads, due) e = due_at_status old new to ask.body answer due e
  due_status old new (Err fault) answer (refused, is, same) e = absurd (refusal_status fault (e ∙ ap status_of is))

  -- an answer 503 tells a fault of the keeper
  pub keeper_told : (old new : Kept) (line line' : Line)
      → Serves (RepliesCounted replies) old new line line' (served.Answered 503)
      → RoseByOne old.faults new.faults
  keeper_told old new line line' (read, between, is, (text, inl (answer, due, e, t), writes)) = due_status old new read answer due e
  keeper_told old new line line' (read, between, is, (text, inr (spared, (e, t)), writes)) = absurd (other_status 500 (inr refl) e)
