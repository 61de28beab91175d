-- What serving a connection leaves of the desk and of the link.
use Rattle.std.specs.Prelude.{ℕ, ◌≡◌, ◌≢◌, ◌<◌, ◌≤◌, ◌-◌, ◌^◌, ◌⊎◌, Bool, true, false, List, codes, Result, Ok, Err, IfSome, ⊤}
use Rattle.lie_outer.specs.Link.{Line, Writes, faulted}
use Rattle.lie_outer.specs.declared.link.LinkFail.TheVariants as links
use Rattle.lie_http.specs.declared.request.Ask.{Ask}
use Rattle.lie_http.specs.declared.request.HttpFault.{HttpFault}
use Rattle.lie_http.specs.declared.request.HttpFault.TheVariants.{BadHead, HeadTooLong, BodyTooLong, LengthMissing, Ended, Failed, NoMemory}
use Rattle.lie_http.specs.declared.answer.Answer.{Answer}
use Rattle.lie_http.specs.Requests.{Answers}
use Rattle.lie_http.specs.Reading.{Takes}
use Rattle.lie_http.specs.AnswerText.{answer_text, no_memory_text}
use Rattle.lie_http.specs.declared.orders.Order.{Order}
use Rattle.lie_http.specs.declared.orders.Destination.{Destination}
use Rattle.lie_http.specs.declared.orders.Destination.TheVariants.{Desk, NoSuchPath, NoSuchMethod}
use Rattle.lie_http.specs.Places.{IsDestination}
use Rattle.lie_serve.specs.declared.desk.Reply.{Reply}
use Rattle.lie_serve.specs.declared.serving.Served.{Served}
use Rattle.lie_serve.specs.declared.serving.Served.TheVariants as served
use Rattle.lie_serve.specs.Replies.{plain, answer_of}

-- ---- answers without the desk

-- the answer to what is no request
abbrev pub refusal : HttpFault → Answer
refusal BadHead = plain 400 (codes "lie: bad request\n")
refusal HeadTooLong = plain 431 (codes "lie: head too long\n")
refusal BodyTooLong = plain 413 (codes "lie: body too long\n")
refusal LengthMissing = plain 400 (codes "lie: no length\n")
refusal (Ended any) = plain 400 (codes "lie: bad request\n")
refusal Failed = plain 400 (codes "lie: bad request\n")
refusal NoMemory = plain 400 (codes "lie: bad request\n")

-- the fault is answered
abbrev pub IsRefused : HttpFault → Type 0
IsRefused BadHead = ⊤
IsRefused HeadTooLong = ⊤
IsRefused BodyTooLong = ⊤
IsRefused LengthMissing = ⊤
IsRefused (Ended false) = ⊥
IsRefused (Ended true) = ⊤
IsRefused Failed = ⊥
IsRefused NoMemory = ⊥

-- ---- the desk

module _ {D : Type 0} (replies : D → Order → List ℕ → Reply → D → Type 0) where
  -- a reply was given
  abbrev pub Replied : D → D → Order → List ℕ → Type 0
  Replied old new order body = (reply : Reply) × replies old order body reply new

  -- the answer at a destination, and the desk after it
  abbrev pub IsDueAt : D → D → Destination → List ℕ → Answer → Type 0
  IsDueAt old new (Desk order) body answer = (reply : Reply) × replies old order body reply new × (answer ≡ answer_of reply)
  IsDueAt old new NoSuchPath body answer = (answer ≡ plain 404 (codes "lie: no such path\n")) × (new ≡ old)
  IsDueAt old new NoSuchMethod body answer = (answer ≡ plain 405 (codes "lie: no such method\n")) × (new ≡ old)

  -- want of memory at a destination: the desk is as before, or as after the order
  abbrev pub IsSparedAt : D → D → Destination → List ℕ → Type 0
  IsSparedAt old new (Desk order) body = (new ≡ old) ⊎ Replied old new order body
  IsSparedAt old new NoSuchPath body = new ≡ old
  IsSparedAt old new NoSuchMethod body = new ≡ old

  -- what is made of an order
  abbrev pub AnswersOrder : {E : Type 0} → D → D → Order → List ℕ → Result Answer E → Type 0
  AnswersOrder old new order body (Ok answer) = IsDueAt old new (Desk order) body answer
  AnswersOrder old new order body (Err e) = IsSparedAt old new (Desk order) body

  -- the answer that is due to a request
  abbrev pub IsDueTo : D → D → Ask → Answer → Type 0
  IsDueTo old new ask answer = (to : Destination) × IsDestination ask.method ask.path to × IsDueAt old new to ask.body answer

  -- want of memory for a request, maybe before it was seen where it leads
  abbrev pub IsSparedOf : D → D → Ask → Type 0
  IsSparedOf old new ask = (new ≡ old) ⊎ ((to : Destination) × IsDestination ask.method ask.path to × IsSparedAt old new to ask.body)

  -- what is made of a request
  abbrev pub Decides : {E : Type 0} → D → D → Ask → Result Answer E → Type 0
  Decides old new ask (Ok answer) = IsDueTo old new ask answer
  Decides old new ask (Err e) = IsSparedOf old new ask

  -- the answer that is due to what was read, and the desk after it
  abbrev pub IsDue : D → D → Result Ask HttpFault → Answer → Type 0
  IsDue old new (Ok ask) answer = IsDueTo old new ask answer
  IsDue old new (Err fault) answer = IsRefused fault × (answer ≡ refusal fault) × (new ≡ old)

  -- want of memory, at whatever was read
  abbrev pub IsSpared : D → D → Result Ask HttpFault → Type 0
  IsSpared old new (Ok ask) = IsSparedOf old new ask
  IsSpared old new (Err fault) = new ≡ old

-- ---- the answer on the link

-- the answer for want of memory
abbrev pub IsFixed : ℕ → List ℕ → Type 0
IsFixed status text = (status ≡ 500) × (text ≡ no_memory_text)

-- the text is that of the answer, or that for want of memory
abbrev pub IsAnswerText : Answer → ℕ → List ℕ → Type 0
IsAnswerText answer status text = ((status ≡ answer.status) × (text ≡ answer_text answer)) ⊎ IsFixed status text

-- the same where there may be no answer for want of memory
abbrev pub IsTextOf : {E : Type 0} → Result Answer E → ℕ → List ℕ → Type 0
IsTextOf (Ok answer) status text = IsAnswerText answer status text
IsTextOf (Err e) status text = IsFixed status text

-- what is left of the link once a text with this property was to be written
abbrev pub Sends : Line → Line → (ℕ → List ℕ → Type 0) → Served → Type 0
Sends old new IsText (served.Answered status) = (text : List ℕ) × IsText status text × Writes {T = ⊤} old new text (Ok tt)
Sends old new IsText served.Ended = ⊥
Sends old new IsText served.LinkFailed = (status : ℕ) × (text : List ℕ) × IsText status text
    × Writes {T = ⊤} old new text (Err links.Failed)
Sends old new IsText served.LinkNoMemory = (status : ℕ) × (text : List ℕ) × IsText status text
    × Writes {T = ⊤} old new text (Err links.NoMemory)

-- whether a count has risen, or stands at the end of its type
abbrev pub HasRisen : ℕ → ℕ → Bool → Type 0
HasRisen before now true = (before < now) ⊎ (now ≡ 2 ^ 64 - 1)
HasRisen before now false = (now ≤ before) × (now ≢ 2 ^ 64 - 1)

-- what a fault of reading makes of the link
abbrev pub Refuses : Line → Line → HttpFault → Served → Type 0
Refuses old new Failed result = (result ≡ served.LinkFailed) × (new ≡ old)
Refuses old new (Ended false) result = (result ≡ served.Ended) × (new ≡ old)
Refuses old new NoMemory result = Sends old new IsFixed result
Refuses old new (Ended true) result = Sends old new (IsAnswerText (refusal (Ended true))) result
Refuses old new BadHead result = Sends old new (IsAnswerText (refusal BadHead)) result
Refuses old new HeadTooLong result = Sends old new (IsAnswerText (refusal HeadTooLong)) result
Refuses old new BodyTooLong result = Sends old new (IsAnswerText (refusal BodyTooLong)) result
Refuses old new LengthMissing result = Sends old new (IsAnswerText (refusal LengthMissing)) result

-- ---- the whole

-- this was read, and it is what the bytes are where they are told
pub record IsRead (old new : Line) (read : Result Ask HttpFault) : Type 0 where
  pub bytes : List ℕ
  pub takes : Takes old new bytes
  pub says : IfSome old.unread (λ all. Answers all read)

module _ {D : Type 0} (replies : D → Order → List ℕ → Reply → D → Type 0) where
  -- the text is that of the answer which is due, or that for want of memory, with the desk as before or as after
  abbrev pub IsDueText : D → D → Result Ask HttpFault → ℕ → List ℕ → Type 0
  IsDueText old new read status text =
      ((answer : Answer) × IsDue replies old new read answer × (status ≡ answer.status) × (text ≡ answer_text answer))
      ⊎ (IsSpared replies old new read × IsFixed status text)

  -- a request or a fault was read, and then a text that is due to it was to be written
  abbrev pub Replies : D → D → Line → Line → Served → Type 0
  Replies old new line line' result =
      (read : Result Ask HttpFault) × (between : Line) × IsRead line between read × Sends between line' (IsDueText old new read) result

  -- what each answer says of the desk and of the link
  abbrev pub Serves : D → D → Line → Line → Served → Type 0
  Serves old new line line' (served.Answered status) = Replies old new line line' (served.Answered status)
  Serves old new line line' served.Ended = (new ≡ old) × IsRead line line' (Err (Ended false))
  Serves old new line line' served.LinkFailed =
      ((new ≡ old) × ((bytes : List ℕ) × Takes (faulted line) line' bytes)) ⊎ Replies old new line line' served.LinkFailed
  Serves old new line line' served.LinkNoMemory = Replies old new line line' served.LinkNoMemory
