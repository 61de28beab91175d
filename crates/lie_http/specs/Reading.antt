-- What the steps of the reading leave of the link and of the bytes read so far.
use Rattle.std.specs.Prelude.{ℕ, ◌≡◌, ◌<◌, ◌≤◌, ◌⊎◌, Bool, true, false, List, [], length, take, drop, ◌++◌, IfSome, Result, Ok}
use Rattle.std.specs.Prelude.{Err, Option, Some, None, ⊤}
use Rattle.std.specs.Io.KnownBytes.{Consumes}
use Rattle.httparse.specs.Grammar.{NeverHasRequest}
use Rattle.lie_outer.specs.Link.{Line, faulted}
use Rattle.lie_http.specs.declared.request.Ask.{Ask}
use Rattle.lie_http.specs.declared.request.HttpFault.{HttpFault}
use Rattle.lie_http.specs.declared.request.HttpFault.TheVariants.{BadHead, HeadTooLong, BodyTooLong, LengthMissing, Ended, Failed, NoMemory}
use Rattle.lie_http.specs.declared.head.Head.{Head}
use Rattle.lie_http.specs.Requests.{greatest_head, greatest_body, HasHead, IsUnfinished, Answers}

-- some of the unread bytes were read, and nothing else has changed
pub record Takes (old new : Line) (bytes : List ℕ) : Type 0 where
  pub taken : Consumes old.unread new.unread bytes
  pub others : new ≡ record old { unread = new.unread }

-- the same of a call that may fail, where the failure was counted
abbrev pub Spends : {T : Type 0} → Line → Line → Result T HttpFault → Type 0
Spends old new (Ok done) = (bytes : List ℕ) × Takes old new bytes
Spends old new (Err BadHead) = (bytes : List ℕ) × Takes old new bytes
Spends old new (Err HeadTooLong) = (bytes : List ℕ) × Takes old new bytes
Spends old new (Err BodyTooLong) = (bytes : List ℕ) × Takes old new bytes
Spends old new (Err LengthMissing) = (bytes : List ℕ) × Takes old new bytes
Spends old new (Err (Ended any)) = (bytes : List ℕ) × Takes old new bytes
Spends old new (Err Failed) = (bytes : List ℕ) × Takes (faulted old) new bytes
Spends old new (Err NoMemory) = (bytes : List ℕ) × Takes old new bytes

-- the bytes read since stand behind those read before
pub record Gathers (old new : Line) (before after : List ℕ) : Type 0 where
  pub more : List ℕ
  pub gathered : after ≡ before ++ more
  pub takes : Takes old new more

-- where the head of the bytes ends, what it asks for, and how long its body is to be
pub record IsHeadOf (found : Head) (bytes : List ℕ) : Type 0 where
  pub head : HasHead bytes (Ok found.body)
  pub method : found.method ≡ head.head.method
  pub path : found.path ≡ head.head.target
  pub within : found.len ≤ length bytes
  pub short : found.len ≤ greatest_head
  pub small : found.body ≤ greatest_body
  pub rest : head.rest ≡ drop found.len bytes

-- with these the bytes read so far are all
abbrev pub IsAll : Line → List ℕ → List ℕ → Type 0
IsAll old before after = IfSome old.unread (λ rest. after ≡ before ++ rest)

-- one read more: bytes came, or the input is at its end
abbrev pub ReadsMore : Line → Line → List ℕ → List ℕ → ℕ → Result Bool HttpFault → Type 0
ReadsMore old new before after most (Ok true) = Gathers old new before after × (length before < length after) × (length after ≤ most)
ReadsMore old new before after most (Ok false) = Gathers old new before after × (after ≡ before) × IsAll old before after
ReadsMore old new before after most (Err Failed) = (bytes : List ℕ) × Takes (faulted old) new bytes
ReadsMore old new before after most (Err NoMemory) = (bytes : List ℕ) × Takes old new bytes
ReadsMore old new before after most (Err BadHead) = ⊥
ReadsMore old new before after most (Err HeadTooLong) = ⊥
ReadsMore old new before after most (Err BodyTooLong) = ⊥
ReadsMore old new before after most (Err LengthMissing) = ⊥
ReadsMore old new before after most (Err (Ended any)) = ⊥

-- reads up to a number of bytes: they are there, or the input ended before
abbrev pub ReadsUpTo : Line → Line → List ℕ → List ℕ → ℕ → Result Bool HttpFault → Type 0
ReadsUpTo old new before after end (Ok true) = Gathers old new before after × (end ≤ length after)
ReadsUpTo old new before after end (Ok false) = Gathers old new before after × (length after < end) × IsAll old before after
ReadsUpTo old new before after end (Err Failed) = (bytes : List ℕ) × Takes (faulted old) new bytes
ReadsUpTo old new before after end (Err NoMemory) = (bytes : List ℕ) × Takes old new bytes
ReadsUpTo old new before after end (Err BadHead) = ⊥
ReadsUpTo old new before after end (Err HeadTooLong) = ⊥
ReadsUpTo old new before after end (Err BodyTooLong) = ⊥
ReadsUpTo old new before after end (Err LengthMissing) = ⊥
ReadsUpTo old new before after end (Err (Ended any)) = ⊥

-- what the bytes read so far tell: a whole head, none yet, or why there will be none
abbrev pub Tells : List ℕ → Result (Option Head) HttpFault → Type 0
Tells bytes (Ok (Some found)) = IsHeadOf found bytes
Tells bytes (Ok None) = IsUnfinished bytes
Tells bytes (Err BadHead) = NeverHasRequest bytes ⊎ HasHead bytes (Err BadHead)
Tells bytes (Err HeadTooLong) = HasHead bytes (Err HeadTooLong)
Tells bytes (Err BodyTooLong) = HasHead bytes (Err BodyTooLong)
Tells bytes (Err LengthMissing) = HasHead bytes (Err LengthMissing)
Tells bytes (Err (Ended any)) = ⊥
Tells bytes (Err Failed) = ⊥
Tells bytes (Err NoMemory) = ⊤

-- the bytes read so far and those still to be read are refused for this
abbrev pub Refuses : Line → List ℕ → HttpFault → Type 0
Refuses old before fault = IfSome old.unread (λ rest. Answers (before ++ rest) (Err fault))

-- one look for the head: it is there, more bytes were read, or there will be none
abbrev pub Looks : Line → Line → List ℕ → List ℕ → Result (Option Head) HttpFault → Type 0
Looks old new before after (Ok (Some found)) = Gathers old new before after × IsHeadOf found after
Looks old new before after (Ok None) = Gathers old new before after × (length before < length after) × (length after ≤ greatest_head)
Looks old new before after (Err fault) = Spends {T = Head} old new (Err fault) × Refuses old before fault

-- the whole head was read, or the input is refused
abbrev pub ReadsHead : Line → Line → List ℕ → Result Head HttpFault → Type 0
ReadsHead old new after (Ok found) = Takes old new after × IsHeadOf found after
ReadsHead old new after (Err fault) = Spends {T = Head} old new (Err fault) × Refuses old [] fault

-- what is asked for, where all bytes of the body are there
pub record IsAskOf (ask : Ask) (bytes : List ℕ) (found : Head) : Type 0 where
  pub method : ask.method ≡ found.method
  pub path : ask.path ≡ found.path
  pub body : ask.body ≡ take found.body (drop found.len bytes)

-- what an answer leaves of the link, and what it says of the bytes read before and those to be read
pub record Responds (old new : Line) (before : List ℕ) (result : Result Ask HttpFault) : Type 0 where
  pub spent : Spends old new result
  pub answer : IfSome old.unread (λ rest. Answers (before ++ rest) result)
