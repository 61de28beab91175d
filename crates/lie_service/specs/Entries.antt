-- What is written on connections that are closed, where the link tells its connections.
use Rattle.std.specs.Prelude.{ℕ, ◌≡◌, ◌<◌, ◌≤◌, ◌⊎◌, ◌+◌, ◌-◌, ◌^◌, List, [], ◌∷◌, ◌++◌, length, Some, if◌then◌else◌, nat_eq}
use Rattle.std.specs.Prelude.{Result, Ok, Err}
use Rattle.lie_outer.specs.Link.{Line}
use Rattle.lie_outer.specs.declared.link.LinkFail.{LinkFail}
use Rattle.lie_http.specs.declared.request.Ask.{Ask}
use Rattle.lie_http.specs.declared.request.HttpFault.{HttpFault}
use Rattle.lie_http.specs.Requests.{Answers}
use Rattle.lie_serve.specs.Replies.{Kept, RepliesCounted}
use Rattle.lie_serve.specs.Serving.{IsDueText}
use Rattle.lie_serve.specs.declared.serving.Served.{Served}
use Rattle.lie_serve.specs.declared.serving.Served.TheVariants.{Answered, Ended, LinkFailed, LinkNoMemory}
use Rattle.lie_service.specs.Orders.{RepliesTo}
use Rattle.lie_service.specs.Serving.{ServesMany}

-- ---- one connection
module _ (budget : ℕ) where
  -- the text answers these bytes: it is the answer that is due by the rows, or that for want of memory
  abbrev pub IsTextFor : Kept → Kept → List ℕ → ℕ → List ℕ → Type 0
  IsTextFor old new bytes status text =
      (read : Result Ask HttpFault) × Answers bytes read × IsDueText (RepliesCounted (RepliesTo budget)) old new read status text

  -- nothing, where reading failed, or a part from the front of such a text
  abbrev pub IsBroken : Kept → Kept → List ℕ → List ℕ → Type 0
  IsBroken old new bytes entry = ((entry ≡ []) × (new ≡ old))
      ⊎ ((status : ℕ) × (text : List ℕ) × IsTextFor old new bytes status text × (back : List ℕ) × (text ≡ entry ++ back))

  -- what was written to these bytes
  abbrev pub IsEntry : Kept → Kept → List ℕ → List ℕ → Served → Type 0
  IsEntry old new bytes entry (Answered status) = IsTextFor old new bytes status entry
  IsEntry old new bytes entry Ended = (bytes ≡ []) × (entry ≡ []) × (new ≡ old)
  IsEntry old new bytes entry LinkFailed = IsBroken old new bytes entry
  IsEntry old new bytes entry LinkNoMemory = IsBroken old new bytes entry

-- ---- one after the other
-- the bytes of the next connection, and none where all are used up
abbrev pub first_of : List (List ℕ) → List ℕ
first_of [] = []
first_of (bytes ∷ more) = bytes

abbrev pub rest_of : List (List ℕ) → List (List ℕ)
rest_of [] = []
rest_of (bytes ∷ more) = more

-- each entry is written to the bytes of its connection, by the rows that the ones before left
pub data AreEntries (budget : ℕ) (old : Kept) (coming : List (List ℕ)) : Kept → List (List ℕ) → List (List ℕ) → List Served → Type 0 where
  none : AreEntries budget old coming old coming [] []
  one_more : (between new : Kept) (left entries : List (List ℕ)) (results : List Served) (entry : List ℕ) (result : Served)
      → AreEntries budget old coming between left entries results → IsEntry budget between new (first_of left) entry result
      → AreEntries budget old coming new (rest_of left) (entries ++ entry ∷ []) (results ++ result ∷ [])

-- ---- how many were not answered well
abbrev pub one_if_keeper_fault : Served → ℕ
one_if_keeper_fault (Answered status) = if nat_eq status 503 then 1 else 0
one_if_keeper_fault Ended = 0
one_if_keeper_fault LinkFailed = 0
one_if_keeper_fault LinkNoMemory = 0

abbrev pub one_if_broken : Served → ℕ
one_if_broken (Answered status) = 0
one_if_broken Ended = 0
one_if_broken LinkFailed = 1
one_if_broken LinkNoMemory = 1

abbrev pub count_of : (Served → ℕ) → List Served → ℕ
count_of one [] = 0
count_of one (result ∷ more) = one result + count_of one more

-- so many connections leave as many entries; at most as many are answers 503 as the keeper's count rose by, and at most as many are
-- broken as the link's counts rose by, while these counts stand below their last value
pub record IsClosedLog (budget n : ℕ) (old new : Kept) (line line' : Line) (coming closed : List (List ℕ)) : Type 0 where
  pub entries : List (List ℕ)
  pub left : List (List ℕ)
  pub results : List Served
  pub filed : line'.closed ≡ Some (closed ++ entries)
  pub still : line'.coming ≡ Some left
  pub many : length entries ≡ n
  pub each : AreEntries budget old coming new left entries results
  pub keeper_faults : new.faults < 2 ^ 64 - 1 → old.faults + count_of one_if_keeper_fault results ≤ new.faults
  pub broken : line'.counts.faults < 2 ^ 64 - 1 → line'.counts.starved < 2 ^ 64 - 1
      → line.counts.faults + line.counts.starved + count_of one_if_broken results ≤ line'.counts.faults + line'.counts.starved

-- the law of closed connections
abbrev pub ClosedConnectionsAreAnswers : Type 0
ClosedConnectionsAreAnswers = (budget n : ℕ) (old new : Kept) (line line' : Line) (coming closed : List (List ℕ))
    → ServesMany budget old line n new line' → line.coming ≡ Some coming → line.closed ≡ Some closed
    → IsClosedLog budget n old new line line' coming closed

-- on success all connections left their entries, and else fewer may have
abbrev pub LeavesEntries : {T : Type 0} → ℕ → ℕ → Kept → Kept → Line → Line → Result T LinkFail → Type 0
LeavesEntries budget count old new line line' (Ok done) =
    (coming closed : List (List ℕ)) → line.coming ≡ Some coming → line.closed ≡ Some closed
    → IsClosedLog budget count old new line line' coming closed
LeavesEntries budget count old new line line' (Err fail) =
    (coming closed : List (List ℕ)) → line.coming ≡ Some coming → line.closed ≡ Some closed
    → (n : ℕ) × (n ≤ count) × IsClosedLog budget n old new line line' coming closed
