-- What serving connections over a keeper leaves of it and of the link.
use Rattle.std.specs.Prelude.{ℕ, ◌≡◌, ◌≤◌, ◌+◌, Result, Ok, Err, ⊤}
use Rattle.lie_outer.specs.Causes.{RoseByOne}
use Rattle.lie_outer.specs.Link.{Line, Opens, Closes, unopened}
use Rattle.lie_outer.specs.declared.link.LinkFail.{LinkFail}
use Rattle.lie_outer.specs.declared.link.LinkFail.TheVariants.{Failed, NoMemory}
use Rattle.lie_serve.specs.Replies.{Kept, RepliesCounted}
use Rattle.lie_serve.specs.Serving.{Serves}
use Rattle.lie_serve.specs.declared.serving.Served.{Served}
use Rattle.lie_serve.specs.declared.serving.Served.TheVariants.{Answered}
use Rattle.lie_service.specs.Orders.{RepliesTo}

module _ (budget : ℕ) where
  -- the open connection is served: its request is answered by the desk over the keeper
  abbrev pub ServesOpen : Kept → Kept → Line → Line → Served → Type 0
  ServesOpen old new line line' result = Serves (RepliesCounted (RepliesTo budget)) old new line line' result

  -- a connection is opened, served, and closed
  pub record ServesNext (old new : Kept) (line line' : Line) (result : Served) : Type 0 where
    pub opened : Line
    pub served : Line
    pub opens : Opens {T = ⊤} line opened (Ok tt)
    pub serves : ServesOpen old new opened served result
    pub fault : result ≡ Answered 503 → RoseByOne old.faults new.faults
    pub closes : Closes served line'

  -- so many connections, one after the other
  pub data ServesMany (old : Kept) (line : Line) : ℕ → Kept → Line → Type 0 where
    none : ServesMany old line 0 old line
    one_more : (n : ℕ) (between new : Kept) (line' line'' : Line) (result : Served) → ServesMany old line n between line'
        → ServesNext between new line' line'' result → ServesMany old line (n + 1) new line''

  -- the next connection was served; or opening it failed, or found no memory
  abbrev pub ServesStep : {T : Type 0} → Kept → Kept → Line → Line → Result T LinkFail → Type 0
  ServesStep old new line line' (Ok done) = (result : Served) × ServesNext old new line line' result
  ServesStep old new line line' (Err Failed) = (new ≡ old) × (line' ≡ unopened line)
  ServesStep old new line line' (Err NoMemory) = (new ≡ old) × (line' ≡ line)

  -- all connections were served; or fewer, and then listening or opening the next one failed, or found no memory
  abbrev pub ServesAll : {T : Type 0} → ℕ → Kept → Kept → Line → Line → Result T LinkFail → Type 0
  ServesAll count old new line line' (Ok done) = ServesMany old line count new line'
  ServesAll count old new line line' (Err Failed) =
      (n : ℕ) × (n ≤ count) × (last : Line) × ServesMany old line n new last × (line' ≡ unopened last)
  ServesAll count old new line line' (Err NoMemory) = (n : ℕ) × (n ≤ count) × ServesMany old line n new line'
