-- What a link shows, and what each of its calls makes of it.
use Rattle.std.specs.Prelude.{ℕ, ◌≡◌, ◌≤◌, Bool, true, false, List, [], ◌∷◌, ◌++◌, length, take, ⊤, Some, None}
use Rattle.std.specs.Io.KnownBytes.{Appends, Consumes, IsAtEnd}
use Rattle.std.specs.declared.option.Option.{Option}
use Rattle.std.specs.declared.result.Result.{Result}
use Rattle.std.specs.declared.result.Result.TheVariants.{Ok, Err}
use Rattle.lie_outer.specs.Causes.{next_count}
use Rattle.lie_outer.specs.declared.link.LinkFail.{LinkFail}
use Rattle.lie_outer.specs.declared.link.LinkFail.TheVariants.{Failed, NoMemory}

-- how often a call on the open connection failed, how often a write found no memory, and how often no connection was opened
pub record Counts : Type 0 where
  pub faults : ℕ
  pub starved : ℕ
  pub open_faults : ℕ

-- whether a connection is open, the bytes still to be read on it and the bytes written on it, the bytes of the connections
-- still to come, what was written on each closed one, and the counts
pub record Line : Type 0 where
  pub is_open : Bool
  pub unread : Option (List ℕ)
  pub written : Option (List ℕ)
  pub coming : Option (List (List ℕ))
  pub closed : Option (List (List ℕ))
  pub counts : Counts

-- a failure on the open connection was counted
abbrev pub faulted : Line → Line
faulted line = record line { counts = record (line.counts) { faults = next_count line.counts.faults } }

-- want of memory in a write was counted
abbrev pub starving : Line → Line
starving line = record line { counts = record (line.counts) { starved = next_count line.counts.starved } }

-- a failure to open was counted
abbrev pub unopened : Line → Line
unopened line = record line { counts = record (line.counts) { open_faults = next_count line.counts.open_faults } }

-- listening changes nothing
abbrev pub Listens : {T : Type 0} → Line → Line → Result T LinkFail → Type 0
Listens old new (Ok done) = new ≡ old
Listens old new (Err Failed) = new ≡ unopened old
Listens old new (Err NoMemory) = new ≡ old

-- the first of the connections still to come is open, and where none was left one without bytes
abbrev pub IsFirst : Option (List (List ℕ)) → Line → Type 0
IsFirst None new = ⊤
IsFirst (Some []) new = (new.unread ≡ Some []) × (new.written ≡ Some []) × (new.coming ≡ Some [])
IsFirst (Some (first ∷ rest)) new = (new.unread ≡ Some first) × (new.written ≡ Some []) × (new.coming ≡ Some rest)

-- the next connection is opened, or none is
abbrev pub Opens : {T : Type 0} → Line → Line → Result T LinkFail → Type 0
Opens old new (Ok done) = IsFirst old.coming new
    × (new ≡ record old { is_open = true; unread = new.unread; written = new.written; coming = new.coming })
Opens old new (Err Failed) = new ≡ unopened old
Opens old new (Err NoMemory) = new ≡ old

-- the next bytes came to the front of the slice, and none only at the end of the input
abbrev pub Reads : Line → Line → List ℕ → Result ℕ LinkFail → Type 0
Reads old new into (Ok count) = (count ≤ length into) × Consumes old.unread new.unread (take count into)
    × (count ≡ 0 → IsAtEnd old.unread) × (new ≡ record old { unread = new.unread })
Reads old new into (Err Failed) = new ≡ faulted old
Reads old new into (Err NoMemory) = new ≡ old

-- a part from the front of the bytes was written
abbrev pub WritesFront : Line → Line → List ℕ → Type 0
WritesFront old new bytes = (front : List ℕ) × (back : List ℕ) × (bytes ≡ front ++ back) × Appends old.written new.written front

-- all bytes were written, or after an error a part from their front
abbrev pub Writes : {T : Type 0} → Line → Line → List ℕ → Result T LinkFail → Type 0
Writes old new bytes (Ok done) = Appends old.written new.written bytes × (new ≡ record old { written = new.written })
Writes old new bytes (Err Failed) = WritesFront old new bytes × (new ≡ record (faulted old) { written = new.written })
Writes old new bytes (Err NoMemory) = WritesFront old new bytes × (new ≡ record (starving old) { written = new.written })

-- what was written on the open connection stands last among the closed ones
abbrev pub IsFiled : Option (List (List ℕ)) → Option (List ℕ) → Option (List (List ℕ)) → Type 0
IsFiled None written new = ⊤
IsFiled (Some old) None new = ⊤
IsFiled (Some old) (Some bytes) new = new ≡ Some (old ++ bytes ∷ [])

-- the open connection is closed
abbrev pub Closes : Line → Line → Type 0
Closes old new = IsFiled old.closed old.written new.closed
    × (new ≡ record old { is_open = false; unread = new.unread; written = new.written; closed = new.closed })
