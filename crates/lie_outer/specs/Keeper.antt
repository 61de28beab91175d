-- What each answer of a keeper says of its rows, and when it may fail.
use Rattle.std.specs.Prelude.{ℕ, ◌≡◌, ◌<◌, ◌≤◌, Bool, true, false, List, [], ◌∷◌, ◌++◌, map, take, drop, length, Vec}
use Rattle.std.specs.Prelude.{Option, Some, None, IsSome, IsSomeAnd, Result, Ok, Err}
use Rattle.std.specs.declared.alloc.Global.{Global}
use Rattle.lie_outer.specs.Causes.{RoseByOne}
use Rattle.lie_outer.specs.Rows.{greatest_row_count, name_of_row, row_named, rows_without}
use Rattle.lie_outer.specs.declared.rows.Row.{Row}
use Rattle.lie_outer.specs.declared.keeper.KeeperFail.{KeeperFail}
use Rattle.lie_outer.specs.declared.keeper.KeeperFail.TheVariants as fails
use Rattle.lie_outer.specs.declared.keeper.PutFail.{PutFail}
use Rattle.lie_outer.specs.declared.keeper.PutFail.TheVariants as put_fails

-- what a change says of the rows before and after, where they are told; they are told after it where they were before
abbrev pub Changes : Option (List Row) → Option (List Row) → (List Row → List Row → Type 0) → Type 0
Changes None new change = new ≡ None
Changes (Some rows) new change = IsSomeAnd new (change rows)

-- ---- what each answer says of the rows
abbrev pub Gets : List Row → List ℕ → Result (Option Row) KeeperFail → Type 0
Gets rows name (Ok found) = found ≡ row_named rows name
Gets rows name (Err fail) = Unit {0}

abbrev pub Lists : List Row → ℕ → ℕ → Result (Vec (List ℕ) Global) KeeperFail → Type 0
Lists rows from n (Ok names) = names.items ≡ take n (drop from (map name_of_row rows))
Lists rows from n (Err fail) = Unit {0}

abbrev pub PutsRow : {T : Type 0} → Row → Result T PutFail → List Row → List Row → Type 0
PutsRow row (Ok done) rows rows' = (row_named rows row.name ≡ None) × (length rows < greatest_row_count) × (rows' ≡ rows ++ row ∷ [])
PutsRow row (Err put_fails.Taken) rows rows' = IsSome (row_named rows row.name) × (rows' ≡ rows)
PutsRow row (Err put_fails.Full) rows rows' = (row_named rows row.name ≡ None) × (greatest_row_count ≤ length rows) × (rows' ≡ rows)
PutsRow row (Err put_fails.Failed) rows rows' = rows' ≡ rows
PutsRow row (Err put_fails.NoMemory) rows rows' = rows' ≡ rows

abbrev pub DropsRow : List ℕ → Result Bool KeeperFail → List Row → List Row → Type 0
DropsRow name (Ok true) rows rows' = IsSome (row_named rows name) × (rows' ≡ rows_without rows name)
DropsRow name (Ok false) rows rows' = (row_named rows name ≡ None) × (rows' ≡ rows)
DropsRow name (Err fail) rows rows' = rows' ≡ rows

-- ---- the count of faults rises by one where a call fails, and only there
abbrev pub CountsKeeper : {T : Type 0} → ℕ → ℕ → Result T KeeperFail → Type 0
CountsKeeper before now (Ok answer) = now ≡ before
CountsKeeper before now (Err fails.Failed) = RoseByOne before now
CountsKeeper before now (Err fails.NoMemory) = now ≡ before

abbrev pub CountsPutRow : {T : Type 0} → ℕ → ℕ → Result T PutFail → Type 0
CountsPutRow before now (Ok done) = now ≡ before
CountsPutRow before now (Err put_fails.Taken) = now ≡ before
CountsPutRow before now (Err put_fails.Full) = now ≡ before
CountsPutRow before now (Err put_fails.Failed) = RoseByOne before now
CountsPutRow before now (Err put_fails.NoMemory) = now ≡ before
