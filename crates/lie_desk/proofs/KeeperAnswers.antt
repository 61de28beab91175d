-- What the answers of a keeper are for the desk.
use Rattle.std.specs.Prelude.{◌≡◌, ℕ, true, false, Bool, List, [], take, drop, map, length, Option, Some, None, IsSome, IfSome, Result, Ok, Err, Vec, refl}
use Rattle.std.specs.declared.alloc.Global.{Global}
use Rattle.std.proofs.Common.{sym, subst, ◌∙◌}
use Rattle.std.proofs.lemmas.List.{length-map, take_all}
use Rattle.lie_outer.specs.Keeper.{Changes, Gets, PutsRow, DropsRow}
use Rattle.lie_outer.specs.Rows.{AreRows, name_of_row, row_named}
use Rattle.lie_outer.specs.declared.keeper.KeeperFail.{KeeperFail}
use Rattle.lie_outer.specs.declared.keeper.PutFail.{PutFail}
use Rattle.lie_outer.specs.declared.keeper.PutFail.TheVariants.{Taken, Full}
use Rattle.lie_outer.specs.declared.rows.Row.{Row}
use Rattle.lie_work.specs.declared.outcome.Refusal.TheVariants as refusals
use Rattle.lie_desk.specs.Desk.{ListsNames, IsNameRefusal, missing}
use Rattle.lie_desk.specs.Steps.{IsPutRefusal, untold_taken, no_room}

-- ---- put
some_none : {X : Type 0} (o : Option X) → IsSome o → o ≡ None → ⊥
some_none None h e = absurd (cc)
some_none (Some x) h e = absurd (cc)

pub never_taken : (T : Type 0) (row : Row) (old new : Option (List Row)) (text : List ℕ) → text ≡ []
    → IfSome old (λ rows. row_named rows row.name ≡ None) → Changes old new (PutsRow {T = T} row (Err Taken)) → IsPutRefusal row old (refusals.Taken text)
never_taken T row None new text empty free h = rw empty (untold_taken tt)
never_taken T row (Some rows) None text empty free h = absurd h
never_taken T row (Some rows) (Some rows') text empty free h = absurd (some_none (row_named rows row.name) h.0 free)

pub never_full : (T : Type 0) (row : Row) (old new : Option (List Row)) → Changes old new (PutsRow {T = T} row (Err Full)) → IsPutRefusal row old refusals.Full
never_full T row None new h = no_room tt
never_full T row (Some rows) None h = absurd h
never_full T row (Some rows) (Some rows') h = no_room (h.0, h.1)

-- ---- a name that no row has
pub not_got : (name : List ℕ) (held : Option (List Row)) → IfSome held (λ rows. Gets rows name (Ok None)) → IsNameRefusal name held refusals.Missing
not_got name None h = missing tt
not_got name (Some rows) h = missing (sym h)

pub not_dropped : (name : List ℕ) (old new : Option (List Row)) → Changes old new (DropsRow name (Ok false)) → IsNameRefusal name old refusals.Missing
not_dropped name None new h = missing tt
not_dropped name (Some rows) None h = absurd h
not_dropped name (Some rows) (Some rows') h = missing h.0

-- ---- all names
all_taken : (rows : List Row) → AreRows rows → take 10000 (drop 0 (map name_of_row rows)) ≡ map name_of_row rows
all_taken rows fit = take_all 10000 (map name_of_row rows) (rw length-map fit.1)

pub all_listed : (old new : Option (List Row)) (names : Vec (List ℕ) Global) → new ≡ old → IfSome new AreRows
    → IfSome old (λ rows. names.items ≡ take 10000 (drop 0 (map name_of_row rows))) → Changes old new (ListsNames names)
all_listed None new names same fit listed = same
all_listed (Some rows) new names same fit listed =
    let fit : AreRows rows = subst (λ (o : Option (List Row)). IfSome o AreRows) same fit in
    rw same (listed ∙ all_taken rows fit, refl)
