-- What a desk replies, and the answer to it.
use Rattle.std.specs.Prelude.{ℕ, ◌≡◌, ◌⊎◌, ◌++◌, false, true, List, codes, Result, Ok, Err, Option}
use Rattle.lie_outer.specs.Causes.{RoseByOne}
use Rattle.lie_outer.specs.declared.rows.Row.{Row}
use Rattle.lie_http.specs.NamesJson.{names_json}
use Rattle.lie_http.specs.declared.answer.Answer.{Answer}
use Rattle.lie_http.specs.declared.orders.Order.{Order}
use Rattle.lie_serve.specs.declared.desk.Reply.{Reply}
use Rattle.lie_serve.specs.declared.desk.Reply.TheVariants.{Analysis, Report, NewReport, Names, Dropped, Missing, Taken, Refused}
use Rattle.lie_serve.specs.declared.desk.Reply.TheVariants.{Full, KeeperFault}

-- a plain text
abbrev pub plain : ℕ → List ℕ → Answer
plain status text = record { status = status; json = false; body = text }

-- the line that tells that the row of a name went
abbrev pub dropped_line : List ℕ → List ℕ
dropped_line name = codes "dropped " ++ name ++ codes "\n"

-- the answer to each reply
abbrev pub answer_of : Reply → Answer
answer_of (Analysis report) = plain 200 report.items
answer_of (Report text) = plain 200 text
answer_of (NewReport text) = plain 201 text
answer_of (Names names) = record { status = 200; json = true; body = names_json names.items }
answer_of (Dropped name) = plain 200 (dropped_line name)
answer_of Missing = plain 404 (codes "lie: missing\n")
answer_of Taken = plain 409 (codes "lie: taken\n")
answer_of (Refused line) = plain 422 line
answer_of Full = plain 507 (codes "lie: full\n")
answer_of KeeperFault = plain 503 (codes "lie: keeper fault\n")

-- the count of the keeper's faults rises by one with each that is replied, and else stays
abbrev pub CountsReply : ℕ → ℕ → Reply → Type 0
CountsReply before now (Analysis report) = now ≡ before
CountsReply before now (Report text) = now ≡ before
CountsReply before now (NewReport text) = now ≡ before
CountsReply before now (Names names) = now ≡ before
CountsReply before now (Dropped name) = now ≡ before
CountsReply before now Missing = now ≡ before
CountsReply before now Taken = now ≡ before
CountsReply before now (Refused line) = now ≡ before
CountsReply before now Full = now ≡ before
CountsReply before now KeeperFault = RoseByOne before now

-- what a keeper shows: its rows, where they are told, and how often it has failed
pub record Kept : Type 0 where
  pub rows : Option (List Row)
  pub faults : ℕ

abbrev pub kept : Option (List Row) → ℕ → Kept
kept rows faults = record { rows = rows; faults = faults }

-- a reply, with the count
abbrev pub RepliesCounted : (Option (List Row) → Order → List ℕ → Reply → Option (List Row) → Type 0)
    → Kept → Order → List ℕ → Reply → Kept → Type 0
RepliesCounted replies old order body reply new =
    replies old.rows order body reply new.rows × CountsReply old.faults new.faults reply

-- a reply, or want of memory before or after the order was done
abbrev pub Obeys : {D E : Type 0} → (D → Order → List ℕ → Reply → D → Type 0) → D → D → Order → List ℕ → Result Reply E → Type 0
Obeys replies old new order body (Ok reply) = replies old order body reply new
Obeys replies old new order body (Err e) = (new ≡ old) ⊎ ((reply : Reply) × replies old order body reply new)
