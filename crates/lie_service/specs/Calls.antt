-- What a call of the desk leaves: its reply, or the rows as they were where memory was wanting.
use Rattle.std.specs.Prelude.{ℕ, ◌≡◌, List, Option, Result, Ok, Err}
use Rattle.lie_outer.specs.declared.rows.Row.{Row}
use Rattle.lie_http.specs.declared.orders.Order.{Order}
use Rattle.lie_serve.specs.Replies.{CountsReply}
use Rattle.lie_serve.specs.declared.desk.Reply.{Reply}
use Rattle.lie_service.specs.Orders.{RepliesTo}

-- what an answer says of the rows and of the count of the keeper's faults
abbrev pub Calls : {E : Type 0} → ℕ → Option (List Row) → Option (List Row) → ℕ → ℕ → Order → List ℕ → Result Reply E → Type 0
Calls budget held left before now order body (Ok reply) =
    RepliesTo budget held order body reply left × CountsReply before now reply
Calls budget held left before now order body (Err e) = (left ≡ held) × (now ≡ before)
