-- Serving counts no failure to open a connection.
use Rattle.std.specs.Prelude.{ℕ, ◌≡◌, false, List, Result, Ok, Err, ⊤, refl}
use Rattle.std.proofs.Common.{ap, ◌∙◌, inl, inr}
use Rattle.lie_outer.specs.Causes.{next_count}
use Rattle.lie_outer.specs.Link.{Line}
use Rattle.lie_outer.specs.declared.link.LinkFail.TheVariants.{Failed}
use Rattle.lie_http.specs.declared.request.Ask.{Ask}
use Rattle.lie_http.specs.declared.request.HttpFault.{HttpFault}
use Rattle.lie_http.specs.declared.request.HttpFault.TheVariants.{Ended as TheEnd}
use Rattle.lie_http.specs.declared.orders.Order.{Order}
use Rattle.lie_serve.specs.Replies.{Kept, RepliesCounted}
use Rattle.lie_serve.specs.Serving.{IsDueText, IsRead, Sends, Serves}
use Rattle.lie_serve.specs.declared.desk.Reply.{Reply}
use Rattle.lie_serve.specs.declared.serving.Served.{Served}
use Rattle.lie_serve.specs.declared.serving.Served.TheVariants.{Answered, Ended, LinkFailed, LinkNoMemory}
use Rattle.lie_service.specs.Orders.{RepliesTo}
use Rattle.lie_service.specs.Serving.{ServesNext, ServesMany, ServesAll, none, one_more}

abbrev pub failures : Line → ℕ
failures line = line.counts.open_faults

sends : (old new : Line) (P : ℕ → List ℕ → Type 0) (result : Served) → Sends old new P result → failures new ≡ failures old
sends old new P (Answered status) (text, is, writes) = ap failures writes.1
sends old new P Ended h = absurd h
sends old new P LinkFailed (status, text, is, writes) = ap failures writes.1
sends old new P LinkNoMemory (status, text, is, writes) = ap failures writes.1

read : (old new : Line) (was : Result Ask HttpFault) → IsRead old new was → failures new ≡ failures old
read old new was is = ap failures is.takes.others

module _ {D : Type 0} (replies : D → Order → List ℕ → Reply → D → Type 0) (old new : D) where
  serves : (line line' : Line) (result : Served) → Serves replies old new line line' result → failures line' ≡ failures line
  serves line line' (Answered status) (was, between, is, s) = sends between line' (IsDueText replies old new was) (Answered status) s ∙ read line between was is
  serves line line' Ended (same, is) = read line line' (Err (TheEnd false)) is
  serves line line' LinkFailed (inl (same, (bytes, takes))) = ap failures takes.others
  serves line line' LinkFailed (inr (was, between, is, s)) = sends between line' (IsDueText replies old new was) LinkFailed s ∙ read line between was is
  serves line line' LinkNoMemory (was, between, is, s) = sends between line' (IsDueText replies old new was) LinkNoMemory s ∙ read line between was is

next : (budget : ℕ) (old new : Kept) (line line' : Line) (result : Served) → ServesNext budget old new line line' result → failures line' ≡ failures line
next budget old new line line' result is =
    ap failures is.closes.1 ∙ (serves (RepliesCounted (RepliesTo budget)) old new is.opened is.served result is.serves ∙ ap failures is.opens.1)

pub many_open : (budget : ℕ) (old : Kept) (line : Line) (n : ℕ) (new : Kept) (line' : Line) → ServesMany budget old line n new line' → failures line' ≡ failures line
many_open budget old line n new line' none = refl
many_open budget old line n new line' (one_more m between new' line₁ line₂ result many is) =
    next budget between new line₁ line' result is ∙ many_open budget old line m between line₁ many

-- a service that fails has failed to open once
pub failed_once : (budget count : ℕ) (old new : Kept) (line line' : Line) → ServesAll budget {T = ⊤} count old new line line' (Err Failed)
    → failures line' ≡ next_count (failures line)
failed_once budget count old new line line' (n, le, last, many, is) = ap failures is ∙ ap next_count (many_open budget old line n new last many)
