-- What every order leaves so, serving leaves so.
use Rattle.std.specs.Prelude.{ℕ, ◌≡◌, List, Result, Ok, Err, Option, None, Some}
use Rattle.std.proofs.Common.{sym, subst, inl, inr}
use Rattle.lie_outer.specs.Link.{Line}
use Rattle.lie_outer.specs.declared.rows.Row.{Row}
use Rattle.lie_http.specs.declared.answer.Answer.{Answer}
use Rattle.lie_http.specs.declared.orders.Destination.{Destination}
use Rattle.lie_http.specs.declared.orders.Destination.TheVariants.{Desk, NoSuchPath, NoSuchMethod}
use Rattle.lie_http.specs.declared.orders.Order.{Order}
use Rattle.lie_http.specs.declared.request.Ask.{Ask}
use Rattle.lie_http.specs.declared.request.HttpFault.{HttpFault}
use Rattle.lie_serve.specs.declared.desk.Reply.{Reply}
use Rattle.lie_serve.specs.declared.serving.Served.{Served}
use Rattle.lie_serve.specs.declared.serving.Served.TheVariants.{Answered, Ended, LinkFailed, LinkNoMemory}
use Rattle.lie_serve.specs.Replies.{Kept, RepliesCounted}
use Rattle.lie_serve.specs.Serving.{IsDueAt, IsSparedAt, IsDue, IsSpared, IsDueText, Sends, Serves}
use Rattle.lie_service.specs.Orders.{RepliesTo, KeepsHonest}

module _ {D : Type 0} (old new : D) (replies : D → Order → List ℕ → Reply → D → Type 0) (R : D → Type 0) (base : R old)
    (replied : (order : Order) (body : List ℕ) (reply : Reply) → replies old order body reply new → R new) where
  the_same : new ≡ old → R new
  the_same same = subst R (sym same) base

  of_due_at : (to : Destination) (body : List ℕ) (answer : Answer) → IsDueAt replies old new to body answer → R new
  of_due_at (Desk order) body answer (reply, r, is) = replied order body reply r
  of_due_at NoSuchPath body answer (is, same) = the_same same
  of_due_at NoSuchMethod body answer (is, same) = the_same same

  of_spared_at : (to : Destination) (body : List ℕ) → IsSparedAt replies old new to body → R new
  of_spared_at (Desk order) body (inl same) = the_same same
  of_spared_at (Desk order) body (inr (reply, r)) = replied order body reply r
  of_spared_at NoSuchPath body same = the_same same
  of_spared_at NoSuchMethod body same = the_same same

  of_due : (read : Result Ask HttpFault) (answer : Answer) → IsDue replies old new read answer → R new
  of_due (Ok ask) answer (to, leads, d) = of_due_at to ask.body answer d
  of_due (Err fault) answer (refused, is, same) = the_same same

  of_spared : (read : Result Ask HttpFault) → IsSpared replies old new read → R new
  of_spared (Ok ask) (inl same) = the_same same
  of_spared (Ok ask) (inr (to, leads, s)) = of_spared_at to ask.body s
  of_spared (Err fault) same = the_same same

  pub of_text : (read : Result Ask HttpFault) (status : ℕ) (text : List ℕ) → IsDueText replies old new read status text → R new
  of_text read status text (inl (answer, d, s, t)) = of_due read answer d
  of_text read status text (inr (s, fixed)) = of_spared read s

  of_sends : (read : Result Ask HttpFault) (line line' : Line) (result : Served)
      → Sends line line' (IsDueText replies old new read) result → R new
  of_sends read line line' (Answered status) (text, is, writes) = of_text read status text is
  of_sends read line line' Ended h = absurd h
  of_sends read line line' LinkFailed (status, text, is, writes) = of_text read status text is
  of_sends read line line' LinkNoMemory (status, text, is, writes) = of_text read status text is

  pub serves_leaves : (line line' : Line) (result : Served) → Serves replies old new line line' result → R new
  serves_leaves line line' (Answered status) (read, between, is, sends) = of_sends read between line' (Answered status) sends
  serves_leaves line line' Ended (same, read) = the_same same
  serves_leaves line line' LinkFailed (inl (same, takes)) = the_same same
  serves_leaves line line' LinkFailed (inr (read, between, is, sends)) = of_sends read between line' LinkFailed sends
  serves_leaves line line' LinkNoMemory (read, between, is, sends) = of_sends read between line' LinkNoMemory sends

-- ---- honest rows

pub honest-refl : (held : Option (List Row)) → KeepsHonest held held
honest-refl None = tt
honest-refl (Some rows) = λ h. h

pub honest-trans : (a b c : Option (List Row)) → KeepsHonest a b → KeepsHonest b c → KeepsHonest a c
honest-trans None b c p q = tt
honest-trans (Some rows) None c p q = λ h. absurd (p h)
honest-trans (Some rows) (Some rows') c p q = λ h. q (p h)

pub serves_honest : (budget : ℕ) (old new : Kept) (line line' : Line) (result : Served)
    → Serves (RepliesCounted (RepliesTo budget)) old new line line' result → KeepsHonest old.rows new.rows
serves_honest budget old new line line' result h =
    serves_leaves old new (RepliesCounted (RepliesTo budget)) (λ (k : Kept). KeepsHonest old.rows k.rows) (honest-refl old.rows)
    (λ order body reply r. r.0.1) line line' result h
