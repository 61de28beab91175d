-- Connections served one after the other: none yet, one more, and the end of a service whose next one is not opened.
use Rattle.std.specs.Prelude.{ℕ, ◌≡◌, ◌≤◌, ◌+◌, Ok, Err, ⊤}
use Rattle.std.proofs.Common.{sym, subst, arith}
use Rattle.lie_outer.specs.Link.{Line, Listens}
use Rattle.lie_outer.specs.declared.link.LinkFail.{LinkFail}
use Rattle.lie_outer.specs.declared.link.LinkFail.TheVariants.{Failed, NoMemory}
use Rattle.lie_serve.specs.Replies.{Kept}
use Rattle.lie_service.specs.Serving.{ServesMany, ServesStep, ServesAll, none, one_more}

module _ (budget count : ℕ) (old : Kept) (line : Line) where
  -- listening changed nothing
  pub listened : (line' : Line) → line' ≡ line → ServesMany budget old line 0 old line'
  listened line' same = subst (ServesMany budget old line 0 old) (sym same) none

  pub not_listening : (line' : Line) (fail : LinkFail) → Listens {T = ⊤} line line' (Err fail) → ServesAll budget {T = ⊤} count old old line line' (Err fail)
  not_listening line' Failed is = (0, omega arith, line, none, is)
  not_listening line' NoMemory same = (0, omega arith, listened line' same)

  pub further : (n : ℕ) (between new : Kept) (last line' : Line) → ServesMany budget old line n between last
      → ServesStep budget {T = ⊤} between new last line' (Ok tt) → ServesMany budget old line (n + 1) new line'
  further n between new last line' many (result, next) = one_more n between new last line' result many next

  pub not_opened : (n : ℕ) (between new : Kept) (last line' : Line) (fail : LinkFail) → n ≤ count → ServesMany budget old line n between last
      → ServesStep budget {T = ⊤} between new last line' (Err fail) → ServesAll budget {T = ⊤} count old new line line' (Err fail)
  not_opened n between new last line' Failed le many (same, is) =
      (n, le, last, subst (λ (k : Kept). ServesMany budget old line n k last) (sym same) many, is)
  not_opened n between new last line' NoMemory le many (same, is) =
      (n, le, subst (λ (l : Line). ServesMany budget old line n new l) (sym is) (subst (λ (k : Kept). ServesMany budget old line n k last) (sym same) many))
