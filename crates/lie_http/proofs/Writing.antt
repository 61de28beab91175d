-- What a write leaves is what the writing of an answer leaves.
use Rattle.std.proofs.Common.{ℕ, List, Result, Ok, Err, inr}
use Rattle.lie_outer.specs.Link.{Line, Writes}
use Rattle.lie_outer.specs.declared.link.LinkFail.{LinkFail}
use Rattle.lie_outer.specs.declared.link.LinkFail.TheVariants.{Failed, NoMemory}
use Rattle.lie_http.specs.AnswerText.{WritesAnswer}

pub writes_answer : {T : Type 0} (old new : Line) (text : List ℕ) (result : Result T LinkFail) → Writes old new text result
    → WritesAnswer old new text result
writes_answer old new text (Ok done) h = h
writes_answer old new text (Err Failed) h = h
writes_answer old new text (Err NoMemory) h = inr h
