-- The text is written, or there was no memory for it.
use Rattle.std.proofs.Common.{refl, ◌∙◌, subst, inl}
use Rattle.lie_outer.specs.Link.{Writes}
use Rattle.lie_http.specs.AnswerText.{answer_text}
use Rattle.lie_http.proofs.Writing.{writes_answer}
use Rattle.lie_http.proofs.answer.write_answer.Goals as goal

pub returns-in-Ok : goal.returns-in-Ok
returns-in-Ok g c =
    let old = g.L.Link.line c.args.link.now in
    let new = g.L.Link.line c.write.new.self in
    writes_answer old new (answer_text c.args.answer.now) c.write.result (subst (λ l. Writes old new l c.write.result)
    (c.deref.ensures.value ∙ c.in-Ok.ensures) c.write.ensures)

pub returns-in-Err : goal.returns-in-Err
returns-in-Err g c = inl refl
