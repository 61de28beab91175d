-- The text is the answer of that status.
use Rattle.std.proofs.Common.{subst}
use Rattle.std.specs.Fmt.{digits}
use Rattle.lie_outer.specs.Link.{Writes}
use Rattle.lie_http.specs.AnswerText.{status_line, length_line, no_memory_text}
use Rattle.lie_http.proofs.answer.write_no_memory.Goals as goal

pub returns : goal.returns
unfolding no_memory_text status_line length_line digits
returns g c =
    subst (λ l. Writes (g.L.Link.line c.args.link.now)
    (g.L.Link.line c.write.new.self) l c.write.result) c.as_bytes.ensures.value c.write.ensures
