-- The head, and then the body.
use Rattle.lie_http.specs.declared.request.Ask.{Ask}
use Rattle.lie_http.proofs.Steps.{spends-trans, answers-trans}
use Rattle.lie_http.proofs.reading.read_request.Goals as goal

pub returns-in-Ok-read_head-clause-answer : goal.returns-in-Ok-read_head-clause-answer
returns-in-Ok-read_head-clause-answer g c =
    answers-trans (g.L.Link.line c.args.link.now)
    (g.L.Link.line c.read_head.new.link) c.read_head.new.bytes.items
    c.read_body.result c.in-Ok-read_head.ensures.0 c.read_body.ensures.answer

pub returns-in-Ok-read_head-clause-spent : goal.returns-in-Ok-read_head-clause-spent
returns-in-Ok-read_head-clause-spent g c =
    spends-trans Ask (g.L.Link.line c.args.link.now) (g.L.Link.line c.read_head.new.link)
    (g.L.Link.line c.read_body.new.link) c.read_head.new.bytes.items
    c.read_body.result c.in-Ok-read_head.ensures.0 c.read_body.ensures.spent
