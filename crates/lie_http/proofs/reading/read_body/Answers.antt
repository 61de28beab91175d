-- The body is there, or the input ended before.
use Rattle.std.proofs.Common.{◌≡◌, List, ℕ, subst, MatchResult}
use Rattle.lie_http.specs.declared.request.HttpFault.TheVariants.{NoMemory}
use Rattle.lie_http.specs.Reading.{IsAskOf}
use Rattle.lie_http.proofs.Steps.{body_asked, body_ends}
use Rattle.lie_http.proofs.reading.read_body.Goals as goal

pub returns-in-Ok-true : goal.returns-in-Ok-true
returns-in-Ok-true g c =
    let (gathers, enough) = rw c.in-Ok-true.field-0-test at c.in-Ok-true.ensures in
    let asked = subst (λ (l : List ℕ). MatchResult c.ask_of.result (λ ask. IsAskOf ask l c.args.head) (λ fault. fault
    ≡ NoMemory)) c.deref.ensures.value c.ask_of.ensures in
    body_asked (g.L.Link.line c.args.link.now)
    (g.L.Link.line c.read_up_to.new.link) c.args.bytes.now.items c.read_up_to.new.bytes.items c.args.head
    c.ask_of.result c.requires.head gathers enough asked

pub returns-in-Ok-false : goal.returns-in-Ok-false
returns-in-Ok-false g c =
    let (gathers, short, all) = rw c.in-Ok-false.field-0-test at c.in-Ok-false.ensures in
    body_ends (g.L.Link.line c.args.link.now)
    (g.L.Link.line c.read_up_to.new.link) c.args.bytes.now.items c.read_up_to.new.bytes.items c.args.head c.requires.head gathers short all
