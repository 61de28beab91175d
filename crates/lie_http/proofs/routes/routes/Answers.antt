-- Each route takes its place.
use Rattle.matchit.proofs.OnLiterals.{matchit_on_literals}
use Rattle.lie_http.proofs.routes.routes.Goals as goal

pub returns : goal.returns
unfolding matchit_on_literals
returns c =
    let a = c.in_ok-insert.ensures in
    let b = rw (a.1, c.new-router.ensures) at c.in_ok-insert-2.ensures in
    let d = rw b.1 at c.in_ok-insert-3.ensures in
    d.1
