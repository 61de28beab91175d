-- What the bytes read so far tell holds of all bytes.
use Rattle.std.specs.Prelude.{not, ◌==◌}
use Rattle.std.proofs.Common.{◌≡◌, ◌≤◌, ◌<◌, ℕ, List, length, ap, subst, ◌∙◌, arith, Err}
use Rattle.std.proofs.lemmas.Result.{err_from_is_err_and}
use Rattle.lie_http.specs.Requests.{IsUnfinished}
use Rattle.lie_http.specs.Reading.{Tells}
use Rattle.lie_http.proofs.Steps.{head_refused, long_head_refused, ended_head_refused}
use Rattle.lie_http.proofs.reading.look.Goals as goal

pub returns-in_err-found : goal.returns-in_err-found
returns-in_err-found g c =
    let p = err_from_is_err_and c.from_residual.result c.from_residual.ensures.1 in
    let items = c.args.bytes.now.items in
    let fault = c.in_err-found.field-0.0 in
    let short : length items ≤ 16384 = omega (arith, c.args.bytes.now.ok.0) in
    rw (p.1, p.2) (head_refused (g.L.Link.line c.args.link.now) items fault short (subst (λ (l : List ℕ). Tells l
    (Err fault)) c.deref.ensures.value c.in_err-found.ensures))

pub returns-then-len-ge-MAX_HEAD : goal.returns-then-len-ge-MAX_HEAD
returns-then-len-ge-MAX_HEAD g c =
    let items = c.args.bytes.now.items in
    let unfinished : IsUnfinished items = subst IsUnfinished c.deref.ensures.value (rw c.in-None.is at c.in_ok-found.ensures) in
    let short : length items ≤ 16384 = omega (arith, c.args.bytes.now.ok.0) in
    let long : 16384 ≤ length items = omega (arith, c.args.bytes.now.ok.0, c.len.ensures) in
    long_head_refused (g.L.Link.line c.args.link.now) items short long unfinished

pub returns-then-not-branch : goal.returns-then-not-branch
returns-then-not-branch g c =
    let items = c.args.bytes.now.items in
    let unfinished : IsUnfinished items = subst IsUnfinished c.deref.ensures.value (rw c.in-None.is at c.in_ok-found.ensures) in
    let short : length items < 16384 = omega (arith, c.args.bytes.now.ok.0, c.len.ensures) in
    let (gathers, same, all) = rw c.if-not-branch.true at c.in_ok-read_more.ensures in
    let any : c.is_empty.result ≡ (length c.read_more.new.bytes.items == 0) = c.is_empty.ensures
    ∙ ap (λ n. n == 0) c.read_more.new.bytes.ok.0 in
    ended_head_refused (g.L.Link.line c.args.link.now)
    (g.L.Link.line c.read_more.new.link) items c.read_more.new.bytes.items _ unfinished short gathers same all (ap not any)
