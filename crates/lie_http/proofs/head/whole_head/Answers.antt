-- The spans show the parts of the head.
use Rattle.std.proofs.Common.{◌≡◌, ◌<◌, take, refl, sym, ◌∙◌, subst, ap, Ok, All, map, arith}
use Rattle.httparse.specs.Spans.{header_bytes}
use Rattle.lie_http.specs.Requests.{demand_of}
use Rattle.lie_http.proofs.Heads.{method_is_ascii, shown_head}
use Rattle.lie_http.proofs.head.whole_head.Goals as goal

pub text_of-requires : goal.text_of-requires
text_of-requires c =
    let (h, at) = c.requires.head in
    subst (All (λ b. b < 128)) (sym (c.of-method.ensures ∙ at.method)) (method_is_ascii h.method at.reads.0.method.1)

pub returns : goal.returns
returns c =
    let (h, at) = c.requires.head in
    let asked : demand_of c.of-method.result.now (map (header_bytes c.args.bytes.now)
    (take c.args.found.now.headers c.args.fields.now)) ≡ Ok c.in_ok-body.body =
    sym c.demand_of.ensures.value ∙ c.in_ok-body.was in
    let shown = ap (λ m. demand_of m (map (header_bytes c.args.bytes.now) (take c.args.found.now.headers c.args.fields.now)))
    (sym c.of-method.ensures) ∙ asked in
    record {
      head = shown_head c.args.bytes.now c.args.fields.now c.args.found.now
          (Ok c.in_ok-body.body) c.requires.short c.requires.within h at shown;
      method = c.in_ok-method.ensures ∙ c.of-method.ensures ∙ at.method;
      path = c.in_ok-path.ensures ∙ c.of.ensures ∙ at.path;
      within = c.requires.within.section.len_fits;
      short = (let fits = c.requires.within.section.len_fits in let few = c.requires.short in omega arith);
      small = c.in_ok-body.ensures.small;
      rest = refl;
    }
