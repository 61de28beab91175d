use Rattle.std.proofs.Common.{◌≡◌, sym, ap, ◌∙◌, subst}
use Rattle.std.specs.Prelude.{IfOk}
use Rattle.lie_systems.specs.Triples.{triples_in}
use Rattle.lie_lin.specs.Forms.{coefficients_of, triples_of}
use Rattle.lie_lin.proofs.Forms.{list_of_kept}
use Rattle.lie_lin.proofs.equation.triples.Goals as goal

pub returns : goal.returns
returns c =
    let e : triples_in (coefficients_of c.as_slice.result.now) ≡ triples_in c.args.eq.now.list =
    ap (λ es. triples_in (coefficients_of es)) c.as_slice.ensures.value ∙ ap triples_in (sym (list_of_kept c.eq.inside.terms.items c.args.eq.now c.eq.invariant c.eq.view_is)) in
    subst (λ ts. IfOk c.copy_triples.result (λ list. triples_of list.items ≡ ts)) e c.copy_triples.ensures
