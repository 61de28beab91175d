use Rattle.std.proofs.Common.{ap, ◌∙◌, sym}
use Rattle.std.proofs.lemmas.Result.{IfOk-weaker}
use Rattle.lie_math.specs.FiniteSumLaws.{list-of}
use Rattle.lie_math.specs.Polynomial.{WholePolynomial, terms}
use Rattle.lie_ring.specs.Entries.{entries}
use Rattle.lie_poly.proofs.flat.FlatPolynomial.terms.Goals as goal

pub returns : goal.returns
returns g c =
    let value = g.C.Ring.value in
    IfOk-weaker c.copy_terms.result _ _
    (λ v e. e ∙ ap (entries value) c.as_slice.ensures.value ∙ sym (list-of terms (entries value c.self.inside.terms.items) c.self.invariant.ordered) ∙ ap (λ (p : WholePolynomial). p.list) c.self.view_is)
    c.copy_terms.ensures
