use Rattle.std.proofs.Common.{sym, subst, ap, ◌∙◌, length}
use Rattle.lie_math.specs.FiniteSumLaws.{list-of}
use Rattle.lie_math.specs.Polynomial.{WholePolynomial, terms}
use Rattle.lie_math.specs.Limits.{IsWithinLimits}
use Rattle.lie_poly.proofs.BulkLists.{limits_of}
use Rattle.lie_ring.specs.Entries.{entries}
use Rattle.lie_poly.proofs.TermLists.{length-entries}
use Rattle.lie_poly.proofs.flat.Flat.len.Goals as goal

pub returns-clause-count : goal.returns-clause-count
returns-clause-count g c =
    c.len.ensures ∙ c.self.inside.terms.ok.0 ∙ sym (ap length (list-of terms (entries g.C.Ring.value c.self.inside.terms.items) c.self.invariant.ordered) ∙ length-entries g.C.Ring.value c.self.inside.terms.items)
    ∙ ap (λ (p : WholePolynomial). length p.list) c.self.view_is

pub returns-clause-limits : goal.returns-clause-limits
returns-clause-limits g c =
    let sorted = c.self.invariant in
    subst IsWithinLimits c.self.view_is (limits_of (entries g.C.Ring.value c.self.inside.terms.items) sorted.ordered sorted.within sorted.few)
