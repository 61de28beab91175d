use Rattle.std.proofs.Common.{◌∙◌, sym, ap, List, ℤ}
use Rattle.lie_math.specs.Monomial.{Monomial, exponent}
use Rattle.lie_math.specs.Natural.{maxima}
use Rattle.lie_math.specs.SortedSum.{sum_of_entries}
use Rattle.lie_jet.proofs.TotalParts.{entries_same}
use Rattle.lie_cross.proofs.FreeDegrees.{greatest_all}
use Rattle.lie_cross.proofs.dependence.degree_in.Goals as goal

pub returns : goal.returns
returns c =
    greatest_all
    (λ (m : Monomial)
    (a : ℤ). exponent m c.args.var) c.in_ok-terms.terms.items c.loop-i.i c.loop-i.degree c.loop-i-test.false c.loop-i.invariant.degree
    ∙ ap (λ (es : List (Monomial × ℤ)). sum_of_entries maxima (λ m a. exponent m c.args.var) es)
    (sym (entries_same c.in_ok-terms.terms.items) ∙ c.in_ok-terms.ensures)
