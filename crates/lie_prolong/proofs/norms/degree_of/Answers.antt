use Rattle.std.specs.Prelude.{ℕ, suc, min, take, get_or, List, ℤ}
use Rattle.std.proofs.Common.{ap, ◌∙◌}
use Rattle.lie_math.specs.Limits.{greatest_exponent}
use Rattle.lie_math.specs.Monomial.{Monomial, degree}
use Rattle.lie_math.specs.Natural.{maxima, naturals}
use Rattle.lie_math.specs.SortedSum.{sum_of_entries}
use Rattle.lie_prolong.proofs.FieldNumbers.{entries_more, greatest_more}
use Rattle.lie_prolong.proofs.norms.degree_of.Goals as goal

pub loop-term-preserved : goal.loop-term-preserved
loop-term-preserved c =
    let ts = c.args.terms.now in
    let i = c.loop-term.term-index in
    let x = c.term-item.result in
    greatest_more (sum_of_entries maxima (λ (m : Monomial) (a : ℤ). degree m) (take i ts)) (degree (get_or ts i x).0) _ c.loop-term.greatest c.degree_in.result c.max-greatest.result (suc greatest_exponent)
    (entries_more maxima (λ (m : Monomial) (a : ℤ). degree m) ts i x c.loop-term-test.true) c.loop-term.invariant
    (c.degree_in.ensures ∙ ap (λ (ps : List (ℕ × ℕ)). min (sum_of_entries naturals (λ (v e : ℕ). e) ps) (suc greatest_exponent)) (c.pairs.ensures ∙ ap (λ (t : Monomial × ℤ). (t.0).list) c.term-item.is)) c.max-greatest.ensures
