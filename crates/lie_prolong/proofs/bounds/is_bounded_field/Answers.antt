use Rattle.std.specs.Prelude.{suc, min, take, get_or, ℤ, unsigned_abs}
use Rattle.std.proofs.Common.{ap, ◌∙◌}
use Rattle.lie_math.specs.Limits.{greatest_exponent, greatest_term_count}
use Rattle.lie_math.specs.Monomial.{Monomial, degree}
use Rattle.lie_math.specs.Natural.{maxima, naturals}
use Rattle.lie_math.specs.Polynomial.{WholePolynomial}
use Rattle.lie_math.specs.Powers.{total_degree}
use Rattle.lie_math.specs.SortedSum.{sum_of_entries}
use Rattle.lie_geometry.specs.Norms.{norm}
use Rattle.lie_jet.proofs.TotalParts.{listed_terms}
use Rattle.lie_prolong.specs.FieldBounds.{greatest_of}
use Rattle.lie_prolong.proofs.FieldBounds.{bulks_within, field_told}
use Rattle.lie_prolong.proofs.FieldNumbers.{greatest_more, part_more}
use Rattle.lie_prolong.proofs.bounds.is_bounded_field.Goals as goal

pub loop-part-preserved : goal.loop-part-preserved
loop-part-preserved c =
    let ps = c.parts-part-items.result.now in
    let i = c.loop-part.part-index in
    let x = c.part-item.result in
    record {
      norm = greatest_more (greatest_of norm (take i ps)) (norm (get_or ps i x)) _ c.loop-part.norm c.norm_of.result c.max-norm.result (suc greatest_term_count) (part_more norm ps i x c.loop-part-test.true) c.loop-part.invariant.norm
          (c.norm_of.ensures ∙ ap (λ ts. min (sum_of_entries naturals (λ (m : Monomial) (a : ℤ). unsigned_abs a) ts) (suc greatest_term_count)) (listed_terms x c.as_slice.result.now c.in_ok-terms.terms.items c.as_slice.ensures.value c.in_ok-terms.ensures)
          ∙ ap (λ (P : WholePolynomial). min (norm P) (suc greatest_term_count)) c.part-item.is) c.max-norm.ensures;
      degree = greatest_more (greatest_of total_degree (take i ps)) (total_degree (get_or ps i x)) _ c.loop-part.degree c.degree_of.result c.max-degree.result (suc greatest_exponent) (part_more total_degree ps i x c.loop-part-test.true) c.loop-part.invariant.degree
          (c.degree_of.ensures ∙ ap (λ ts. min (sum_of_entries maxima (λ (m : Monomial) (a : ℤ). degree m) ts) (suc greatest_exponent)) (listed_terms x c.as_slice-in-loop-part.result.now c.in_ok-terms.terms.items c.as_slice-in-loop-part.ensures.value c.in_ok-terms.ensures)
          ∙ ap (λ (P : WholePolynomial). min (total_degree P) (suc greatest_exponent)) c.part-item.is) c.max-degree.ensures;
    }

pub returns-clause-bound : goal.returns-clause-bound
returns-clause-bound c =
    let told = field_told c.args.space c.args.order c.args.field.now c.parts-part-items.result.now c.loop-part.part-index c.loop-part.norm c.loop-part.degree c.parts-part-items.ensures c.loop-part-test.false c.loop-part.invariant.norm c.loop-part.invariant.degree in
    (λ t. told.0 (c.are_low_bounds.ensures.0 t), λ h. c.are_low_bounds.ensures.1 (told.1 h))

pub returns-clause-within : goal.returns-clause-within
returns-clause-within c =
    let told = field_told c.args.space c.args.order c.args.field.now c.parts-part-items.result.now c.loop-part.part-index c.loop-part.norm c.loop-part.degree c.parts-part-items.ensures c.loop-part-test.false c.loop-part.invariant.norm c.loop-part.invariant.degree in
    λ t. bulks_within c.args.field.now c.args.space c.space_is_small.ensures c.args.order (told.0 (c.are_low_bounds.ensures.0 t))
