use Rattle.std.proofs.Common.{sym, ap, subst, ◌∙◌}
use Rattle.lie_math.specs.Limits.{IsWithinLimits, absolutes}
use Rattle.lie_math.specs.Polynomial.{polynomial_of}
use Rattle.lie_spans.specs.FieldRows.{row_terms}
use Rattle.lie_algebra.proofs.RowFields.{sum_within, same_sum}
use Rattle.lie_algebra.proofs.fields.part_in.Goals as goal

pub sum_within_limits-requires : goal.sum_within_limits-requires
sum_within_limits-requires c =
    subst (λ es. IsWithinLimits (polynomial_of (absolutes es))) (sym c.as_slice.ensures.value)
    (sum_within c.args.component c.args.columns.now c.args.row.now c.in_ok-list.list.items c.in_ok-list.ensures.terms c.requires.rising c.requires.few c.in_ok-list.ensures.fits)

pub returns : goal.returns
returns c =
    c.in_ok-part.ensures ∙ ap polynomial_of (c.as_slice.ensures.value ∙ c.in_ok-list.ensures.terms)
    ∙ same_sum (row_terms c.args.component c.args.columns.now c.args.row.now)
