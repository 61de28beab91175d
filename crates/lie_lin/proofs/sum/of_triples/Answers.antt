use Rattle.lie_lin.specs.Forms.{coefficients_of, derivatives_of, triples_of}
use Rattle.lie_lin.proofs.Steps.{all_of_slice, coefficients_kept, sum_of_kept}
use Rattle.lie_lin.proofs.sum.of_triples.Goals as goal

pub of_terms-requires : goal.of_terms-requires
of_terms-requires c =
    coefficients_kept (coefficients_of c.in_ok-terms.terms.items) (derivatives_of c.as_slice.result.now) (triples_of c.args.list.now)
    (all_of_slice c.as_slice.result.now c.in_ok-ders.ders.items (triples_of c.args.list.now) c.as_slice.ensures.value c.in_ok-ders.ensures) c.in_ok-terms.ensures.sum

pub returns-clause-sum : goal.returns-clause-sum
returns-clause-sum c =
    sum_of_kept c.of_terms.result (coefficients_of c.in_ok-terms.terms.items) (derivatives_of c.as_slice.result.now) (triples_of c.args.list.now)
    (all_of_slice c.as_slice.result.now c.in_ok-ders.ders.items (triples_of c.args.list.now) c.as_slice.ensures.value c.in_ok-ders.ensures) c.of_terms.ensures c.in_ok-terms.ensures.sum
