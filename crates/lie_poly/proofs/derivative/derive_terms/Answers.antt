use Rattle.std.proofs.Common.{◌++◌, ◌∷◌, [], ap, ◌∙◌, sym, subst, arith, take}
use Rattle.std.proofs.lemmas.Result.{err_from_is_err_and}
use Rattle.lie_math.proofs.TermWise.{derived_list}
use Rattle.lie_ring.specs.Entries.{entries}
use Rattle.lie_poly.proofs.TermLists.{entries_more, get-entries, length-entries}
use Rattle.lie_poly.proofs.DerivativeSteps.{AreFitting, derived-append, fitting_more, derived_sorted, derivative_cause}
use Rattle.lie_poly.proofs.derivative.derive_terms.Goals as goal
use Rattle.lie_ring.proofs.Fronts.{all_taken}

pub loop-term-preserved : goal.loop-term-preserved
loop-term-preserved g c =
    let value = g.C.Ring.value in
    let more = entries_more value c.args.terms.now c.loop-term.term-index c.term-item.result (omega arith) c.term-item.is in
    record {
      made = c.in_ok-push_derivative.ensures.items ∙ ap (λ es. es ++ derived_list c.args.var ((c.term-item.result.0, value c.term-item.result.1) ∷ [])) c.loop-term.invariant.made
          ∙ sym (derived-append c.args.var (entries value (take c.loop-term.term-index c.args.terms.now)) ((c.term-item.result.0, value c.term-item.result.1) ∷ [])) ∙ ap (derived_list c.args.var) (sym more);
      fitting = subst (AreFitting c.args.var) (sym more) (fitting_more c.args.var (entries value (take c.loop-term.term-index c.args.terms.now)) (c.term-item.result.0, value c.term-item.result.1) c.loop-term.invariant.fitting c.in_ok-push_derivative.ensures.fits);
    }

pub returns-in_err-push_derivative-clause-past : goal.returns-in_err-push_derivative-clause-past
returns-in_err-push_derivative-clause-past g c =
    let value = g.C.Ring.value in
    let p = err_from_is_err_and c.from_residual.result c.from_residual.ensures.1 in
    rw (p.1, p.2)
    (derivative_cause _ c.args.var (entries value c.args.terms.now) c.loop-term.term-index (c.term-item.result.0, value c.term-item.result.1) (omega (arith, length-entries value c.args.terms.now))
    (get-entries value c.args.terms.now c.loop-term.term-index c.term-item.result c.term-item.is) c.in_err-push_derivative.ensures.past)

pub returns-clause-terms : goal.returns-clause-terms
returns-clause-terms g c =
    let value = g.C.Ring.value in
    c.loop-term.invariant.made ∙ ap (λ xs. derived_list c.args.var (entries value xs)) (all_taken c.args.terms.now c.loop-term.term-index (omega arith))

pub returns-clause-fits : goal.returns-clause-fits
returns-clause-fits g c =
    let value = g.C.Ring.value in
    derived_sorted c.args.var (entries value c.args.terms.now) c.requires (subst (λ xs. AreFitting c.args.var (entries value xs)) (all_taken c.args.terms.now c.loop-term.term-index (omega arith)) c.loop-term.invariant.fitting)
