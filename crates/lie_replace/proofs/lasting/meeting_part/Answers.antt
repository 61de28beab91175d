use Rattle.std.proofs.Common.{◌∙◌, sym, ap, subst, List, ℤ}
use Rattle.std.proofs.lemmas.Result.{err_from_is_err_and}
use Rattle.lie_math.specs.Monomial.{Monomial}
use Rattle.lie_math.specs.Limits.{absolutes}
use Rattle.lie_math.specs.Polynomial.{polynomial_of}
use Rattle.lie_ring.specs.Causes.{IsCause}
use Rattle.lie_jet.proofs.TotalParts.{entries_same}
use Rattle.lie_replace.specs.Replacing.{meeting}
use Rattle.lie_replace.proofs.LastingEntries.{part_starved}
use Rattle.lie_replace.proofs.lasting.meeting_part.Goals as goal

pub returns-in_err-part-clause-memory : goal.returns-in_err-part-clause-memory
returns-in_err-part-clause-memory c =
    let p = err_from_is_err_and c.from_residual-in_err-part.result c.from_residual-in_err-part.ensures.1 in
    rw (p.1, p.2) (part_starved c.args.needs.now c.args.poly.now c.as_slice-2.result.now c.in_err-part.field-0.0 c.len.ensures.limits
    (c.as_slice-2.ensures.value ∙ c.in_ok-kept.ensures ∙ ap (meeting c.args.needs.now) (c.as_slice.ensures.value ∙ sym (entries_same c.in_ok-terms.terms.items) ∙ c.in_ok-terms.ensures))
    (subst (λ (es : List (Monomial × ℤ)). IsCause c.in_err-part.field-0.0 (polynomial_of (absolutes es))) (entries_same c.as_slice-2.result.now) c.in_err-part.ensures.past))

pub returns-clause-part : goal.returns-clause-part
returns-clause-part c =
    c.in_ok-part.ensures.sum ∙ ap polynomial_of (entries_same c.as_slice-2.result.now ∙ c.as_slice-2.ensures.value ∙ c.in_ok-kept.ensures ∙ ap (meeting c.args.needs.now) (c.as_slice.ensures.value ∙ sym (entries_same c.in_ok-terms.terms.items) ∙ c.in_ok-terms.ensures))
