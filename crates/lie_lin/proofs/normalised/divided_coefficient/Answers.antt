use Rattle.std.proofs.Common.{arith, ◌++◌, ◌∷◌, [], sym, ap, subst, ◌∙◌}
use Rattle.std.specs.List.{AllByRecursion as Every}
use Rattle.lie_ring.specs.declared.failures.PolyFail.TheVariants.{Past}
use Rattle.lie_lin.specs.Powers.{IsDividedTerm}
use Rattle.lie_lin.proofs.DividedForms.{coefficient_made}
use Rattle.lie_lin.proofs.DividedLimits.{divided_starved}
use Rattle.lie_lin.proofs.normalised.divided_coefficient.Goals as goal
use Rattle.lie_jet.proofs.TotalParts.{entries_same}
use Rattle.lie_math.proofs.EveryElement.{every_at}
use Rattle.lie_ring.proofs.Fronts.{take_more, all_taken}

pub push_divided-requires-clause-divides : goal.push_divided-requires-clause-divides
push_divided-requires-clause-divides c =
    every_at (IsDividedTerm c.args.mono.now c.args.number) c.as_slice-term-items.result.now c.loop-term.term-index c.term-item.result c.loop-term-test.true c.term-item.is
    (subst (Every (IsDividedTerm c.args.mono.now c.args.number)) (sym (c.as_slice-term-items.ensures.value ∙ sym (entries_same c.in_ok-terms.terms.items) ∙ c.in_ok-terms.ensures)) c.requires.divides)

pub loop-term-preserved : goal.loop-term-preserved
loop-term-preserved c =
    c.in_ok-push_divided.ensures
    ∙ ap (λ xs. xs ++ c.term-item.result ∷ []) c.loop-term.invariant ∙ take_more c.as_slice-term-items.result.now c.loop-term.term-index c.term-item.result c.loop-term-test.true c.term-item.is

pub returns-in-Ok : goal.returns-in-Ok
returns-in-Ok c =
    coefficient_made c.args.mono.now c.args.number c.loop-term.out.items c.as_slice.result.now c.args.coefficient.now
    (c.loop-term.invariant ∙ all_taken c.as_slice-term-items.result.now c.loop-term.term-index (omega (arith, c.loop-term-test.false)) ∙ c.as_slice-term-items.ensures.value ∙ sym (entries_same c.in_ok-terms.terms.items) ∙ c.in_ok-terms.ensures)
    c.as_slice.ensures.value c.in-Ok.rest c.in-Ok.ensures.sum

pub unreachable-requires : goal.unreachable-requires
unreachable-requires c =
    divided_starved c.args.mono.now c.args.number c.requires.apart c.as_slice.result.now c.loop-term.out.items c.args.coefficient.now c.coefficient_fits.ensures c.as_slice.ensures.value
    (c.loop-term.invariant ∙ all_taken c.as_slice-term-items.result.now c.loop-term.term-index (omega (arith, c.loop-term-test.false)) ∙ c.as_slice-term-items.ensures.value ∙ sym (entries_same c.in_ok-terms.terms.items) ∙ c.in_ok-terms.ensures)
    (Past c.in-Err-Past.field-0-0) (rw c.in-Err-Past.field-0-is at c.in-Err-Past.ensures.past)
