use Rattle.std.proofs.Common.{◌≡◌, ℕ, take}
use Rattle.lie_jet.specs.Listed.{sum_listed, bulk_listed}
use Rattle.lie_solved.specs.SolvedForms.{solved_equations}
use Rattle.lie_reduce.specs.ReducedTerms.{exponents_at, reduced_term}
use Rattle.lie_reduce.proofs.ReductionSteps.{total, sized_term}
use Rattle.lie_reduce.proofs.reduction.reduced.Given as goal

abbrev pub invariant-loop-term : goal.invariant-loop-term
invariant-loop-term l = (e : ℕ → ℕ) → l.greatest ≡ exponents_at l.space l.rules e
    → (sum_listed l.made.items ≡ total (reduced_term (solved_equations l.space l.rules) e) (take l.term-index l.term-items))
    × (bulk_listed l.made.items ≡ total (sized_term (solved_equations l.space l.rules) e) (take l.term-index l.term-items))
