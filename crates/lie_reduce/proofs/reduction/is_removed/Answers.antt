use Rattle.std.proofs.Common.{sym, get_or, true≢false}
use Rattle.lie_solved.specs.SolvedForms.{solved_equations}
use Rattle.lie_geometry.specs.SolvedEquations.{replacement}
use Rattle.lie_reduce.proofs.Replacing.{removed_when, none_removed}
use Rattle.lie_reduce.proofs.reduction.is_removed.Goals as goal

pub returns-in-Some : goal.returns-in-Some
returns-in-Some c = removed_when (get_or c.args.rules.now c.in-Some.i c.index-rules-i.result).right (replacement (solved_equations c.args.space c.args.rules.now) c.args.number) c.len.result (c.in-Some.ensures.1 c.index-rules-i.result) c.len.ensures.count

pub returns-in-None : goal.returns-in-None
returns-in-None c = ((λ h. absurd (true≢false (sym h))), (λ z. absurd (none_removed (solved_equations c.args.space c.args.rules.now) c.args.number c.in-None.ensures z)))
