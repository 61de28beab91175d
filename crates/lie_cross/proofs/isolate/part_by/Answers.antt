use Rattle.std.proofs.Common.{◌≤◌, map, subst}
use Rattle.lie_lin.specs.Systems.{unknown_of}
use Rattle.lie_jet.proofs.TotalParts.{if_ok}
use Rattle.lie_steps.specs.Isolate.{free_degree}
use Rattle.lie_cross.proofs.IsolatedForms.{isolated_part}
use Rattle.lie_cross.proofs.isolate.part_by.Goals as goal

pub returns-clause-found : goal.returns-clause-found
returns-clause-found c =
    let us = map unknown_of c.args.unknowns.now in
    let low : free_degree us c.args.equation.now c.args.var ≤ 31 =
    subst (λ k. k ≤ 31) c.in_ok-degree.ensures c.if-degree-gt-MAX_FREE_DEGREE.false in
    if_ok c.part_of_derivative.result
    (λ found h. isolated_part us c.args.equation.now c.args.var c.if-not-is_mixed.ensures low found h)
    c.part_of_derivative.ensures.found
