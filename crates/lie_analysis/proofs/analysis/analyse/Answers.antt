use Rattle.std.specs.Prelude.{option_map}
use Rattle.std.proofs.lemmas.Result.{err_from_is_err_and}
use Rattle.lie_jet.proofs.TotalSteps.{if_err}
use Rattle.lie_geometry.specs.CoordinateLaws.{IsSpace}
use Rattle.lie_solved.specs.Solved.{equations_of}
use Rattle.lie_report.specs.Reports.{found_of}
use Rattle.lie_analysis.specs.declared.analysis.Analysis.{Analysis}
use Rattle.lie_analysis.proofs.AnalysisSteps.{opening_cause, run_cause, closed, algebra_cause, analysed, both_told, told_and_means}
use Rattle.lie_analysis.proofs.analysis.analyse.Goals as goal

pub returns-in-Err-clause-unfinished : goal.returns-in-Err-clause-unfinished
returns-in-Err-clause-unfinished c =
    let S = c.args.solved.now.system.space in
    let rs = equations_of c.args.solved.now in
    rw c.unfinished_at.ensures (opening_cause S rs c.args.budget c.in-Err.fail c.in-Err.ensures.past)

pub returns-in_err-last-clause-unfinished : goal.returns-in_err-last-clause-unfinished
returns-in_err-last-clause-unfinished c =
    let S = c.args.solved.now.system.space in
    let rs = equations_of c.args.solved.now in
    let is : IsSpace S = (c.space_is_small.ensures.some_p, c.space_is_small.ensures.some_q) in
    let made = c.in-Ok.opening in
    let parts = c.works_are_of_parts.ensures S is rs made.system c.in-Ok.ensures.opening c.in-Ok.ensures.fits c.args.budget in
    let r = err_from_is_err_and c.from_residual.result c.from_residual.ensures.1 in
    rw (r.1, r.2) (run_cause S rs c.args.budget made made c.in-Ok.ensures.space parts c.in_err-last.field-0.0 c.in_err-last.ensures.stopped)

pub told_of-requires-clause-closed : goal.told_of-requires-clause-closed
told_of-requires-clause-closed c =
    let S = c.args.solved.now.system.space in
    let rs = equations_of c.args.solved.now in
    let is : IsSpace S = (c.space_is_small.ensures.some_p, c.space_is_small.ensures.some_q) in
    let made = c.in-Ok.opening in
    let parts = c.works_are_of_parts.ensures S is rs made.system c.in-Ok.ensures.opening c.in-Ok.ensures.fits c.args.budget in
    closed S rs c.args.budget made c.in_ok-last.last c.in-Ok.ensures.space parts c.in-Ok.ensures.opening c.in_ok-last.steps
    c.in_ok-last.ensures.ended c.in_ok-last.ensures.kept c.end_basis_is_closed.ensures is c.args.solved.now.ready.solved
    c.args.solved.now.ready.high

pub returns-clause-analysed : goal.returns-clause-analysed
returns-clause-analysed c =
    let S = c.args.solved.now.system.space in
    let rs = equations_of c.args.solved.now in
    let is : IsSpace S = (c.space_is_small.ensures.some_p, c.space_is_small.ensures.some_q) in
    let made = c.in-Ok.opening in
    let parts = c.works_are_of_parts.ensures S is rs made.system c.in-Ok.ensures.opening c.in-Ok.ensures.fits c.args.budget in
    both_told c.told_of.result (λ (a : Analysis) told fits.
    analysed S rs c.args.budget made c.in_ok-last.last c.in-Ok.ensures.space parts c.in-Ok.ensures.opening c.in_ok-last.steps
    c.in_ok-last.ensures.ended c.in_ok-last.ensures.kept a.system.system (option_map found_of a.found) told fits)
    c.told_of.ensures.told c.told_of.ensures.fits

pub returns-clause-meaning : goal.returns-clause-meaning
returns-clause-meaning c =
    let S = c.args.solved.now.system.space in
    let rs = equations_of c.args.solved.now in
    let is : IsSpace S = (c.space_is_small.ensures.some_p, c.space_is_small.ensures.some_q) in
    let made = c.in-Ok.opening in
    let parts = c.works_are_of_parts.ensures S is rs made.system c.in-Ok.ensures.opening c.in-Ok.ensures.fits c.args.budget in
    both_told c.told_of.result (λ (a : Analysis) told fits.
    told_and_means S rs c.args.budget made c.in_ok-last.last c.in-Ok.ensures.space parts c.in-Ok.ensures.opening c.in_ok-last.steps
    c.in_ok-last.ensures.ended c.in_ok-last.ensures.kept c.analysis_is_symmetries.ensures is c.args.solved.now.ready.solved
    c.args.solved.now.ready.high a.system.system (option_map found_of a.found) told)
    c.told_of.ensures.told c.told_of.ensures.fits

pub returns-clause-unfinished : goal.returns-clause-unfinished
returns-clause-unfinished c =
    let S = c.args.solved.now.system.space in
    let rs = equations_of c.args.solved.now in
    let is : IsSpace S = (c.space_is_small.ensures.some_p, c.space_is_small.ensures.some_q) in
    let made = c.in-Ok.opening in
    let parts = c.works_are_of_parts.ensures S is rs made.system c.in-Ok.ensures.opening c.in-Ok.ensures.fits c.args.budget in
    if_err c.told_of.result
    (algebra_cause S rs c.args.budget made c.in_ok-last.last c.in-Ok.ensures.space parts c.in-Ok.ensures.opening c.in_ok-last.steps
    c.in_ok-last.ensures.ended c.in_ok-last.ensures.kept)
    c.told_of.ensures.cause
