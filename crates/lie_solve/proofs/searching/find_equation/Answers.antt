use Rattle.std.proofs.Common.{refl, ◌+◌}
use Rattle.std.proofs.lemmas.Result.{err_from_is_err_and}
use Rattle.lie_tables.proofs.Following.{follows_on}
use Rattle.lie_change.specs.Tried.{at}
use Rattle.lie_solve.specs.RuleNames.{rule_of}
use Rattle.lie_solve.proofs.Places.{equation_place, next_equation}
use Rattle.lie_solve.proofs.Searches.{reached_first, turn_inside, turn_found, turn_next, turn_cause, turns_end}
use Rattle.lie_solve.proofs.searching.find_equation.Goals as goal

pub loop-first-init : goal.loop-first-init
loop-first-init c = record { same = refl; indexed = (refl, c.requires.indexed); reached = reached_first c.args.system.now.system (rule_of c.args.rule) c.requires.passed }

pub returns-in_err-found-clause-past : goal.returns-in_err-found-clause-past
returns-in_err-found-clause-past c =
    let r = rule_of c.args.rule in
    let i = c.loop-first.first in
    let same = c.loop-first.invariant.same in
    let lt = turn_inside c.args.attempt r c.args.system.now c.loop-first.system same i c.equations-count.result.now
    c.equations-count.ensures c.loop-first-test.true in
    let p = err_from_is_err_and c.from_residual.result c.from_residual.ensures.1 in
    rw (p.1, p.2) (turn_cause c.args.attempt r c.args.system.now c.loop-first.system same
    (at i) c.in_err-found.field-0.0 c.loop-first.invariant.reached
    (equation_place r c.loop-first.system.system i c.requires.rule lt) c.in_err-found.ensures.past)

pub returns-then-found-clause-found : goal.returns-then-found-clause-found
returns-then-found-clause-found c =
    let r = rule_of c.args.rule in
    let i = c.loop-first.first in
    let same = c.loop-first.invariant.same in
    let lt = turn_inside c.args.attempt r c.args.system.now c.loop-first.system same i c.equations-count.result.now
    c.equations-count.ensures c.loop-first-test.true in
    turn_found c.args.attempt r c.args.system.now c.loop-first.system same
    (at i) c.attempt_at.new.system c.in_ok-found.found c.if-found.true c.loop-first.invariant.reached
    (equation_place r c.loop-first.system.system i c.requires.rule lt)
    c.in_ok-found.ensures.attempted c.in_ok-found.ensures.fits

pub loop-first-preserved : goal.loop-first-preserved
loop-first-preserved c =
    let r = rule_of c.args.rule in
    let i = c.loop-first.first in
    let n = turn_next c.args.attempt r c.args.system.now c.loop-first.system c.loop-first.invariant.same (at i)
    (at (i + 1)) c.attempt_at.new.system c.in_ok-found.found c.if-found.false c.loop-first.invariant.reached
    (next_equation r c.loop-first.system.system i (i + 1) refl c.requires.rule) c.in_ok-found.ensures.attempted c.in_ok-found.ensures.fits
    in
    record { same = n.0; indexed = follows_on c.args.tables.now c.loop-first.tables c.attempt_at.new.tables _ _ c.loop-first.invariant.indexed c.attempt_at.ensures.indexed; reached = n.1 }

pub returns-clause-found : goal.returns-clause-found
returns-clause-found c =
    turns_end c.args.attempt (rule_of c.args.rule) c.args.system.now c.loop-first.system c.loop-first.invariant.same c.loop-first.first
    c.equations-count.result.now c.equations-count.ensures c.loop-first-test.false c.loop-first.invariant.reached
