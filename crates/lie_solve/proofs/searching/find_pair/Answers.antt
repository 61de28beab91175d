use Rattle.std.proofs.Common.{◌∙◌, ◌+◌, ◌<◌, length, refl, sym, subst, arith}
use Rattle.std.proofs.lemmas.Result.{err_from_is_err_and}
use Rattle.lie_steps.specs.Rules.{Cross}
use Rattle.lie_tables.proofs.Following.{follows_on}
use Rattle.lie_change.specs.Tried.{at}
use Rattle.lie_lin.specs.Systems.{SpaceSystem}
use Rattle.lie_solve.proofs.Pairs.{pair, reached_partner, reached_row, partner_place}
use Rattle.lie_solve.proofs.Places.{next_second, first_pair}
use Rattle.lie_solve.proofs.Searches.{reached_first, reached_between, turn_inside, turn_found, turn_next, turn_cause, turns_end}
use Rattle.lie_solve.proofs.searching.find_pair.Goals as goal

pub loop-first-init : goal.loop-first-init
loop-first-init c = record { same = refl; indexed = (refl, c.requires.indexed); reached = reached_first c.args.system.now.system Cross c.requires.passed }

pub loop-second-init : goal.loop-second-init
loop-second-init c =
    let i = c.loop-first.first in
    let lt = turn_inside c.args.attempt Cross c.args.system.now c.loop-first.system c.loop-first.invariant.same i c.equations-count.result.now
    c.equations-count.ensures c.loop-first-test.true in
    record {
      same = refl;
      indexed = (refl, (c.loop-first.invariant.indexed).1);
      after = omega arith;
      within = omega arith;
      reached = reached_between c.loop-first.system.system Cross (at i) (pair i (i + 1)) c.loop-first.invariant.reached
          (first_pair c.loop-first.system.system i (i + 1) refl);
    }

pub next_partner-requires-clause-place : goal.next_partner-requires-clause-place
next_partner-requires-clause-place c =
    turn_inside c.args.attempt Cross c.args.system.now c.loop-second.system (c.loop-second.invariant.same ∙ c.loop-first.invariant.same)
    c.loop-first.first c.equations-count.result.now c.equations-count.ensures c.loop-first-test.true

pub next_partner-requires-clause-indexed : goal.next_partner-requires-clause-indexed
next_partner-requires-clause-indexed c = (c.loop-second.invariant.indexed).1

pub attempt_at-requires-clause-place : goal.attempt_at-requires-clause-place
attempt_at-requires-clause-place c =
    partner_place c.loop-second.system.system c.loop-first.first c.loop-second.from c.in-Some.second c.loop-second.invariant.after c.in-Some.ensures

pub attempt_at-requires-clause-indexed : goal.attempt_at-requires-clause-indexed
attempt_at-requires-clause-indexed c = (c.loop-second.invariant.indexed).1

pub returns-in_err-found-clause-past : goal.returns-in_err-found-clause-past
returns-in_err-found-clause-past c =
    let S = c.loop-second.system.system in
    let i = c.loop-first.first in
    let j = c.in-Some.second in
    let same = c.loop-second.invariant.same ∙ c.loop-first.invariant.same in
    let reached = reached_partner S i c.loop-second.from j c.loop-second.invariant.reached c.in-Some.ensures in
    let p = err_from_is_err_and c.from_residual.result c.from_residual.ensures.1 in
    rw (p.1, p.2) (turn_cause c.args.attempt Cross c.args.system.now c.loop-second.system same
    (pair i j) c.in_err-found.field-0.0 reached
    (partner_place S i c.loop-second.from j c.loop-second.invariant.after c.in-Some.ensures) c.in_err-found.ensures.past)

pub returns-then-found-clause-found : goal.returns-then-found-clause-found
returns-then-found-clause-found c =
    let S = c.loop-second.system.system in
    let i = c.loop-first.first in
    let j = c.in-Some.second in
    let same = c.loop-second.invariant.same ∙ c.loop-first.invariant.same in
    let reached = reached_partner S i c.loop-second.from j c.loop-second.invariant.reached c.in-Some.ensures in
    turn_found c.args.attempt Cross c.args.system.now c.loop-second.system same
    (pair i j) c.attempt_at.new.system c.in_ok-found.found c.if-found.true reached
    (partner_place S i c.loop-second.from j c.loop-second.invariant.after c.in-Some.ensures)
    c.in_ok-found.ensures.attempted c.in_ok-found.ensures.fits

pub loop-second-preserved : goal.loop-second-preserved
loop-second-preserved c =
    let S = c.loop-second.system.system in
    let i = c.loop-first.first in
    let j = c.in-Some.second in
    let reached = reached_partner S i c.loop-second.from j c.loop-second.invariant.reached c.in-Some.ensures in
    let n = turn_next c.args.attempt Cross c.loop-first.system c.loop-second.system c.loop-second.invariant.same
    (pair i j) (pair i (j + 1)) c.attempt_at.new.system c.in_ok-found.found
    c.if-found.false reached (next_second S i j (j + 1) refl) c.in_ok-found.ensures.attempted c.in_ok-found.ensures.fits in
    let place = partner_place S i c.loop-second.from j c.loop-second.invariant.after c.in-Some.ensures in
    let inside = subst (λ (s : SpaceSystem). j < length s.system.equations) (c.loop-second.invariant.same ∙ sym n.0) place.1 in
    record {
      same = n.0;
      indexed = follows_on c.loop-first.tables c.loop-second.tables c.attempt_at.new.tables _ _ c.loop-second.invariant.indexed c.attempt_at.ensures.indexed;
      after = (let l = place.0 in omega arith);
      within = omega arith;
      reached = n.1;
    }

pub loop-first-preserved : goal.loop-first-preserved
loop-first-preserved c =
    let S = c.loop-second.system.system in
    let i = c.loop-first.first in
    record {
      same = c.loop-second.invariant.same ∙ c.loop-first.invariant.same;
      indexed = follows_on c.args.tables.now c.loop-first.tables c.loop-second.tables _ _ c.loop-first.invariant.indexed c.loop-second.invariant.indexed;
      reached = reached_row S i c.loop-second.from (i + 1) refl c.loop-second.invariant.reached c.in_default.ensures;
    }

pub returns-clause-found : goal.returns-clause-found
returns-clause-found c =
    turns_end c.args.attempt Cross c.args.system.now c.loop-first.system c.loop-first.invariant.same c.loop-first.first
    c.equations-count.result.now c.equations-count.ensures c.loop-first-test.false c.loop-first.invariant.reached
