use Rattle.std.proofs.Common.{◌≡◌, ◌+◌, ◌∙◌, sym, subst, refl, arith}
use Rattle.lie_solve.specs.Runs.{IsStopped}
use Rattle.lie_solve.specs.RuleNames.{rule_of}
use Rattle.lie_solve.proofs.StepRuns.{running_first, running_next, running_past, budget_past, stopped, step_ends, search_ends, search_finds}
use Rattle.lie_solve.proofs.runs.run_indexed.Goals as goal

pub loop-made-init : goal.loop-made-init
loop-made-init c = record { running = running_first c.args.indexed.system c.args.budget; space = refl }

pub returns-in-Ok-None : goal.returns-in-Ok-None
returns-in-Ok-None c =
    let m = c.args.indexed.space.p + c.args.indexed.space.q in
    let e = rw c.in-Ok-None.field-0-is at c.in-Ok-None.ensures.next in
    let h = step_ends m c.args.indexed c.loop-made.indexed c.requires.valid c.args.budget c.loop-made.made
    c.loop-made.invariant.running c.loop-made.invariant.space c.into_system.result c.loop-made-test.true
    (c.into_system.ensures ∙ e.0, e.1) c.in-Ok-None.ensures.fits in
    record { ended = h.0; kept = h.1; stopped = tt }

pub returns-in-Err-clause-stopped : goal.returns-in-Err-clause-stopped
returns-in-Err-clause-stopped c =
    let m = c.args.indexed.space.p + c.args.indexed.space.q in
    subst (IsStopped c.args.indexed c.args.budget) (sym c.stopped_at.ensures)
    (stopped c.args.indexed c.args.budget (c.loop-made.made + 1) c.in-Err.fail
    (running_past m c.args.indexed.system c.requires.valid c.args.budget c.loop-made.made c.loop-made.indexed.system
    c.loop-made.invariant.running c.loop-made-test.true c.in-Err.fail (c.loop-made.made + 1) refl c.in-Err.ensures.past))

pub loop-made-preserved : goal.loop-made-preserved
loop-made-preserved c =
    let m = c.args.indexed.space.p + c.args.indexed.space.q in
    let e = rw c.in-Ok-Some.field-0-is at c.in-Ok-Some.ensures.next in
    record {
      running =
          running_next m c.args.indexed.system c.requires.valid c.args.budget c.loop-made.made c.loop-made.indexed.system
          c.loop-made.invariant.running c.step.new.self.system (c.loop-made.made + 1) refl c.loop-made-test.true
          (e.1.0) c.in-Ok-Some.ensures.fits;
      space = e.0 ∙ c.loop-made.invariant.space;
    }

pub returns-in-Ok-Some-find-clause-stopped : goal.returns-in-Ok-Some-find-clause-stopped
returns-in-Ok-Some-find-clause-stopped c =
    let m = c.args.indexed.space.p + c.args.indexed.space.q in
    let n : c.loop-made.made ≡ c.args.budget = omega (arith, c.loop-made-test.false) in
    let e = rw c.in-Ok-Some-find.field-0-is at c.in-Ok-Some-find.ensures.found in
    search_finds m c.args.indexed c.loop-made.indexed c.requires.valid c.args.budget c.loop-made.made c.loop-made.invariant.running
    c.loop-made.invariant.space c.into_system-in-Ok-Some-find.result n c.in-Ok-Some-find.ensures.fits (rule_of c.in-Ok-Some-find.field-0-0)
    (c.into_system-in-Ok-Some-find.ensures ∙ e.0, e.1)

pub returns-in-Ok-None-find : goal.returns-in-Ok-None-find
returns-in-Ok-None-find c =
    let m = c.args.indexed.space.p + c.args.indexed.space.q in
    let n : c.loop-made.made ≡ c.args.budget = omega (arith, c.loop-made-test.false) in
    let e = rw c.in-Ok-None-find.field-0-is at c.in-Ok-None-find.ensures.found in
    let h = search_ends m c.args.indexed c.loop-made.indexed c.requires.valid c.args.budget c.loop-made.made
    c.loop-made.invariant.running c.loop-made.invariant.space c.into_system-in-Ok-None-find.result n c.in-Ok-None-find.ensures.fits
    (c.into_system-in-Ok-None-find.ensures ∙ e.0, e.1) in
    record { ended = h.0; kept = h.1; stopped = tt }

pub returns-in-Err-find-clause-stopped : goal.returns-in-Err-find-clause-stopped
returns-in-Err-find-clause-stopped c =
    let m = c.args.indexed.space.p + c.args.indexed.space.q in
    let n : c.loop-made.made ≡ c.args.budget = omega (arith, c.loop-made-test.false) in
    subst (IsStopped c.args.indexed c.args.budget) (sym c.stopped_at-in-Err-find.ensures)
    (stopped c.args.indexed c.args.budget (c.args.budget + 1) c.in-Err-find.fail
    (budget_past m c.args.indexed.system c.requires.valid c.args.budget c.loop-made.made c.loop-made.indexed.system
    c.loop-made.invariant.running n c.in-Err-find.fail (c.args.budget + 1) (omega arith) c.in-Err-find.ensures.past))
