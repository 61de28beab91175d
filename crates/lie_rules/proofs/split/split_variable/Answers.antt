use Rattle.std.proofs.Common.{◌+◌, ◌∙◌, arith, ap, subst, sym, true≢false}
use Rattle.lie_steps.specs.Split.{IsSplitBy}
use Rattle.lie_rules.proofs.SplitSteps.{below_next, no_split, split_at}
use Rattle.lie_rules.proofs.split.split_variable.Goals as goal

pub returns-then-splits : goal.returns-then-splits
returns-then-splits c =
    split_at (c.args.system.now.space.p + c.args.system.now.space.q) c.args.system.now.system c.args.place c.requires
    c.equation_at-eq.result.now c.equation_at-eq.ensures.equation c.loop-var.var
    (subst (λ us. IsSplitBy us c.equation_at-eq.result.now c.loop-var.var) c.unknowns.ensures (c.in_ok-splits.ensures.0 c.if-splits.true))
    c.loop-var.invariant

pub loop-var-preserved : goal.loop-var-preserved
loop-var-preserved c =
    below_next (λ w. ¬ (IsSplitBy c.args.system.now.system.unknowns c.equation_at-eq.result.now w)) c.loop-var.var c.loop-var.invariant
    (λ s. absurd (true≢false (sym (c.in_ok-splits.ensures.1
    (subst (λ us. IsSplitBy us c.equation_at-eq.result.now c.loop-var.var) (sym c.unknowns.ensures) s)) ∙ c.if-splits.false)))

pub returns : goal.returns
returns c =
    let is = c.space.view_is ∙ c.space-space.ensures.space in
    no_split (c.args.system.now.space.p + c.args.system.now.space.q) c.args.system.now.system c.args.place c.requires
    c.equation_at-eq.result.now c.equation_at-eq.ensures.equation c.equation_at-eq.ensures.form
    c.loop-var.var (omega (arith, c.loop-var-test.false, ap (λ s. s.p) is, ap (λ s. s.q) is)) c.loop-var.invariant
