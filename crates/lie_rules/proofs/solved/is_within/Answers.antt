use Rattle.std.proofs.Common.{◌≡◌, ◌∙◌, ap, map, sym, true≢false}
use Rattle.std.specs.Prelude.{false}
use Rattle.lie_lin.specs.Forms.{triples_of}
use Rattle.lie_lin.specs.Systems.{unknown_of}
use Rattle.lie_steps.specs.Equations.{depends, Lacks}
use Rattle.lie_rules.proofs.SolvedSteps.{within_next, within_all}
use Rattle.lie_rules.proofs.solved.is_within.Goals as goal

pub loop-var-preserved-then-depends : goal.loop-var-preserved-then-depends
loop-var-preserved-then-depends c =
    within_next (λ v. depends (map unknown_of c.args.unknowns.now) c.args.number v ≡ false
    → Lacks (map unknown_of c.args.unknowns.now) v c.args.form.now) c.loop-var.var c.loop-var.invariant
    (λ e. absurd (true≢false (sym c.if-depends.true ∙ c.depends.ensures ∙ e)))

pub returns-then-occurs : goal.returns-then-occurs
returns-then-occurs c = λ h.
    (rw c.if-occurs.true at (c.occurs.ensures c.args.form.now (ap triples_of c.as_slice.ensures.value ∙ c.in_ok-list.ensures)))
    (h c.loop-var.var (sym c.depends.ensures ∙ c.if-depends.false))

pub loop-var-preserved : goal.loop-var-preserved
loop-var-preserved c =
    within_next (λ v. depends (map unknown_of c.args.unknowns.now) c.args.number v ≡ false
    → Lacks (map unknown_of c.args.unknowns.now) v c.args.form.now) c.loop-var.var c.loop-var.invariant
    (λ e. rw c.if-occurs.false at (c.occurs.ensures c.args.form.now (ap triples_of c.as_slice.ensures.value ∙ c.in_ok-list.ensures)))

pub returns : goal.returns
returns c = within_all (map unknown_of c.args.unknowns.now) c.args.number c.args.form.now c.loop-var.var c.requires c.loop-var-test.false
    c.loop-var.invariant
