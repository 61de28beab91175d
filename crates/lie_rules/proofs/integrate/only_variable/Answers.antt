use Rattle.std.proofs.Common.{◌<◌, ◌∙◌, ap, sym, arith, get_or}
use Rattle.lie_math.proofs.Counts.{order_trimmed}
use Rattle.lie_rules.proofs.OneVariable.{zero_next, only_counts, other_counts}
use Rattle.lie_rules.proofs.integrate.only_variable.Goals as goal

pub returns-then-order_of_derivative-from : goal.returns-then-order_of_derivative-from
returns-then-order_of_derivative-from c =
    let p : 0 < get_or c.args.der.now.counts c.from.result 0 = (let n = c.if-count-ne0.true in omega arith) in
    other_counts c.args.der.now.counts c.loop-var.var (get_or c.args.der.now.counts c.from.result 0)
    (ap (λ n. get_or c.args.der.now.counts n 0) (sym c.from.ensures)) p
    (λ e. c.if-order_of_derivative-from.true
    (c.order_of_derivative.ensures ∙ order_trimmed c.args.der.now.counts ∙ e ∙ sym c.from-then-count-ne0.ensures))

pub returns-then-count-ne0 : goal.returns-then-count-ne0
returns-then-count-ne0 c =
    let p : 0 < get_or c.args.der.now.counts c.from.result 0 = (let n = c.if-count-ne0.true in omega arith) in (
      c.loop-var-test.true,
      p,
      only_counts c.loop-var.var c.args.der.now.counts
          (get_or c.args.der.now.counts c.from.result 0) c.loop-var.invariant
          (ap (λ n. get_or c.args.der.now.counts n 0) (sym c.from.ensures)) p
          (sym (order_trimmed c.args.der.now.counts) ∙ sym c.order_of_derivative.ensures ∙ c.if-order_of_derivative-from.false
          ∙ c.from-then-count-ne0.ensures),
    )

pub loop-var-preserved : goal.loop-var-preserved
loop-var-preserved c = zero_next c.loop-var.var c.args.der.now.counts c.loop-var.invariant
    (ap (λ n. get_or c.args.der.now.counts n 0) (sym c.from.ensures) ∙ c.if-count-ne0.false)
