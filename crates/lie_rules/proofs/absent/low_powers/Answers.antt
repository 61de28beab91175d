use Rattle.std.proofs.Common.{◌<◌, ◌∙◌, ◌++◌, ap, arith, get_or, subst, sym}
use Rattle.std.specs.List.{AllByRecursion as Every}
use Rattle.lie_math.proofs.EveryElement.{every-append}
use Rattle.lie_ring.proofs.Fronts.{all_taken}
use Rattle.lie_steps.specs.Absent.{Power, low_powers, powers_from}
use Rattle.lie_rules.proofs.AbsentSteps.{powers_of_counts, powers_pushed}
use Rattle.lie_rules.proofs.FreshSteps.{powers_below}
use Rattle.lie_rules.proofs.absent.low_powers.Goals as goal

pub loop-var-preserved : goal.loop-var-preserved
loop-var-preserved c =
    let x = get_or c.args.der.now.counts c.from.result 0 in
    record {
      powers =
          c.in_ok-push_powers.ensures ∙ ap (λ cs. cs ++ powers_from c.loop-var.var 0 x) c.loop-var.invariant.powers
          ∙ powers_pushed c.args.der.now.counts c.loop-var.var x (omega arith) (ap (λ i. get_or c.args.der.now.counts i 0) c.from.ensures);
      within =
          subst (Every (λ (b : Power). b.0 < 8)) (sym c.in_ok-push_powers.ensures)
          (every-append (λ (b : Power). b.0 < 8) c.loop-var.powers.items (powers_from c.loop-var.var 0 x) c.loop-var.invariant.within
          (powers_below c.loop-var.var 8 0 x (omega arith)));
    }

pub returns-clause-powers : goal.returns-clause-powers
returns-clause-powers c =
    c.loop-var.invariant.powers ∙ ap low_powers (all_taken c.args.der.now.counts c.loop-var.var (omega arith))
    ∙ sym (powers_of_counts c.args.der.now.counts)
