use Rattle.std.proofs.Common.{[], ◌≡◌, ◌<◌, ◌+◌, ◌-◌, ◌∙◌, arith, drop, get_or, length, sym, subst}
use Rattle.lie_normal.proofs.Falling.{get_same}
use Rattle.lie_math.specs.FiniteSum as finite
use Rattle.lie_math.specs.LinearForm.{LinearForm, forms}
use Rattle.lie_math.specs.Polynomial.{0ᴾ}
use Rattle.lie_normal.proofs.Bounds.{kept_form}
use Rattle.lie_rules.proofs.FreshSteps.{sum_before, sum_from, sum_whole, sum_without}
use Rattle.lie_rules.proofs.fresh.fresh_sum.Goals as goal

pub put_power-requires : goal.put_power-requires
put_power-requires c =
    subst (λ (E : LinearForm). finite.value forms E (record { unknown = c.args.next + (c.loop-i.i - 1); counts = [] }) ≡ 0ᴾ)
    (sym c.loop-i.invariant.sum)
    (sum_without (c.args.next + (c.loop-i.i - 1)) (c.args.next + c.loop-i.i) (drop c.loop-i.i c.args.powers.now) (omega arith))

pub loop-i-preserved : goal.loop-i-preserved
loop-i-preserved c = record {
  sum = (
      let k = c.loop-i.i - 1 in
      let inside : k < length c.args.powers.now = omega arith in
      sum_before c.args.next k c.args.powers.now (get_or c.args.powers.now k (0, 0)) c.loop-i.sum c.put_power.new.sum inside
      (get_same c.args.powers.now k (0, 0) inside)
      (sum_from c.args.next c.loop-i.i k c.args.powers.now c.loop-i.sum
      (let some : 0 < c.loop-i.i = c.loop-i-test.true in omega arith) c.loop-i.invariant.sum) c.in_ok-put_power.ensures
      );
  inside = omega arith;
}

pub returns : goal.returns
returns c =
    kept_form c.of_terms.result c.loop-i.sum c.into_terms.result.items c.of_terms.ensures c.into_terms.ensures
    ∙ c.loop-i.invariant.sum ∙ sum_whole c.args.next c.loop-i.i c.args.powers.now c.loop-i-test.false
