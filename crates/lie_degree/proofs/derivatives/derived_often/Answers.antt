use Rattle.std.proofs.Common.{sym, ap, subst, ◌∙◌, arith}
use Rattle.std.specs.Prelude.{◌≤◌, ◌+◌, ◌-◌}
use Rattle.std.specs.Fn.{iterate}
use Rattle.lie_math.specs.PartialDerivative.{partial}
use Rattle.lie_degree.specs.SmallTerms.{IsSmall}
use Rattle.lie_degree.proofs.SmallTerms.{small_partial, small_left, small_done}
use Rattle.lie_degree.proofs.derivatives.derived_often.Goals as goal

pub loop-preserved : goal.loop-preserved
loop-preserved c = record {
  small = subst IsSmall (sym c.in_ok-made.ensures) (small_partial c.args.var c.loop.made c.loop.invariant.small);
  left = ap (iterate (partial c.args.var) (c.args.times - (c.loop.counter + 1))) c.in_ok-made.ensures
      ∙ small_left c.args.var c.loop.made c.args.times c.loop.counter (iterate (partial c.args.var) c.args.times c.args.small)
      (omega arith) c.loop.invariant.left;
}

pub returns-clause-derivative : goal.returns-clause-derivative
returns-clause-derivative c =
    let e : c.args.times ≤ c.loop.counter = omega (arith, c.loop-test.false) in
    small_done c.args.var c.loop.made c.args.times c.loop.counter
    (iterate (partial c.args.var) c.args.times c.args.small) e c.loop.invariant.left
