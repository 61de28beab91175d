use Rattle.std.proofs.Common.{arith, sym, ap₂, ◌∙◌}
use Rattle.lie_math.proofs.SortedLists.{less_equal, less_greater}
use Rattle.lie_systems.specs.EquationOrder.{equation_cmp}
use Rattle.lie_systems.proofs.EquationOrder.{equation_cmp_total}
use Rattle.lie_lin.proofs.DecidingParts.{sorted_first, sorted_next, not_sorted}
use Rattle.lie_lin.proofs.validity.are_in_order.Goals as goal

pub loop-i-init : goal.loop-i-init
loop-i-init c = record { from = omega arith; rise = sorted_first equation_cmp c.args.list.now }

pub loop-i-preserved : goal.loop-i-preserved
loop-i-preserved c = record {
  from = omega arith;
  rise = sorted_next equation_cmp equation_cmp_total c.args.list.now c.loop-i.i c.index-list-i.result c.index-list-i-in-loop-i.result c.loop-i.invariant.from c.loop-i-test.true c.loop-i.invariant.rise
      (sym (ap₂ equation_cmp c.index-list-i.is c.index-list-i-in-loop-i.is) ∙ sym c.in_ok-compare_equations.ensures ∙ c.in-Less.is);
}

pub returns-in-Equal : goal.returns-in-Equal
returns-in-Equal c =
    not_sorted equation_cmp c.args.list.now c.loop-i.i c.index-list-i.result c.index-list-i-in-loop-i.result c.loop-i.invariant.from c.loop-i-test.true
    (λ e. less_equal e (sym (ap₂ equation_cmp c.index-list-i.is c.index-list-i-in-loop-i.is) ∙ sym c.in_ok-compare_equations.ensures ∙ c.in-Equal.is))

pub returns-in-Greater : goal.returns-in-Greater
returns-in-Greater c =
    not_sorted equation_cmp c.args.list.now c.loop-i.i c.index-list-i.result c.index-list-i-in-loop-i.result c.loop-i.invariant.from c.loop-i-test.true
    (λ e. less_greater e (sym (ap₂ equation_cmp c.index-list-i.is c.index-list-i-in-loop-i.is) ∙ sym c.in_ok-compare_equations.ensures ∙ c.in-Greater.is))
