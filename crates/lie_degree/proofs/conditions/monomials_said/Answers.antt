use Rattle.std.proofs.Common.{refl, ap, subst, ◌∙◌, arith}
use Rattle.std.specs.Prelude.{◌+◌, ◌++◌, drop}
use Rattle.std.specs.List.Sorted.{IsStrictlySortedBy}
use Rattle.lie_math.specs.Monomial.{monomial_cmp}
use Rattle.lie_rows.proofs.RowLoops.{drop_at}
use Rattle.lie_degree.specs.Gathered.{AreGathered}
use Rattle.lie_degree.specs.Said.{monomials_of, said_monomials}
use Rattle.lie_degree.proofs.Gathered.{HaveSame, same_start, gather_next, gathered_all, none_sorted}
use Rattle.std.proofs.Math.ListN.{drop_of_length-le}
use Rattle.lie_degree.proofs.conditions.monomials_said.Goals as goal

pub loop-one-init : goal.loop-one-init
loop-one-init c = record {
  sorted = subst (IsStrictlySortedBy monomial_cmp) (Rattle.std.proofs.Common.sym c.new-monos.ensures.items) none_sorted;
  same = same_start _ _ (ap (λ xs. xs ++ said_monomials c.args.said.now) c.new-monos.ensures.items);
}

pub loop-one-preserved : goal.loop-one-preserved
loop-one-preserved c = record {
  sorted = c.in_ok-insert_monomials.ensures.sorted;
  same = gather_next c.loop-one.monos.items (monomials_of c.one-item.result.terms.items)
      (said_monomials (drop (c.loop-one.one-index + 1) c.args.said.now)) _ c.insert_monomials.new.monos.items
      (subst (λ es. AreGathered (c.loop-one.monos.items ++ monomials_of es) c.insert_monomials.new.monos.items) c.as_slice.ensures.value
      c.in_ok-insert_monomials.ensures)
      (subst (λ xs. HaveSame (c.loop-one.monos.items ++ said_monomials xs) (said_monomials c.args.said.now))
      (drop_at c.args.said.now c.loop-one.one-index c.one-item.result (omega arith) c.one-item.is) c.loop-one.invariant.same);
}

pub returns : goal.returns
returns c =
    gathered_all c.loop-one.monos.items (said_monomials (drop c.loop-one.one-index c.args.said.now)) _
    (ap said_monomials (drop_of_length-le c.args.said.now (omega arith)))
    c.loop-one.invariant.sorted c.loop-one.invariant.same
