use Rattle.std.specs.Prelude.{◌++◌, drop}
use Rattle.std.specs.List.Sorted.{IsStrictlySortedBy}
use Rattle.lie_math.specs.Monomial.{monomial_cmp}
use Rattle.lie_degree.specs.Said.{said_monomials}
use Rattle.lie_degree.proofs.Gathered.{HaveSame}
use Rattle.lie_degree.proofs.conditions.monomials_said.Given as goal

abbrev pub invariant-loop-one : goal.invariant-loop-one
invariant-loop-one l = record {
  sorted : IsStrictlySortedBy monomial_cmp l.monos.items;
  same : HaveSame (l.monos.items ++ said_monomials (drop l.one-index l.said)) (said_monomials l.said);
}
