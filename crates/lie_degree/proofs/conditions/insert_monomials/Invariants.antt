use Rattle.std.specs.Prelude.{◌++◌, drop}
use Rattle.std.specs.List.Sorted.{IsStrictlySortedBy}
use Rattle.lie_math.specs.Monomial.{monomial_cmp}
use Rattle.lie_degree.specs.Said.{monomials_of}
use Rattle.lie_degree.proofs.Gathered.{HaveSame}
use Rattle.lie_degree.proofs.conditions.insert_monomials.Given as goal

abbrev pub invariant-loop-term : goal.invariant-loop-term
invariant-loop-term l = record {
  sorted : IsStrictlySortedBy monomial_cmp l.monos.items;
  same : HaveSame (l.monos.items ++ monomials_of (drop l.term-index l.terms)) (l.fn.monos.items ++ monomials_of l.terms);
}
