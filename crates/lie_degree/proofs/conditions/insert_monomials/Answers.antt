use Rattle.std.proofs.Common.{refl, ap, subst, arith}
use Rattle.std.specs.Prelude.{◌+◌, ◌++◌, ◌∷◌, [], drop}
use Rattle.lie_rows.proofs.RowLoops.{drop_at}
use Rattle.lie_degree.specs.Said.{monomials_of}
use Rattle.lie_degree.proofs.Gathered.{HaveSame, same_start, gather_next, gathered_all}
use Rattle.std.proofs.Math.ListN.{drop_of_length-le}
use Rattle.lie_degree.proofs.conditions.insert_monomials.Goals as goal

pub loop-term-init : goal.loop-term-init
loop-term-init c = record { sorted = c.requires; same = same_start _ _ refl }

pub loop-term-preserved : goal.loop-term-preserved
loop-term-preserved c = record {
  sorted = c.in_ok-insert_monomial.ensures.sorted;
  same = gather_next c.loop-term.monos.items (c.term-item.result.0 ∷ [])
      (monomials_of (drop (c.loop-term.term-index + 1) c.args.terms.now)) _ c.insert_monomial.new.monos.items
      c.in_ok-insert_monomial.ensures
      (subst (λ xs. HaveSame (c.loop-term.monos.items ++ monomials_of xs) (c.args.monos.now.items ++ monomials_of c.args.terms.now))
      (drop_at c.args.terms.now c.loop-term.term-index c.term-item.result (omega arith) c.term-item.is) c.loop-term.invariant.same);
}

pub returns : goal.returns
returns c =
    gathered_all c.loop-term.monos.items (monomials_of (drop c.loop-term.term-index c.args.terms.now)) _
    (ap monomials_of (drop_of_length-le c.args.terms.now (omega arith)))
    c.loop-term.invariant.sorted c.loop-term.invariant.same
