use Rattle.std.proofs.Common.{sym, ap, subst, ◌∙◌}
use Rattle.std.specs.Prelude.{◌++◌, ◌∷◌, [], insert as insert_at}
use Rattle.lie_math.specs.Monomial.{monomial_cmp}
use Rattle.lie_lin.specs.EquationLists.{IsInsertionPoint}
use Rattle.lie_degree.specs.Gathered.{AreGathered}
use Rattle.lie_degree.proofs.Gathered.{monomial_inserted}
use Rattle.lie_degree.proofs.conditions.insert_monomial.Goals as goal

pub returns-in_ok-insert : goal.returns-in_ok-insert
returns-in_ok-insert c =
    subst (AreGathered (c.args.monos.now.items ++ c.args.mono.now ∷ []))
    (sym (c.in_ok-insert.ensures.items ∙ ap (insert_at c.args.monos.now.items c.in-Err.place) c.in_ok-copy.ensures))
    (monomial_inserted c.args.monos.now.items c.args.mono.now c.in-Err.place c.requires
    (subst (λ ks. IsInsertionPoint monomial_cmp c.args.mono.now ks c.in-Err.place) c.as_slice.ensures.value
    (rw c.in-Err.is at c.place_of.ensures)))
