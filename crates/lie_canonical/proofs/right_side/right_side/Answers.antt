use Rattle.std.specs.Prelude.{List, ℤ}
use Rattle.std.specs.List.{AllByRecursion as Every}
use Rattle.std.proofs.Common.{sym, subst, ◌∙◌}
use Rattle.lie_math.specs.Monomial.{Monomial}
use Rattle.lie_canonical.specs.RightSides.{Leaves}
use Rattle.lie_canonical.proofs.RightSideLists.{right_terms}
use Rattle.lie_canonical.proofs.right_side.right_side.Goals as goal
use Rattle.lie_jet.proofs.TotalParts.{entries_same}

pub turned_terms-requires : goal.turned_terms-requires
turned_terms-requires c = subst (λ (l : List (Monomial × ℤ)). Every (Leaves c.args.lead) l) (sym (c.as_slice.ensures.value ∙ sym (entries_same c.in_ok-terms.terms.items) ∙ c.in_ok-terms.ensures)) c.requires

pub returns : goal.returns
returns c = right_terms c.args.lead c.args.diff.now c.as_slice.result.now c.turned_terms.result (c.as_slice.ensures.value ∙ sym (entries_same c.in_ok-terms.terms.items) ∙ c.in_ok-terms.ensures) c.turned_terms.ensures
