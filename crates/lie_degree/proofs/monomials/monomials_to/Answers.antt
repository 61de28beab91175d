use Rattle.std.proofs.Common.{sym, ap, ap₂, subst, ◌∙◌, arith}
use Rattle.std.specs.Prelude.{◌≤◌, ◌++◌, ◌∷◌, [], suc, ◌≡◌, ◌+◌, ℕ}
use Rattle.std.specs.List.{AllByRecursion as Every}
use Rattle.lie_math.specs.Monomial.{degree}
use Rattle.lie_degree.specs.Columns.{with_variable, monomials_to}
use Rattle.lie_degree.proofs.MonomialLists.{degrees_low}
use Rattle.lie_degree.proofs.monomials.monomials_to.Goals as goal

pub loop-var-init : goal.loop-var-init
loop-var-init c = c.in_ok-push.ensures.items ∙ ap₂ (λ xs m. xs ++ m ∷ []) c.new-monos.ensures.items c.one.ensures

pub with_variable-requires-clause-low : goal.with_variable-requires-clause-low
with_variable-requires-clause-low c =
    subst (Every (λ m. degree m ≤ c.args.highest)) (sym (c.as_slice.ensures.value ∙ c.loop-var.invariant))
    (degrees_low c.args.highest c.loop-var.var)

pub loop-var-preserved : goal.loop-var-preserved
loop-var-preserved c =
    c.in_ok-next.ensures ∙ ap (with_variable c.loop-var.var c.args.highest) (c.as_slice.ensures.value ∙ c.loop-var.invariant)
    ∙ ap (λ n. monomials_to n c.args.highest) (next c.loop-var.var)
  where
    next : (n : ℕ) → suc n ≡ n + 1
    next n = omega arith
