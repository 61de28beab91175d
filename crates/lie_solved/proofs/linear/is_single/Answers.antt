use Rattle.std.proofs.Common.{arith, ap}
use Rattle.std.specs.Prelude.{ℕ, length, get_or}
use Rattle.std.proofs.lemmas.Bool.Decides.{nat_tests}
use Rattle.lie_solved.proofs.LinearTerms.{single_by_list, list_of_single}
use Rattle.lie_solved.proofs.linear.is_single.Goals as goal

pub returns-then-pairs-ne1 : goal.returns-then-pairs-ne1
returns-then-pairs-ne1 c = (λ e. absurd (cc), λ s. let l = ap length (list_of_single c.args.mono.now c.args.number c.pairs-pairs.result.now c.pairs-pairs.ensures s) in absurd (omega (arith, c.if-pairs-ne1.true)))

pub returns-then-variable-number : goal.returns-then-variable-number
returns-then-variable-number c = (
  λ e. single_by_list c.args.mono.now c.args.number c.pairs-pairs.result.now c.pairs-pairs.ensures (omega (arith, c.if-pairs-ne1.false)) c.if-variable-number.true (grind (arith, nat_tests, e)),
  λ s. let l = ap (λ ps. (get_or {A = ℕ × ℕ} ps 0 (0, 0)).1) (list_of_single c.args.mono.now c.args.number c.pairs-pairs.result.now c.pairs-pairs.ensures s) in grind (arith, nat_tests, l),
)

pub returns-else-variable-number : goal.returns-else-variable-number
returns-else-variable-number c = (
  λ e. absurd (c.if-variable-number.false (grind (arith, nat_tests, e))),
  λ s. let l = ap (λ ps. (get_or {A = ℕ × ℕ} ps 0 (0, 0)).0) (list_of_single c.args.mono.now c.args.number c.pairs-pairs.result.now c.pairs-pairs.ensures s) in absurd (c.if-variable-number.false l),
)
