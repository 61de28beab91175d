use Rattle.std.proofs.Common.{ℕ, ◌<◌, ◌≤◌, arith, ap, subst, sym, ◌∙◌, ◌≡◌, take, get_or, length}
use Rattle.std.specs.Prelude.{ℤ, pos, unsigned_abs, List}
use Rattle.std.proofs.lemmas.Result.{err_from_is_err_and}
use Rattle.lie_math.specs.Polynomial.{WholePolynomial, terms, variable, ◌+ᴾ◌}
use Rattle.lie_math.specs.FiniteSumLaws.{plus_assoc}
use Rattle.lie_math.specs.PolynomialRing.{polynomial_ring}
use Rattle.lie_math.proofs.Ring.{plus_idr}
use Rattle.lie_geometry.specs.Prolongation.{total_derivative}
use Rattle.lie_poly.proofs.SumSteps.{cause_covered}
use Rattle.lie_jet.specs.Listed.{sum_listed, bulk_listed}
use Rattle.lie_jet.proofs.ChainRules.{part, parts}
use Rattle.lie_jet.proofs.TotalParts.{entries_more, power_at, variable_below, total_term, part_covered}
use Rattle.lie_jet.proofs.totals.push_total.Goals as goal
use Rattle.lie_ring.proofs.Fronts.{all_taken}

pub loop-var-init : goal.loop-var-init
loop-var-init c = record { sum = sym (plus_idr polynomial_ring _); bulk = sym (plus_idr polynomial_ring _) }

pub push_power-requires-clause-low : goal.push_power-requires-clause-low
push_power-requires-clause-low c = variable_below _ c.args.term.now.0 c.pairs-var-items.result.now c.loop-var.var-index c.requires.low c.pairs-var-items.ensures c.loop-var-test.true

pub push_power-requires-clause-positive : goal.push_power-requires-clause-positive
push_power-requires-clause-positive c = let h = power_at c.args.term.now.0 c.pairs-var-items.result.now c.loop-var.var-index c.pairs-var-items.ensures c.loop-var-test.true in some _ h.1
  where
    some : (n : ℕ) → ¬ (n ≡ 0) → 0 < n
    some n h = omega arith

pub returns-in_err-push_power-clause-past : goal.returns-in_err-push_power-clause-past
returns-in_err-push_power-clause-past c =
    let p = err_from_is_err_and c.from_residual.result c.from_residual.ensures.1 in
    rw (p.1, p.2) (cause_covered _ _ _ (part_covered c.args.space c.requires.small c.args.i c.requires.within c.args.term.now.0 (unsigned_abs c.args.term.now.1) c.loop-var.var-index c.pairs-var-items.result.now c.pairs-var-items.ensures c.loop-var-test.true) c.in_err-push_power.ensures.past)

pub loop-var-preserved : goal.loop-var-preserved
loop-var-preserved c =
    let d : ℕ → WholePolynomial = λ w. total_derivative c.args.space c.args.i (variable w) in
    let m = c.args.term.now.0 in
    let z = c.args.term.now.1 in
    let n = pos (unsigned_abs z) in
    let more = λ (x : ℤ). entries_more (part d m x) m.list c.pairs-var-items.result.now c.loop-var.var-index (0, 0) c.pairs-var-items.ensures c.loop-var-test.true in
    record {
      sum = c.in_ok-push_power.ensures.sum ∙ ap (λ p. p +ᴾ part d m z (get_or c.pairs-var-items.result.now c.loop-var.var-index (0, 0)).0 (get_or c.pairs-var-items.result.now c.loop-var.var-index (0, 0)).1) c.loop-var.invariant.sum
          ∙ plus_assoc terms (sum_listed c.args.made.now.items) (parts d m z (take c.loop-var.var-index m.list)) _ ∙ ap (λ p. sum_listed c.args.made.now.items +ᴾ p) (sym (more z));
      bulk = c.in_ok-push_power.ensures.bulk ∙ ap (λ p. p +ᴾ part d m n (get_or c.pairs-var-items.result.now c.loop-var.var-index (0, 0)).0 (get_or c.pairs-var-items.result.now c.loop-var.var-index (0, 0)).1) c.loop-var.invariant.bulk
          ∙ plus_assoc terms (bulk_listed c.args.made.now.items) (parts d m n (take c.loop-var.var-index m.list)) _ ∙ ap (λ p. bulk_listed c.args.made.now.items +ᴾ p) (sym (more n));
    }

all : (m : List (ℕ × ℕ)) (ps : List (ℕ × ℕ)) (k : ℕ) → ps ≡ m → length ps ≤ k → take k m ≡ m
all m ps k e h = all_taken m k (subst (λ (xs : List (ℕ × ℕ)). length xs ≤ k) e h)

pub returns-clause-sum : goal.returns-clause-sum
returns-clause-sum c =
    let m = c.args.term.now.0 in
    let d : ℕ → WholePolynomial = λ w. total_derivative c.args.space c.args.i (variable w) in
    c.loop-var.invariant.sum ∙ ap (λ p. sum_listed c.args.made.now.items +ᴾ p) (ap (parts d m c.args.term.now.1) (all m.list c.pairs-var-items.result.now c.loop-var.var-index c.pairs-var-items.ensures c.loop-var-test.false) ∙ sym (total_term c.args.space c.args.i m c.args.term.now.1))

pub returns-clause-bulk : goal.returns-clause-bulk
returns-clause-bulk c =
    let m = c.args.term.now.0 in
    let d : ℕ → WholePolynomial = λ w. total_derivative c.args.space c.args.i (variable w) in
    let n = pos (unsigned_abs c.args.term.now.1) in
    c.loop-var.invariant.bulk ∙ ap (λ p. bulk_listed c.args.made.now.items +ᴾ p) (ap (parts d m n) (all m.list c.pairs-var-items.result.now c.loop-var.var-index c.pairs-var-items.ensures c.loop-var-test.false) ∙ sym (total_term c.args.space c.args.i m n))
