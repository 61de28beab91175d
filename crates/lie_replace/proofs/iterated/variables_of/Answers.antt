use Rattle.std.proofs.Common.{◌≡◌, ◌∙◌, sym, ap, subst, ◌++◌, ◌+◌, replicate, arith, List, ℕ, take, length, get_or, ◌∷◌, [], ◌<◌, zero, suc, length-take-le, le_of_lt}
use Rattle.std.specs.List.{AllByRecursion as Every}
use Rattle.lie_math.proofs.EveryElement.{every-append}
use Rattle.lie_ring.proofs.Fronts.{take_more}
use Rattle.lie_replace.specs.Replacing.{variables_of}
use Rattle.lie_replace.proofs.IteratedSteps.{variables-push, every_replicate}
use Rattle.lie_replace.proofs.iterated.variables_of.Goals as goal

get_same : (xs : List ℕ) (k x : ℕ) → k < length xs → x ≡ get_or xs k 0 → x ≡ get_or xs k x
get_same [] k x h e = absurd (omega arith)
get_same (y ∷ xs) zero x h e = e
get_same (y ∷ xs) (suc k) x h e = get_same xs k x (omega arith) e

pushed : (K : List ℕ) (v x : ℕ) → v < length K → x ≡ get_or K v 0 → variables_of (take v K) ++ replicate x v ≡ variables_of (take (v + 1) K)
pushed K v x h e =
    let l : length (take v K) ≡ v = length-take-le v K (le_of_lt h) in
    sym (ap variables_of (sym (take_more K v x h (get_same K v x h e))) ∙ variables-push 0 (take v K) x ∙ ap (λ n. variables_of (take v K) ++ replicate x n) (let z : 0 + length (take v K) ≡ v = omega arith in z))

pub loop-var-preserved : goal.loop-var-preserved
loop-var-preserved c =
    let x = get_or c.args.der.now.counts c.from.result 0 in
    let index : c.from.result ≡ c.loop-var.var = c.from.ensures in
    let more = pushed c.args.der.now.counts c.loop-var.var x (omega arith) (ap (λ i. get_or c.args.der.now.counts i 0) index) in
    record {
      variables = c.in_ok-push_often.ensures ∙ ap (λ (xs : List ℕ). xs ++ replicate x c.loop-var.var) c.loop-var.invariant.variables ∙ more;
      within = subst (Every (λ v. v < 8)) (sym c.in_ok-push_often.ensures) (every-append (λ v. v < 8) c.loop-var.vars.items (replicate x c.loop-var.var) c.loop-var.invariant.within (every_replicate x c.loop-var.var 8 (omega arith)));
    }
