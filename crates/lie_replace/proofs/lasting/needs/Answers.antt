use Rattle.std.proofs.Common.{◌≡◌, ◌∙◌, sym, ap, ◌++◌, ◌∷◌, [], List, ℕ, refl, take, map, cond, Bool, true, false, get_or}
use Rattle.lie_math.specs.LinearSystem.{Unknown}
use Rattle.lie_steps.specs.Equations.{depends}
use Rattle.lie_lin.specs.Systems.{unknown_of}
use Rattle.lie_ring.proofs.Fronts.{take_more}
use Rattle.lie_normal.proofs.Falling.{get_same}
use Rattle.lie_replace.specs.Replacing.{needs_in, occurrences}
use Rattle.lie_replace.proofs.lasting.needs.Goals as goal

needs_in-append : (us : List Unknown) (vs : List ℕ) (f : ℕ) (xs ys : List ℕ) → needs_in us vs f (xs ++ ys) ≡ needs_in us vs f xs ++ needs_in us vs f ys
needs_in-append us vs f [] ys = refl
needs_in-append us vs f (x ∷ xs) ys = by (depends us f x) (needs_in-append us vs f xs ys)
  where
    by : (t : Bool) → needs_in us vs f (xs ++ ys) ≡ needs_in us vs f xs ++ needs_in us vs f ys
        → cond t (needs_in us vs f (xs ++ ys)) ((x, occurrences x vs) ∷ needs_in us vs f (xs ++ ys)) ≡ cond t (needs_in us vs f xs) ((x, occurrences x vs) ∷ needs_in us vs f xs) ++ needs_in us vs f ys
    by true h = h
    by false h = ap (λ zs. (x, occurrences x vs) ∷ zs) h

pub loop-var-preserved : goal.loop-var-preserved
loop-var-preserved c =
    let x = get_or c.args.vars.now c.loop-var.var-index 0 in
    c.in_ok-push_need.ensures ∙ ap (λ (xs : List (ℕ × ℕ)). xs ++ needs_in (map unknown_of c.args.unknowns.now) c.args.vars.now c.args.number (x ∷ [])) c.loop-var.invariant
    ∙ sym (needs_in-append (map unknown_of c.args.unknowns.now) c.args.vars.now c.args.number (take c.loop-var.var-index c.args.vars.now) (x ∷ []))
    ∙ ap (needs_in (map unknown_of c.args.unknowns.now) c.args.vars.now c.args.number) (take_more c.args.vars.now c.loop-var.var-index x c.loop-var-test.true (get_same c.args.vars.now c.loop-var.var-index 0 c.loop-var-test.true))
