use Rattle.std.proofs.Common.{◌≡◌, ◌∙◌, sym, ap, subst, ◌++◌, ◌∷◌, [], List, ℕ, refl, take, map, get_or, length, ◌<◌, ◌+◌, append_assoc}
use Rattle.std.specs.List.{AllByRecursion as Every}
use Rattle.lie_math.specs.LinearSystem.{Unknown}
use Rattle.lie_math.specs.Limits.{IsWithinLimits}
use Rattle.lie_math.specs.Polynomial.{WholePolynomial}
use Rattle.lie_math.proofs.EveryElement.{every-append}
use Rattle.lie_jet.specs.Derivatives.{derivative_of}
use Rattle.lie_jet.specs.declared.derivative.Der.{Der}
use Rattle.lie_jet.proofs.ListPlaces.{take_map}
use Rattle.lie_form.specs.DerivativeTerms.{derivative_terms}
use Rattle.lie_lin.specs.Systems.{unknown_of}
use Rattle.lie_normal.specs.Orders.{Entry}
use Rattle.lie_replace.specs.Replacing.{lasting_part, lasting_entry, lasting_entries}
use Rattle.lie_replace.proofs.lasting.lasting_terms.Goals as goal

module _ (us : List Unknown) (vs : List ℕ) (ts : List (Der × WholePolynomial)) (k : ℕ) (x : Der × WholePolynomial) (lt : k < length ts) (is : x ≡ get_or ts k x) where
  more : take (k + 1) (derivative_terms ts) ≡ take k (derivative_terms ts) ++ (derivative_of x.0, x.1) ∷ []
  more = take_map (λ (t : Der × WholePolynomial). (derivative_of t.0, t.1)) ts k x lt is

  kept_more : (old new : List Entry) → new ≡ old ++ lasting_entry us vs (derivative_of x.0, x.1) → old ≡ lasting_entries us vs (take k (derivative_terms ts)) → new ≡ lasting_entries us vs (take (k + 1) (derivative_terms ts))
  kept_more old new e h = e ∙ ap (λ zs. zs ++ lasting_entry us vs (derivative_of x.0, x.1)) h ∙ sym (ap (lasting_entries us vs) more ∙ entries-push (take k (derivative_terms ts)) (derivative_of x.0, x.1))
    where
      nothing : (zs : List Entry) → zs ++ [] ≡ zs
      nothing [] = refl
      nothing (z ∷ zs) = ap (λ ys. z ∷ ys) (nothing zs)

      entries-push : (es : List Entry) (e : Entry) → lasting_entries us vs (es ++ e ∷ []) ≡ lasting_entries us vs es ++ lasting_entry us vs e
      entries-push [] e = nothing (lasting_entry us vs e)
      entries-push (d ∷ es) e = ap (λ zs. lasting_entry us vs d ++ zs) (entries-push es e) ∙ sym (append_assoc (lasting_entry us vs d) (lasting_entries us vs es) (lasting_entry us vs e))

  within_more : Every (λ (e : Entry). IsWithinLimits (lasting_part us vs (e.0).unknown e.1)) (take k (derivative_terms ts)) → IsWithinLimits (lasting_part us vs x.0.unknown x.1) → Every (λ (e : Entry). IsWithinLimits (lasting_part us vs (e.0).unknown e.1)) (take (k + 1) (derivative_terms ts))
  within_more h w = subst (Every (λ (e : Entry). IsWithinLimits (lasting_part us vs (e.0).unknown e.1))) (sym more) (every-append (λ (e : Entry). IsWithinLimits (lasting_part us vs (e.0).unknown e.1)) (take k (derivative_terms ts)) ((derivative_of x.0, x.1) ∷ []) h (w, tt))

pub loop-term-preserved : goal.loop-term-preserved
loop-term-preserved c = record {
  kept = kept_more (map unknown_of c.args.unknowns.now) c.args.vars.now c.args.terms.now c.loop-term.term-index c.term-item.result c.loop-term-test.true c.term-item.is (derivative_terms c.loop-term.kept.items) (derivative_terms c.push_lasting.new.kept.items) c.in_ok-push_lasting.ensures.pushed c.loop-term.invariant.kept;
  within = within_more (map unknown_of c.args.unknowns.now) c.args.vars.now c.args.terms.now c.loop-term.term-index c.term-item.result c.loop-term-test.true c.term-item.is c.loop-term.invariant.within c.in_ok-push_lasting.ensures.within;
}
