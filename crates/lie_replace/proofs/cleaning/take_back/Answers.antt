use Rattle.std.proofs.Common.{◌≡◌, ◌<◌, ◌∙◌, sym, ap, subst, List, ℕ, length, arith, remove, ◌++◌, ◌∷◌, []}
use Rattle.lie_math.specs.LinearForm.{LinearForm}
use Rattle.lie_replace.specs.Cleaning.{taken_back, AreFilled}
use Rattle.lie_tables.proofs.Following.{follows_on, follows_same}
use Rattle.lie_replace.proofs.CleaningSteps.{taken_back-push, filled-pop}
use Rattle.lie_replace.proofs.cleaning.take_back.Goals as goal

popped : (ps qs : List ℕ) (i : ℕ) (es : List LinearForm) → ps ≡ qs ++ i ∷ [] → AreFilled ps es → AreFilled qs (remove es i) × (i < length es)
popped ps qs i es e h = filled-pop qs i es (subst (λ xs. AreFilled xs es) e h)

pub remove-requires : goal.remove-requires
remove-requires c =
    let h = (popped c.loop-place.places.items c.pop.new.self.items c.in-Some.place c.loop-place.equations.items c.in-Some.ensures.items c.loop-place.invariant.filled).1 in
    omega (arith, c.loop-place.equations.ok.0)

pub loop-place-preserved : goal.loop-place-preserved
loop-place-preserved c = record {
  filled = subst (AreFilled c.pop.new.self.items) (sym c.remove.ensures.items) (popped c.loop-place.places.items c.pop.new.self.items c.in-Some.place c.loop-place.equations.items c.in-Some.ensures.items c.loop-place.invariant.filled).0;
  indexed = follows_on c.args.tables.now c.loop-place.tables c.remove-in-Some.new.self c.loop-place.equations.items c.remove.new.self.items c.loop-place.invariant.indexed (follows_same c.loop-place.tables c.remove-in-Some.new.self _ _ (sym c.remove.ensures.items)
      (c.remove-in-Some.ensures c.loop-place.equations.items (c.loop-place.invariant.indexed).1
      (popped c.loop-place.places.items c.pop.new.self.items c.in-Some.place c.loop-place.equations.items c.in-Some.ensures.items c.loop-place.invariant.filled).1));
  back = ap (taken_back c.pop.new.self.items) c.remove.ensures.items ∙ sym (taken_back-push c.pop.new.self.items c.in-Some.place c.loop-place.equations.items)
      ∙ ap (λ ps. taken_back ps c.loop-place.equations.items) (sym c.in-Some.ensures.items) ∙ c.loop-place.invariant.back;
}
