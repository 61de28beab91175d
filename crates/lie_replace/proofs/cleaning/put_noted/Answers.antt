use Rattle.std.proofs.Common.{◌≡◌, ◌∙◌, sym, ap, subst, subst₂, List, ℕ, ◌++◌, ◌∷◌, []}
use Rattle.lie_math.specs.LinearForm.{LinearForm}
use Rattle.lie_replace.specs.Cleaning.{taken_back, AreFilled}
use Rattle.lie_lin.specs.EquationLists.{IsOneMore}
use Rattle.lie_replace.proofs.CleaningSteps.{taken_back-push, filled-push}
use Rattle.lie_replace.proofs.cleaning.put_noted.Goals as goal

filled_more : (ps qs rs : List ℕ) (i : ℕ) (es fs : List LinearForm) → rs ≡ qs ++ i ∷ [] → qs ≡ ps → IsOneMore i es fs → AreFilled ps es → AreFilled rs fs
filled_more ps qs rs i es fs e q m h = subst (λ xs. AreFilled xs fs) (sym e) (filled-push qs i fs (subst₂ AreFilled (sym q) (sym m.without) h) m.within)

back_more : (ps qs rs : List ℕ) (i : ℕ) (es fs : List LinearForm) → rs ≡ qs ++ i ∷ [] → qs ≡ ps → IsOneMore i es fs → taken_back rs fs ≡ taken_back ps es
back_more ps qs rs i es fs e q m = ap (λ xs. taken_back xs fs) e ∙ taken_back-push qs i fs ∙ ap (taken_back qs) m.without ∙ ap (λ xs. taken_back xs es) q

pub returns-in-Ok-clause-filled : goal.returns-in-Ok-clause-filled
returns-in-Ok-clause-filled c =
    filled_more c.args.places.now.items c.reserve.new.self.items c.push.new.self.items c.in-Some.place c.args.equations.now.items c.put_normalised.new.equations.items c.in-Ok.ensures.items c.in_ok-reserve.ensures.items (rw c.in-Some.is at c.in_ok-place.ensures.place) c.requires.filled

pub returns-in-Ok-clause-back : goal.returns-in-Ok-clause-back
returns-in-Ok-clause-back c =
    back_more c.args.places.now.items c.reserve.new.self.items c.push.new.self.items c.in-Some.place c.args.equations.now.items c.put_normalised.new.equations.items c.in-Ok.ensures.items c.in_ok-reserve.ensures.items (rw c.in-Some.is at c.in_ok-place.ensures.place)
