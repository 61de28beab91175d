use Rattle.std.proofs.Common.{◌≡◌, ◌∙◌, ◌+◌, ◌-◌, ◌≤◌, ◌++◌, length, sym, arith, append-nil, refl}
use Rattle.std.proofs.lemmas.List.{take_all, drop_all}
use Rattle.lie_tables.proofs.Following.{follows_on}
use Rattle.lie_change.specs.Lists.{unmentioned}
use Rattle.lie_change.proofs.TakenElements.{taken_more, taken_less}
use Rattle.lie_change.proofs.putting.keep_unmentioned.Goals as goal

pub loop-place-init : goal.loop-place-init
loop-place-init c =
    let es = c.args.equations.now.items in
    let n = c.len-place.result in
    let long : length es ≤ n = omega (arith, c.args.equations.now.ok.0, c.len-place.ensures) in
    record {
      within = omega (arith, c.args.equations.now.ok.0, c.len-place.ensures);
      items = sym (append-nil es) ∙ (λ j. sym (take_all n es long) j ++ unmentioned c.args.number (sym (drop_all n es long) j));
      indexed = (refl, c.requires);
    }

pub take_mentioned-requires-clause-place : goal.take_mentioned-requires-clause-place
take_mentioned-requires-clause-place c =
    let l = taken_less c.args.number c.args.equations.now.items c.loop-place.equations.items c.loop-place.place c.loop-place.invariant.within
    c.loop-place.invariant.items in omega (arith, l, c.loop-place-test.true)

pub loop-place-preserved : goal.loop-place-preserved
loop-place-preserved c =
    let p = c.loop-place.place - 1 in
    let e : c.loop-place.place ≡ p + 1 = omega (arith, c.loop-place-test.true) in
    record {
      within = omega (arith, c.loop-place.invariant.within);
      items = taken_more c.args.number c.args.equations.now.items c.loop-place.equations.items c.take_mentioned.new.equations.items
          c.loop-place.place p e c.loop-place.invariant.within c.loop-place.invariant.items c.take_mentioned.ensures.taken;
      indexed = follows_on c.args.tables.now c.loop-place.tables c.take_mentioned.new.tables c.loop-place.equations.items
          c.take_mentioned.new.equations.items c.loop-place.invariant.indexed c.take_mentioned.ensures.indexed;
    }
