use Rattle.std.proofs.Common.{◌≡◌, ◌++◌, ◌∷◌, [], arith}
use Rattle.std.proofs.lemmas.Grind.{common_steps}
use Rattle.lie_poly.proofs.PackingSteps.{packed_one}
use Rattle.lie_poly.proofs.packing.pack.Goals as goal

pub loop-term-preserved : goal.loop-term-preserved
loop-term-preserved g c =
    let pushed : c.push.new.self.items ≡ c.loop-term.out.items ++ (c.in_ok-word.word, c.copy-number.result) ∷ [] = grind (arith, common_steps) in
    packed_one g.C.Ring.value c.args.base c.args.vars.now c.args.most c.args.terms.now c.loop-term.term-index c.term-item.result c.loop-term.out.items c.push.new.self.items (c.in_ok-word.word, c.copy-number.result)
    (omega (arith, c.loop-term-test.true)) c.term-item.is c.loop-term.invariant c.in_ok-word.ensures c.copy-number.ensures pushed
