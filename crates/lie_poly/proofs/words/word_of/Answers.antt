use Rattle.std.proofs.Common.{ap, ◌∙◌, arith}
use Rattle.lie_poly.proofs.Results.{some_weaker}
use Rattle.lie_poly.specs.Words.{written_behind}
use Rattle.lie_poly.proofs.WordLaws.{held_of}
use Rattle.lie_poly.proofs.words.word_of.Goals as goal

pub returns : goal.returns
returns c =
    some_weaker c.write_behind.result _ _
    (λ word h. record {
      is = h ∙ ap (λ d. written_behind c.args.base d c.args.vars.now c.args.mono.now) c.in_ok-degree.ensures;
      held = held_of c.args.vars.now c.args.mono.now c.pairs.result.now c.pairs.ensures (c.are_of.ensures c.if-not-are_of.false);
      low = omega (arith, c.in_ok-degree.ensures, c.if-degree-most.false);
    })
    c.write_behind.ensures
