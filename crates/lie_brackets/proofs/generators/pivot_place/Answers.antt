use Rattle.std.proofs.Common.{◌≡◌, length, arith}
use Rattle.lie_brackets.specs.Generators.{terms_at}
use Rattle.lie_brackets.proofs.BracketParts.{below_more}
use Rattle.lie_brackets.proofs.PivotPlaces.{no_entry, empty_part}
use Rattle.lie_brackets.proofs.generators.pivot_place.Goals as goal

pub loop-part-preserved : goal.loop-part-preserved
loop-part-preserved c =
    below_more (λ t. length (terms_at c.args.parts.now t) ≡ 0) c.loop-part.part c.loop-part.invariant
    (empty_part c.args.parts.now c.loop-part.part c.index-parts-part.result c.as_slice-terms.result.now c.loop-part-test.true c.index-parts-part.is c.as_slice-terms.ensures.value c.if-terms-gt0.false)

pub unreachable-requires : goal.unreachable-requires
unreachable-requires c =
    let k = c.requires.0 in
    c.requires.1 (no_entry c.args.parts.now (λ t l. c.loop-part.invariant t (let h = c.loop-part-test.false in omega arith)) k.0 k.1)
