use Rattle.lie_brackets.proofs.BracketParts.{parts_more, order_more}
use Rattle.lie_brackets.proofs.field_terms.field_terms.Goals as goal

pub loop-part-preserved : goal.loop-part-preserved
loop-part-preserved c = record {
  parts = parts_more c.loop-part.parts.items c.push.new.self.items c.in_ok-terms.terms c.part-item.result c.in_ok-push.ensures.items c.in_ok-terms.ensures c.parts-part-items.result.now c.loop-part.part-index c.loop-part-test.true c.part-item.is c.loop-part.invariant.parts;
  ordered = order_more c.loop-part.parts.items c.push.new.self.items c.in_ok-terms.terms c.part-item.result c.in_ok-push.ensures.items c.in_ok-terms.ensures c.loop-part.invariant.ordered;
}
