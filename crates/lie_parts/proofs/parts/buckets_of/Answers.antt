use Rattle.std.proofs.Common.{arith, sym, subst, List, []}
use Rattle.lie_parts.specs.Parts.{is_inside}
use Rattle.lie_parts.specs.declared.buckets.Bucket.{Bucket}
use Rattle.lie_parts.specs.Parts.{HaveMore}
use Rattle.lie_parts.proofs.BucketLists.{more_none, nothing_sorted, derivative_more, buckets_are}
use Rattle.lie_parts.proofs.parts.buckets_of.Goals as goal

pub loop-term-init : goal.loop-term-init
loop-term-init c = subst (λ (bs : List Bucket). HaveMore [] [] bs) (sym c.new-buckets.ensures.items) (more_none [] nothing_sorted)

pub loop-term-preserved : goal.loop-term-preserved
loop-term-preserved c =
    derivative_more (is_inside c.args.inside.now) c.args.terms.now c.loop-term.term-index c.term-item.result [] c.loop-term.buckets.items c.put_terms.new.buckets.items
    c.loop-term-test.true c.term-item.is c.loop-term.invariant c.in_ok-put_terms.ensures

pub returns : goal.returns
returns c = buckets_are (is_inside c.args.inside.now) c.args.terms.now c.loop-term.term-index c.loop-term.buckets.items (omega (arith, c.loop-term-test.false)) c.loop-term.invariant
