use Rattle.std.proofs.Common.{arith, sym, ◌∙◌}
use Rattle.lie_parts.specs.Parts.{is_inside}
use Rattle.lie_jet.specs.Derivatives.{derivative_of}
use Rattle.lie_parts.proofs.BucketLists.{term_more, terms_all}
use Rattle.lie_parts.proofs.parts.put_terms.Goals as goal
use Rattle.lie_jet.proofs.TotalParts.{entries_same}

pub loop-mono-preserved : goal.loop-mono-preserved
loop-mono-preserved c =
    term_more (is_inside c.args.inside.now) (derivative_of c.args.term.now.0) c.as_slice-mono-items.result.now c.loop-mono.mono-index c.loop-mono-item.result c.args.buckets.now.items c.loop-mono.buckets.items c.put_term.new.buckets.items
    c.loop-mono-test.true c.loop-mono-item.is c.loop-mono.invariant c.in_ok-put_term.ensures

pub returns : goal.returns
returns c =
    terms_all (is_inside c.args.inside.now) (derivative_of c.args.term.now.0) c.as_slice-mono-items.result.now c.args.term.now.1.list c.loop-mono.mono-index c.args.buckets.now.items c.loop-mono.buckets.items
    (omega (arith, c.loop-mono-test.false)) (c.as_slice-mono-items.ensures.value ∙ sym (entries_same c.in_ok-list.list.items) ∙ c.in_ok-list.ensures) c.loop-mono.invariant
