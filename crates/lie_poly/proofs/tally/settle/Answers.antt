use Rattle.std.proofs.Common.{ap, ◌∙◌, ◌++◌, [], sym, append_assoc, reverse}
use Rattle.lie_ring.specs.Entries.{entries}
use Rattle.lie_poly.specs.Tallies.{sums, with_term, without_zeros}
use Rattle.lie_poly.proofs.TallyLists.{with_append}
use Rattle.lie_poly.proofs.MergeTurns.{reverse_snoc}
use Rattle.lie_poly.proofs.tally.settle.Goals as goal

pub loop-tally-preserved : goal.loop-tally-preserved
loop-tally-preserved g c =
    let value = g.C.Ring.value in
    let rest = without_zeros (sums value (reverse c.pop.new.self.items)) in
    ap (λ es. es ++ rest) c.in_ok-push_unless_zero.ensures ∙ append_assoc (entries value c.loop-tally.out.items) (with_term c.in-Some.tally.mono (value c.in-Some.tally.sum) []) rest
    ∙ ap (λ es. entries value c.loop-tally.out.items ++ es) (with_append c.in-Some.tally.mono (value c.in-Some.tally.sum) rest)
    ∙ ap (λ ts. entries value c.loop-tally.out.items ++ without_zeros (sums value ts)) (sym (ap reverse c.in-Some.ensures.items ∙ reverse_snoc c.pop.new.self.items c.in-Some.tally)) ∙ c.loop-tally.invariant
