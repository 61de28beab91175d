-- The lines of all lesser members stand in the output, and none of them is refused.
use Rattle.std.specs.Prelude.{◌≡◌, ◌+◌, []}
use Rattle.std.proofs.Common.{refl, subst, ◌∙◌, arith}
use Rattle.std.proofs.KnownBytes.{Appends-nil}
use Rattle.lie_sample.specs.Members.{IsMember, PutsLinesBelow, no_line}
use Rattle.lie_sample.proofs.Dues.{NoneRefusedBelow, none_at_start, none_further, all_end, stop_ends}
use Rattle.lie_sample.proofs.Leaves.{line_leaves, stop_leaves}
use Rattle.lie_sample.proofs.members.sample.Goals as goal

pub loop-k-init : goal.loop-k-init
loop-k-init g c = record {
  least = omega arith;
  lines = ([], no_line, Appends-nil (g.O.Sink.taken c.args.out.now));
  faults = refl;
  starved = refl;
  none = none_at_start c.args.budget;
}

pub loop-k-preserved : goal.loop-k-preserved
loop-k-preserved g c =
    let so_far = c.loop-k.invariant in
    let line = c.in-Done.ensures.out in
    record {
      least = let least = so_far.least in omega (arith, least);
      lines = line_leaves g.O.Sink.taken g.O.Sink.fault_count g.O.Sink.starved_count c.args.out.now c.loop-k.out c.put_member.new.out
          c.args.last c.args.budget c.loop-k.k so_far.lines so_far.faults so_far.starved line;
      faults = line.1 ∙ so_far.faults;
      starved = line.2 ∙ so_far.starved;
      none = none_further c.args.budget c.loop-k.k so_far.none c.in-Done.ensures.due;
    }

pub returns-in_default : goal.returns-in_default
returns-in_default g c =
    let so_far = c.loop-k.invariant in
    let up = c.loop-k-test.true in
    let member : IsMember c.args.last c.loop-k.k = (so_far.least, omega (arith, up)) in
    record {
      out = stop_leaves g.O.Sink.taken g.O.Sink.fault_count g.O.Sink.starved_count c.args.out.now c.loop-k.out c.put_member.new.out
          c.args.last c.args.budget c.loop-k.k so_far.lines so_far.faults so_far.starved c.put_member.result member
          (λ e. c.in_default.not-Done e) c.put_member.ensures.out;
      due = λ due d.
          stop_ends c.args.last c.args.budget c.loop-k.k c.put_member.result member so_far.none (λ e. c.in_default.not-Done e)
          c.put_member.ensures.due due d;
    }

pub returns : goal.returns
returns g c =
    let so_far = c.loop-k.invariant in
    let least = c.requires.least in
    let up = c.loop-k-test.false in
    let down = c.loop-k.auto.k-end (omega (arith, least)) in
    let end : c.loop-k.k ≡ c.args.last + 1 = omega (arith, up, down) in
    record {
      out = subst (PutsLinesBelow (g.O.Sink.taken c.args.out.now) (g.O.Sink.taken c.loop-k.out) c.args.budget) end so_far.lines;
      due = λ due d. all_end c.args.last c.args.budget due (subst (NoneRefusedBelow c.args.budget) end so_far.none) d;
    }
