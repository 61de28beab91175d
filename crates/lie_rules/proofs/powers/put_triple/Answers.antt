use Rattle.lie_rules.proofs.PowerGroups.{put_group}
use Rattle.lie_rules.proofs.powers.put_triple.Goals as goal

pub returns : goal.returns
returns c = λ ts n h.
    put_group c.args.var ts n c.args.groups.now.items c.exponent-exponent.result c.index_mut.result.now c.push.new.self c.args.triple.now
    c.in_ok-rest.rest c.exponent-exponent.ensures
    (rw c.exponent-exponent.ensures c.requires) c.index_mut.ensures.value c.in_ok-push.ensures.items c.in_ok-rest.ensures h
