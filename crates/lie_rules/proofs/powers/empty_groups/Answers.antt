use Rattle.std.proofs.Common.{◌≡◌, ◌∙◌, ◌∷◌, [], add-one, ap, arith, length, length-append, suc}
use Rattle.lie_rules.proofs.PowerGroups.{empty_more}
use Rattle.lie_rules.proofs.powers.empty_groups.Goals as goal

pub loop-alloc-preserved : goal.loop-alloc-preserved
loop-alloc-preserved c =
    let old = c.loop-alloc.groups.items in
    let longer : length c.push.new.self.items ≡ suc (length old) = ap length c.in_ok-push.ensures.items
    ∙ length-append old (c.new.result ∷ []) ∙ add-one (length old) in
    record {
      empty = empty_more old c.push.new.self.items c.new.result c.in_ok-push.ensures.items c.new.ensures.items c.loop-alloc.invariant.empty;
      few = omega (arith, c.loop-alloc.groups.ok.0);
    }
