use Rattle.std.specs.Prelude.{◌+◌, map}
use Rattle.std.proofs.Common.{refl, ap}
use Rattle.lie_lin.specs.Systems.{unknown_of}
use Rattle.lie_algebra.proofs.ClosedTerms.{constants_more}
use Rattle.lie_algebra.proofs.closed_form.constants.Goals as goal

pub loop-i-init : goal.loop-i-init
loop-i-init c = ap (map unknown_of) c.new-list.ensures.items

pub loop-i-preserved : goal.loop-i-preserved
loop-i-preserved c =
    constants_more c.loop-i.list.items c.push.new.self.items c.loop-i.i (c.loop-i.i + 1) c.in_ok-push.ensures.items c.loop-i.invariant refl
