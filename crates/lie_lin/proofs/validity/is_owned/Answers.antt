use Rattle.std.proofs.Common.{subst, arith}
use Rattle.std.specs.List.{AllByRecursion as Every}
use Rattle.std.proofs.lemmas.List.{get_or_default}
use Rattle.lie_ring.proofs.Fronts.{all_taken}
use Rattle.lie_lin.specs.declared.system.Unknown as kept
use Rattle.lie_lin.specs.Validity.{IsOwner}
use Rattle.lie_lin.proofs.DecidingParts.{every_next}
use Rattle.lie_lin.proofs.ValidParts.{owner_owns, none_owns}
use Rattle.lie_lin.proofs.validity.is_owned.Goals as goal

pub returns-then-is_owner : goal.returns-then-is_owner
returns-then-is_owner c =
    owner_owns c.args.unknowns.now c.args.der.now c.loop-unknown.unknown-index _ c.loop-unknown-test.true (get_or_default c.args.unknowns.now c.loop-unknown.unknown-index (record { number = 0; vars = 0 }) _ c.loop-unknown-test.true) c.if-is_owner.ensures

pub loop-unknown-preserved : goal.loop-unknown-preserved
loop-unknown-preserved c = every_next (λ (f : kept.Unknown). ¬ (IsOwner f c.args.der.now)) c.args.unknowns.now c.loop-unknown.unknown-index (record { number = 0; vars = 0 }) c.loop-unknown-test.true c.loop-unknown.invariant c.if-is_owner.ensures

pub returns : goal.returns
returns c =
    none_owns c.args.unknowns.now c.args.der.now
    (subst (Every (λ (f : kept.Unknown). ¬ (IsOwner f c.args.der.now))) (all_taken c.args.unknowns.now c.loop-unknown.unknown-index (omega (arith, c.loop-unknown-test.false))) c.loop-unknown.invariant)
