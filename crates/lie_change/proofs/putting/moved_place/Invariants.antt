use Rattle.std.proofs.Common.{◌≡◌, ◌≤◌, ◌+◌, take}
use Rattle.lie_change.specs.Lists.{moved}
use Rattle.lie_change.proofs.putting.moved_place.Given as goal

abbrev pub invariant-loop-put : goal.invariant-loop-put
invariant-loop-put l = record {
  is : l.now ≡ moved l.place (take l.put-index l.places);
  small : l.now ≤ l.place + l.put-index;
}
