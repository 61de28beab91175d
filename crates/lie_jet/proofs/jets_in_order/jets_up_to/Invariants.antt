use Rattle.std.proofs.Common.{◌≡◌, suc, ◌+◌, ◌-◌, ◌≤◌, length}
use Rattle.std.specs.List.{range_with_len}
use Rattle.std.specs.Prelude.{All}
use Rattle.lie_geometry.specs.Coordinates.{coordinates_up_to}
use Rattle.lie_jet.specs.Jets.{IsJet}
use Rattle.lie_jet.proofs.JetLists.{numbers_of}
use Rattle.lie_jet.proofs.jets_in_order.jets_up_to.Given as goal

abbrev pub invariant-loop-jet : goal.invariant-loop-jet
invariant-loop-jet l = record {
  place : l.number ≡ l.space.p + length l.jets.items;
  jets : All (IsJet l.space l.order) l.jets.items;
  numbers : numbers_of l.space l.jets.items ≡ range_with_len l.space.p (length l.jets.items);
  within : l.number ≤ coordinates_up_to l.space l.order;
}

abbrev pub decreases-loop-jet : goal.decreases-loop-jet
decreases-loop-jet l = suc (coordinates_up_to l.space l.order) - l.number
