use Rattle.std.proofs.Common.{◌≡◌, ◌≤◌, ◌+◌, length}
use Rattle.lie_scan.specs.Turns.{all_turns}
use Rattle.lie_file.specs.FileLines.{name_turn}
use Rattle.lie_file.proofs.names.further_names.Given as goal

abbrev pub decreases-names : goal.decreases-names
decreases-names l = length l.rest

abbrev pub invariant-names : goal.invariant-names
invariant-names l = record {
  same : all_turns (name_turn l.before) l.fn.names.items l.text ≡ all_turns (name_turn l.before) l.given.items l.rest;
  longer : l.before ≤ length l.given.items;
  few : length l.given.items ≤ l.before + 4;
}
