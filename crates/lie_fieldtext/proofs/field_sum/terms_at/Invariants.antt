use Rattle.std.proofs.Common.{◌≡◌, length}
use Rattle.lie_scan.specs.Turns.{all_turns}
use Rattle.lie_fieldtext.specs.FieldReading.{term_turn}
use Rattle.lie_fieldtext.proofs.field_sum.terms_at.Given as goal

abbrev pub decreases-terms : goal.decreases-terms
decreases-terms l = length l.rest

abbrev pub invariant-terms : goal.invariant-terms
invariant-terms l = all_turns (term_turn l.names) l.fn.terms.list.items l.text ≡ all_turns (term_turn l.names) l.found.list.items l.rest
