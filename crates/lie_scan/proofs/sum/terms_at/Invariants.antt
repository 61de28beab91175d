use Rattle.std.proofs.Common.{◌≡◌, length}
use Rattle.lie_scan.specs.Turns.{all_turns}
use Rattle.lie_scan.specs.Terms.{term_by}
use Rattle.lie_scan.proofs.sum.terms_at.Given as goal

abbrev pub decreases-terms : goal.decreases-terms
decreases-terms l = length l.rest

abbrev pub invariant-terms : goal.invariant-terms
invariant-terms l = all_turns (term_by l.space l.names l.turned) l.fn.terms.list.items l.text ≡ all_turns (term_by l.space l.names l.turned) l.found.list.items l.rest
