use Rattle.std.proofs.Common.{◌≡◌, map, []}
use Rattle.lie_print.specs.PrintedTerms.{printed}
use Rattle.lie_readback.specs.Groups.{grouped, group_seen}
use Rattle.lie_readback.proofs.forms.grouped.Given as goal

abbrev pub invariant-loop-term : goal.invariant-loop-term
invariant-loop-term l = grouped [] (map printed l.fn.terms.items) ≡ grouped (map group_seen l.groups.items) (map printed l.term-iterator.rest.items)
