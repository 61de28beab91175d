use Rattle.std.proofs.Common.{◌≡◌, ◌++◌, map, drop, Some, IfSome}
use Rattle.lie_print.specs.PrintedTerms.{printed}
use Rattle.lie_canonical.specs.RightSides.{turned_terms, plain_terms}
use Rattle.lie_canonical.proofs.right_side.turned_terms.Given as goal

abbrev pub invariant-loop-term : goal.invariant-loop-term
invariant-loop-term l = IfSome l.left (λ m. m ≡ l.fn.lead) × (map printed l.out.items ++ plain_terms (turned_terms l.left (drop l.term-index l.terms)) ≡ plain_terms (turned_terms (Some l.fn.lead) l.terms))
