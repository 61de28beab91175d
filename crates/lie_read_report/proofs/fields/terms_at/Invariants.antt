use Rattle.std.proofs.Common.{◌≡◌, ◌++◌, drop, map}
use Rattle.lie_print.specs.PrintedTerms.{printed}
use Rattle.lie_read_report.specs.FieldTerms.{terms_at}
use Rattle.lie_read_report.proofs.fields.terms_at.Given as goal

abbrev pub invariant-loop-term : goal.invariant-loop-term
invariant-loop-term l = l.list.items ++ terms_at l.place (map printed (drop l.term-index l.terms)) ≡ terms_at l.place (map printed l.terms)
