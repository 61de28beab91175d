use Rattle.std.proofs.Common.{◌≡◌, map}
use Rattle.lie_lin.specs.Forms.{triples_of}
use Rattle.lie_lin.specs.Systems.{unknown_of}
use Rattle.lie_print.specs.PrintedTerms.{printed}
use Rattle.lie_report.specs.Terms.{shown_term}
use Rattle.lie_report.proofs.terms.form_terms.Given as goal

abbrev pub invariant-loop-derivative : goal.invariant-loop-derivative
invariant-loop-derivative l = map printed l.terms.items ≡ map (shown_term (map unknown_of l.unknowns)) (triples_of l.yielded)
