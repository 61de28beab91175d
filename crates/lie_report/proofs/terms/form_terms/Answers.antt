use Rattle.std.proofs.Common.{ap, map}
use Rattle.std.specs.Prelude.{Some}
use Rattle.lie_math.specs.Counts.{trimmed}
use Rattle.lie_lin.specs.Systems.{unknown_of}
use Rattle.lie_print.specs.Printing.{of_unknown}
use Rattle.lie_report.proofs.Lists.{form_terms-push}
use Rattle.lie_report.proofs.terms.form_terms.Goals as goal

pub loop-derivative-preserved : goal.loop-derivative-preserved
loop-derivative-preserved c =
    form_terms-push (map unknown_of c.args.unknowns.now) c.loop-derivative.terms.items c.push.new.self.items _ c.loop-derivative.yielded c.in-Some.derivative c.in-Some.monomial c.in-Some.number
    (ap (λ n. (c.in-Some.number, c.in-Some.monomial, Some (of_unknown (record { unknown = n; counts = trimmed c.in-Some.derivative.counts })))) c.shown_number-shown.ensures)
    c.in_ok-push.ensures.items c.loop-derivative.invariant
