use Rattle.std.proofs.Common.{refl, map}
use Rattle.lie_print.specs.PrintedTerms.{printed}
use Rattle.lie_report.proofs.Lists.{component_terms-push}
use Rattle.lie_report.proofs.terms.push_component.Goals as goal

pub loop-monomial-preserved : goal.loop-monomial-preserved
loop-monomial-preserved c =
    component_terms-push c.args.variable (map printed c.args.terms.now.items) c.loop-monomial.terms.items c.push.new.self.items _ c.loop-monomial.yielded c.in-Some.monomial c.in-Some.number refl
    c.in_ok-push.ensures.items c.loop-monomial.invariant
