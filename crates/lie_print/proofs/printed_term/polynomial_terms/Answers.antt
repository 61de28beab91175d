use Rattle.std.proofs.Common.{refl}
use Rattle.lie_print.proofs.PrintedLists.{polynomial_terms-push}
use Rattle.lie_print.proofs.printed_term.polynomial_terms.Goals as goal

pub loop-monomial-preserved : goal.loop-monomial-preserved
loop-monomial-preserved c = polynomial_terms-push c.loop-monomial.terms.items c.push.new.self.items _ c.loop-monomial.yielded c.in-Some.monomial c.in-Some.number refl c.in_ok-push.ensures.items c.loop-monomial.invariant
