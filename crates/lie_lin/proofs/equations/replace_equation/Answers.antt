use Rattle.std.proofs.Common.{sym, subst}
use Rattle.std.specs.Prelude.{remove}
use Rattle.lie_jet.proofs.TotalSteps.{on_ok}
use Rattle.lie_lin.specs.EquationLists.{HasUnlessEmpty}
use Rattle.lie_lin.proofs.EquationPlaces.{unless_also}
use Rattle.lie_lin.proofs.SystemSteps.{empty_form, not_empty, removed_empty}
use Rattle.lie_lin.proofs.equations.replace_equation.Goals as goal

pub returns-then-terms-eq0-clause-put : goal.returns-then-terms-eq0-clause-put
returns-then-terms-eq0-clause-put c =
    subst (HasUnlessEmpty c.args.eq (remove c.args.equations.now.items c.args.place)) (sym c.remove.ensures.items)
    (removed_empty c.args.eq c.args.equations.now.items c.args.place (empty_form c.args.eq c.terms.result.now c.terms.ensures.list c.if-terms-eq0.true) c.requires.place c.requires.ordered)

pub returns-clause-put : goal.returns-clause-put
returns-clause-put c =
    on_ok c.exchange_equation.result (unless_also c.args.eq (remove c.args.equations.now.items c.args.place) c.exchange_equation.new.equations.items (not_empty c.args.eq c.terms.result.now c.terms.ensures.list c.if-terms-eq0.false)) c.exchange_equation.ensures.put
