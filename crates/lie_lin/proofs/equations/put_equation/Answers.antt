use Rattle.lie_lin.proofs.AddedEquations.{also_added}
use Rattle.lie_lin.proofs.EquationPlaces.{unless_also, unless_empty}
use Rattle.lie_lin.proofs.SystemSteps.{empty_form, not_empty}
use Rattle.lie_lin.proofs.equations.put_equation.Goals as goal

pub returns-then-terms-eq0-clause-put : goal.returns-then-terms-eq0-clause-put
returns-then-terms-eq0-clause-put c = unless_empty c.args.eq c.args.equations.now.items (empty_form c.args.eq c.terms.result.now c.terms.ensures.list c.if-terms-eq0.true) c.requires

pub returns-clause-put : goal.returns-clause-put
returns-clause-put c =
    unless_also c.args.eq c.args.equations.now.items c.insert_equation.new.equations.items
    (not_empty c.args.eq c.terms.result.now c.terms.ensures.list c.if-terms-eq0.false)
    (also_added c.args.equations.now.items c.insert_equation.new.equations.items c.args.eq c.in_ok-insert_equation.ensures.added)
