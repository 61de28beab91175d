use Rattle.std.proofs.Common.{◌∙◌, refl}
use Rattle.lie_math.specs.LinearForm.{LinearForm}
use Rattle.lie_lin.specs.EquationLists.{IsEquationOf}
use Rattle.lie_lin.proofs.AddedEquations.{adds_none, adds_more, adds_all}
use Rattle.lie_tables.proofs.Following.{follows_on}
use Rattle.lie_replace.proofs.cleaning.put_each.Goals as goal

pub loop-form-init : goal.loop-form-init
loop-form-init c = record { added = adds_none (λ (E : LinearForm) e. IsEquationOf E e) c.args.equations.now.items c.requires.ordered; filled = c.requires.filled; indexed = (refl, c.requires.indexed); back = refl }

pub loop-form-preserved : goal.loop-form-preserved
loop-form-preserved c = record {
  added = adds_more (λ (E : LinearForm) e. IsEquationOf E e) c.args.forms.now c.loop-form.form-index c.form-item.result c.args.equations.now.items c.loop-form.equations.items c.put_noted.new.equations.items c.loop-form-test.true c.form-item.is c.loop-form.invariant.added c.in_ok-put_noted.ensures.added;
  filled = c.in_ok-put_noted.ensures.filled;
  indexed = follows_on c.args.tables.now c.loop-form.tables c.put_noted.new.tables c.loop-form.equations.items c.put_noted.new.equations.items c.loop-form.invariant.indexed c.put_noted.ensures.indexed;
  back = c.in_ok-put_noted.ensures.back ∙ c.loop-form.invariant.back;
}

pub returns-clause-added : goal.returns-clause-added
returns-clause-added c = adds_all (λ (E : LinearForm) e. IsEquationOf E e) c.args.forms.now c.loop-form.form-index c.args.equations.now.items c.loop-form.equations.items c.loop-form-test.false c.loop-form.invariant.added
