use Rattle.std.proofs.Common.{sym, ap, subst, ◌∙◌}
use Rattle.lie_math.specs.LinearForm.{LinearForm}
use Rattle.lie_systems.specs.Triples.{sum_of_triples}
use Rattle.lie_systems.specs.ValidSystems.{IsFormOf}
use Rattle.lie_lin.specs.Forms.{triples_of}
use Rattle.lie_normal.specs.WorkedValues.{functions}
use Rattle.lie_normal.proofs.WorkedForms.{triples_more, form_of_triples}
use Rattle.lie_normal.proofs.normal_form_tests.form.Goals as goal

pub loop-row-preserved : goal.loop-row-preserved
loop-row-preserved c = triples_more c.loop-row.list.items c.push.new.self.items c.in_ok-new.new c.in_ok-push.ensures.items c.loop-row.invariant c.in_ok-new.ensures

pub returns-in-Ok : goal.returns-in-Ok
returns-in-Ok c =
    subst (λ (E : LinearForm). IsFormOf 2 functions E) (sym (c.in-Ok.ensures.sum ∙ ap (λ l. sum_of_triples (triples_of l)) c.as_slice.ensures.value)) (form_of_triples (triples_of c.loop-row.list.items) c.loop-row.invariant)
