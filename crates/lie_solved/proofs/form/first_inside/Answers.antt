use Rattle.std.proofs.Common.{sym, ap, ◌∙◌}
use Rattle.std.specs.List.{list_any}
use Rattle.lie_geometry.specs.SolvedEquations.{is_lead}
use Rattle.lie_solved.specs.SolvedForms.{solved_equations}
use Rattle.lie_solved.specs.Equations.{variables_of}
use Rattle.lie_solved.proofs.RuleSteps.{first_at, none_more}
use Rattle.lie_solved.proofs.form.first_inside.Goals as goal
use Rattle.lie_jet.proofs.TotalParts.{entries_same}

pub returns-then-have_lead : goal.returns-then-have_lead
returns-then-have_lead c =
    first_at c.args.space c.args.rules.now c.loop-i.i c.index-rules-i.result c.loop-i-test.true c.index-rules-i.is
    (ap (λ ts. list_any (is_lead (solved_equations c.args.space c.args.rules.now)) (variables_of ts)) (sym (c.as_slice.ensures.value ∙ sym (entries_same c.in_ok-terms.terms.items) ∙ c.in_ok-terms.ensures)) ∙ sym c.have_lead.ensures ∙ c.if-have_lead.true) c.loop-i.invariant

pub loop-i-preserved : goal.loop-i-preserved
loop-i-preserved c =
    none_more c.args.space c.args.rules.now c.loop-i.i c.index-rules-i.result c.loop-i-test.true c.index-rules-i.is
    (ap (λ ts. list_any (is_lead (solved_equations c.args.space c.args.rules.now)) (variables_of ts)) (sym (c.as_slice.ensures.value ∙ sym (entries_same c.in_ok-terms.terms.items) ∙ c.in_ok-terms.ensures)) ∙ sym c.have_lead.ensures ∙ c.if-have_lead.false) c.loop-i.invariant
