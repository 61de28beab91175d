use Rattle.std.proofs.Common.{arith, ap, subst, sym, map, ◌∷◌, []}
use Rattle.std.specs.List.{AllByRecursion as Every}
use Rattle.std.proofs.lemmas.Result.{err_from_is_err_and}
use Rattle.std.specs.Global.{Vec}
use Rattle.lie_math.specs.LinearForm.{LinearForm}
use Rattle.lie_math.proofs.EveryElement.{every-append}
use Rattle.lie_readback.specs.DraftViews.{terms_seen}
use Rattle.lie_readback.specs.Groups.{written_terms}
use Rattle.lie_readback.specs.WellFormed.{IsReportedForm}
use Rattle.lie_readback.proofs.Found.{FoundSoFar, found_more, found_all, fails_here}
use Rattle.lie_readback.proofs.Drafted.{terms_none}
use Rattle.lie_readback.proofs.forms.forms_of.Goals as goal

pub returns-in_err-form-clause-value : goal.returns-in_err-form-clause-value
returns-in_err-form-clause-value c =
    let p = err_from_is_err_and c.from_residual.result c.from_residual.ensures.1 in
    rw (p.1, p.2) (fails_here IsReportedForm written_terms (λ (Es : Vec LinearForm). Es.items) (λ (E : LinearForm). E) (map terms_seen c.args.drafts.items) c.loop-terms.forms.items (terms_seen c.in-Some.terms)
    (map terms_seen c.loop-terms.terms-iterator.rest.items) (map terms_seen c.next.new.self.rest.items) c.in_err-form.field-0.0 c.loop-terms.invariant.so_far (ap (map terms_seen) c.in-Some.ensures.steps.0) c.in_err-form.ensures.value)

pub loop-terms-preserved : goal.loop-terms-preserved
loop-terms-preserved c = record {
  so_far =
      subst (λ l. FoundSoFar IsReportedForm written_terms (map terms_seen c.args.drafts.items) l (map terms_seen c.next.new.self.rest.items)) (sym c.in_ok-push.ensures.items)
      (found_more IsReportedForm written_terms (map terms_seen c.args.drafts.items) c.loop-terms.forms.items c.in_ok-form.form (terms_seen c.in-Some.terms)
      (map terms_seen c.loop-terms.terms-iterator.rest.items) (map terms_seen c.next.new.self.rest.items) c.loop-terms.invariant.so_far (ap (map terms_seen) c.in-Some.ensures.steps.0) c.in_ok-form.ensures.value);
  kept = subst (Every IsReportedForm) (sym c.in_ok-push.ensures.items) (every-append IsReportedForm c.loop-terms.forms.items (c.in_ok-form.form ∷ []) c.loop-terms.invariant.kept (c.in_ok-form.ensures.kept, tt));
}

pub returns-clause-value : goal.returns-clause-value
returns-clause-value c =
    let o = c.loop-terms.terms-iterator.rest.ok in
    found_all IsReportedForm written_terms (map terms_seen c.args.drafts.items) c.loop-terms.forms.items (map terms_seen c.loop-terms.terms-iterator.rest.items) c.loop-terms.invariant.so_far
    (terms_none c.loop-terms.terms-iterator.rest.items (omega (arith, o, c.in-None.ensures.steps.0)))
