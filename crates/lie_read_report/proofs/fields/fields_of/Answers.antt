use Rattle.std.proofs.Common.{arith, ap, subst, sym, map, ◌∷◌, []}
use Rattle.std.specs.List.{AllByRecursion as Every}
use Rattle.std.proofs.lemmas.Result.{err_from_is_err_and}
use Rattle.std.specs.Global.{Vec}
use Rattle.lie_math.specs.VectorField.{VectorField}
use Rattle.lie_math.proofs.EveryElement.{every-append}
use Rattle.lie_readback.specs.DraftViews.{terms_seen}
use Rattle.lie_readback.proofs.Found.{FoundSoFar, found_more, found_all, fails_here}
use Rattle.lie_readback.proofs.Drafted.{terms_none}
use Rattle.lie_read_report.specs.FieldTerms.{written_field}
use Rattle.lie_read_report.specs.WellFormed.{IsReportedField}
use Rattle.lie_read_report.proofs.fields.fields_of.Goals as goal

pub returns-in_err-field-clause-value : goal.returns-in_err-field-clause-value
returns-in_err-field-clause-value c =
    let p = err_from_is_err_and c.from_residual.result c.from_residual.ensures.1 in
    rw (p.1, p.2) (fails_here (IsReportedField c.args.size) written_field (λ (Vs : Vec VectorField). Vs.items) (λ (V : VectorField). V) (map terms_seen c.args.drafts.items) c.loop-terms.fields.items (terms_seen c.in-Some.terms)
    (map terms_seen c.loop-terms.terms-iterator.rest.items) (map terms_seen c.next.new.self.rest.items) c.in_err-field.field-0.0 c.loop-terms.invariant.so_far (ap (map terms_seen) c.in-Some.ensures.steps.0) c.in_err-field.ensures.value)

pub loop-terms-preserved : goal.loop-terms-preserved
loop-terms-preserved c = record {
  so_far =
      subst (λ l. FoundSoFar (IsReportedField c.args.size) written_field (map terms_seen c.args.drafts.items) l (map terms_seen c.next.new.self.rest.items)) (sym c.in_ok-push.ensures.items)
      (found_more (IsReportedField c.args.size) written_field (map terms_seen c.args.drafts.items) c.loop-terms.fields.items c.in_ok-field.field (terms_seen c.in-Some.terms)
      (map terms_seen c.loop-terms.terms-iterator.rest.items) (map terms_seen c.next.new.self.rest.items) c.loop-terms.invariant.so_far (ap (map terms_seen) c.in-Some.ensures.steps.0) c.in_ok-field.ensures.value);
  kept = subst (Every (IsReportedField c.args.size)) (sym c.in_ok-push.ensures.items) (every-append (IsReportedField c.args.size) c.loop-terms.fields.items (c.in_ok-field.field ∷ []) c.loop-terms.invariant.kept (c.in_ok-field.ensures.kept, tt));
}

pub returns-clause-value : goal.returns-clause-value
returns-clause-value c =
    let o = c.loop-terms.terms-iterator.rest.ok in
    found_all (IsReportedField c.args.size) written_field (map terms_seen c.args.drafts.items) c.loop-terms.fields.items (map terms_seen c.loop-terms.terms-iterator.rest.items) c.loop-terms.invariant.so_far
    (terms_none c.loop-terms.terms-iterator.rest.items (omega (arith, o, c.in-None.ensures.steps.0)))
