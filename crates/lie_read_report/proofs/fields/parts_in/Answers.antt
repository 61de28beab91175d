use Rattle.std.proofs.Common.{arith, ap, subst, sym, map, length, ◌≡◌, ◌-◌, ◌+◌, ◌∷◌, []}
use Rattle.std.specs.List.{AllByRecursion as Every}
use Rattle.std.proofs.lemmas.Result.{err_from_is_err_and}
use Rattle.std.proofs.lemmas.List.{length-append}
use Rattle.std.specs.Global.{Vec}
use Rattle.lie_math.specs.Polynomial.{WholePolynomial}
use Rattle.lie_math.proofs.EveryElement.{every-append}
use Rattle.lie_print.specs.PrintedTerms.{printed}
use Rattle.lie_readback.proofs.Found.{FoundSoFar, found_none, found_more, found_all, fails_here}
use Rattle.lie_read_report.specs.FieldTerms.{terms_at, parts_from}
use Rattle.lie_read_report.specs.WellFormed.{IsReportedPart}
use Rattle.lie_read_report.proofs.Reported.{parts_next, parts_end}
use Rattle.lie_read_report.proofs.fields.parts_in.Goals as goal

pub returns-in_err-part-clause-value : goal.returns-in_err-part-clause-value
returns-in_err-part-clause-value c =
    let p = err_from_is_err_and c.from_residual.result c.from_residual.ensures.1 in
    let ts = map printed c.args.terms.now in
    let i = c.loop-i.i in
    rw (p.1, p.2) (fails_here (IsReportedPart c.args.size) (λ (P : WholePolynomial). P.list) (λ (Ps : Vec WholePolynomial). Ps.items) (λ (P : WholePolynomial). P) (parts_from c.args.size 0 ts) c.loop-i.parts.items (terms_at i ts)
    (parts_from (c.args.size - i) i ts) (parts_from (c.args.size - (i + 1)) (i + 1) ts) c.in_err-part.field-0.0 c.loop-i.invariant.so_far (parts_next c.args.size i ts c.loop-i-test.true) c.in_err-part.ensures.value)

pub loop-i-preserved : goal.loop-i-preserved
loop-i-preserved c =
    let ts = map printed c.args.terms.now in
    let i = c.loop-i.i in
    let lt = c.loop-i-test.true in
    record {
      within = omega arith;
      many = subst (λ l. length l ≡ i + 1) (sym c.in_ok-push.ensures.items) (let l = length-append c.loop-i.parts.items (c.in_ok-part.part ∷ []) in let m = c.loop-i.invariant.many in omega arith);
      kept = subst (Every (IsReportedPart c.args.size)) (sym c.in_ok-push.ensures.items) (every-append (IsReportedPart c.args.size) c.loop-i.parts.items (c.in_ok-part.part ∷ []) c.loop-i.invariant.kept (c.in_ok-part.ensures.kept, tt));
      so_far =
          subst (λ l. FoundSoFar (IsReportedPart c.args.size) (λ (P : WholePolynomial). P.list) (parts_from c.args.size 0 ts) l (parts_from (c.args.size - (i + 1)) (i + 1) ts)) (sym c.in_ok-push.ensures.items)
          (found_more (IsReportedPart c.args.size) (λ (P : WholePolynomial). P.list) (parts_from c.args.size 0 ts) c.loop-i.parts.items c.in_ok-part.part (terms_at i ts)
          (parts_from (c.args.size - i) i ts) (parts_from (c.args.size - (i + 1)) (i + 1) ts) c.loop-i.invariant.so_far (parts_next c.args.size i ts lt) c.in_ok-part.ensures.value);
    }

pub returns-clause-value : goal.returns-clause-value
returns-clause-value c =
    let ts = map printed c.args.terms.now in
    found_all (IsReportedPart c.args.size) (λ (P : WholePolynomial). P.list) (parts_from c.args.size 0 ts) c.loop-i.parts.items (parts_from (c.args.size - c.loop-i.i) c.loop-i.i ts) c.loop-i.invariant.so_far
    (parts_end c.args.size c.loop-i.i ts (omega (arith, c.loop-i-test.false)))
