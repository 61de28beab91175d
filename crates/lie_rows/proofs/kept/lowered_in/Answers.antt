use Rattle.std.proofs.Common.{◌≡◌, ◌<◌, ◌∙◌, ap, sym, subst, arith, length, pos, List, ℤ, Vec, Global, Some, None}
use Rattle.std.proofs.lemmas.Result.{IfOk-weaker, IfErr-weaker}
use Rattle.lie_ring.specs.declared.failures.PolyFail.{PolyFail}
use Rattle.lie_spans.specs.Bulks.{clearing_bulks, lowered_in_bulks, NumbersMade}
use Rattle.lie_spans.specs.Elimination.{cleared_rows, first_with}
use Rattle.lie_spans.specs.KeptRows.{AreKept, ending_at, lowered_in}
use Rattle.lie_spans.specs.Rows.{entry, HaveLength}
use Rattle.lie_rows.specs.Causes.{AreWithin, IsWorkCause}
use Rattle.lie_rows.specs.Rows.{rows_of, row_at}
use Rattle.lie_rows.proofs.Causes.{cause_of}
use Rattle.lie_rows.proofs.Ending.{ending_counts, ending_is, ending_length, ending_rows}
use Rattle.lie_rows.proofs.Lowering.{lowered_in_none, when_none}
use Rattle.std.specs.Prelude.{remove}
use Rattle.lie_rows.proofs.kept.lowered_in.Goals as goal

pub returns-then-is_none-clause-items : goal.returns-then-is_none-clause-items
returns-then-is_none-clause-items c = (lowered_in_none c.args.column (rows_of c.args.kept.now.rows.items) (rows_of c.args.rows.items) (ap (λ xs. first_with c.args.column (rows_of xs)) (sym c.deref.ensures.value) ∙ when_none (λ i. (i < length c.deref.result.now) × (first_with c.args.column (rows_of c.deref.result.now) ≡ Some (row_at c.deref.result.now i, rows_of (remove c.deref.result.now i)))) c.first_with.result c.if-is_none.ensures c.first_with.ensures)).0

pub returns-then-is_none-clause-fits : goal.returns-then-is_none-clause-fits
returns-then-is_none-clause-fits c = (lowered_in_none c.args.column (rows_of c.args.kept.now.rows.items) (rows_of c.args.rows.items) (ap (λ xs. first_with c.args.column (rows_of xs)) (sym c.deref.ensures.value) ∙ when_none (λ i. (i < length c.deref.result.now) × (first_with c.args.column (rows_of c.deref.result.now) ≡ Some (row_at c.deref.result.now i, rows_of (remove c.deref.result.now i)))) c.first_with.result c.if-is_none.ensures c.first_with.ensures)).1

pub cleared_rows-requires-clause-inside : goal.cleared_rows-requires-clause-inside
cleared_rows-requires-clause-inside c =
    let l = ending_length c.args.column c.args.columns c.as_slice-pivots.result.now c.in-Some.i c.index-pivots-i.result (subst (λ (xs : List (Vec ℤ Global)). (c.in-Some.i < length xs) × (ending_at c.args.column (rows_of xs) ≡ Some (row_at xs c.in-Some.i))) (sym c.as_slice-pivots.ensures.value) c.in-Some.ensures) c.index-pivots-i.is (subst (λ xs. AreKept c.args.columns (rows_of xs)) (sym c.as_slice-pivots.ensures.value) c.requires.kept_rows) in
    omega (arith, l, ap length c.deref-in-Some.ensures.value)

pub cleared_rows-requires-clause-pivot_entry : goal.cleared_rows-requires-clause-pivot_entry
cleared_rows-requires-clause-pivot_entry c = subst (λ p. ¬ (entry p c.args.column ≡ pos 0)) (sym c.deref-in-Some.ensures.value) (ending_counts c.args.column c.args.columns c.as_slice-pivots.result.now c.in-Some.i c.index-pivots-i.result (subst (λ (xs : List (Vec ℤ Global)). (c.in-Some.i < length xs) × (ending_at c.args.column (rows_of xs) ≡ Some (row_at xs c.in-Some.i))) (sym c.as_slice-pivots.ensures.value) c.in-Some.ensures) c.index-pivots-i.is (subst (λ xs. AreKept c.args.columns (rows_of xs)) (sym c.as_slice-pivots.ensures.value) c.requires.kept_rows))

pub cleared_rows-requires-clause-lengths : goal.cleared_rows-requires-clause-lengths
cleared_rows-requires-clause-lengths c =
    subst (λ p. HaveLength (length p) (rows_of c.args.rows.items)) (sym c.deref-in-Some.ensures.value) (ending_rows c.args.column c.args.columns c.as_slice-pivots.result.now c.in-Some.i c.index-pivots-i.result (subst (λ (xs : List (Vec ℤ Global)). (c.in-Some.i < length xs) × (ending_at c.args.column (rows_of xs) ≡ Some (row_at xs c.in-Some.i))) (sym c.as_slice-pivots.ensures.value) c.in-Some.ensures) c.index-pivots-i.is (subst (λ xs. AreKept c.args.columns (rows_of xs)) (sym c.as_slice-pivots.ensures.value) c.requires.kept_rows) (rows_of c.args.rows.items) c.requires.lengths)

pub returns-in-Some-clause-items : goal.returns-in-Some-clause-items
returns-in-Some-clause-items c =
    IfOk-weaker c.cleared_rows.result (λ (v : Vec (Vec ℤ Global) Global). rows_of v.items ≡ cleared_rows c.deref-in-Some.result.now c.args.column (rows_of c.args.rows.items))
    (λ (v : Vec (Vec ℤ Global) Global). rows_of v.items ≡ lowered_in c.args.column (rows_of c.args.rows.items) (ending_at c.args.column (rows_of c.args.kept.now.rows.items)))
    (λ v x. x ∙ ap (λ p. cleared_rows p c.args.column (rows_of c.args.rows.items)) c.deref-in-Some.ensures.value ∙ ap (lowered_in c.args.column (rows_of c.args.rows.items)) (sym (subst (λ (xs : List (Vec ℤ Global)). ending_at c.args.column (rows_of xs) ≡ Some c.index-pivots-i.result.items) c.as_slice-pivots.ensures.value (ending_is c.args.column c.args.columns c.as_slice-pivots.result.now c.in-Some.i c.index-pivots-i.result (subst (λ (xs : List (Vec ℤ Global)). (c.in-Some.i < length xs) × (ending_at c.args.column (rows_of xs) ≡ Some (row_at xs c.in-Some.i))) (sym c.as_slice-pivots.ensures.value) c.in-Some.ensures) c.index-pivots-i.is (subst (λ xs. AreKept c.args.columns (rows_of xs)) (sym c.as_slice-pivots.ensures.value) c.requires.kept_rows)))))
    c.cleared_rows.ensures.items

pub returns-in-Some-clause-fits : goal.returns-in-Some-clause-fits
returns-in-Some-clause-fits c =
    IfOk-weaker c.cleared_rows.result (λ (v : Vec (Vec ℤ Global) Global). AreWithin (clearing_bulks c.deref-in-Some.result.now c.args.column (rows_of c.args.rows.items)))
    (λ (v : Vec (Vec ℤ Global) Global). AreWithin (lowered_in_bulks c.args.column (rows_of c.args.rows.items) (ending_at c.args.column (rows_of c.args.kept.now.rows.items))))
    (λ v x. subst (λ o. AreWithin (lowered_in_bulks c.args.column (rows_of c.args.rows.items) o)) (sym (subst (λ (xs : List (Vec ℤ Global)). ending_at c.args.column (rows_of xs) ≡ Some c.index-pivots-i.result.items) c.as_slice-pivots.ensures.value (ending_is c.args.column c.args.columns c.as_slice-pivots.result.now c.in-Some.i c.index-pivots-i.result (subst (λ (xs : List (Vec ℤ Global)). (c.in-Some.i < length xs) × (ending_at c.args.column (rows_of xs) ≡ Some (row_at xs c.in-Some.i))) (sym c.as_slice-pivots.ensures.value) c.in-Some.ensures) c.index-pivots-i.is (subst (λ xs. AreKept c.args.columns (rows_of xs)) (sym c.as_slice-pivots.ensures.value) c.requires.kept_rows))))
    (subst (λ p. AreWithin (clearing_bulks p c.args.column (rows_of c.args.rows.items))) c.deref-in-Some.ensures.value x))
    c.cleared_rows.ensures.fits

pub returns-in-Some-clause-cause : goal.returns-in-Some-clause-cause
returns-in-Some-clause-cause c =
    IfErr-weaker c.cleared_rows.result (λ (e : PolyFail). IsWorkCause e (NumbersMade (clearing_bulks c.deref-in-Some.result.now c.args.column (rows_of c.args.rows.items))))
    (λ (e : PolyFail). IsWorkCause e (NumbersMade (lowered_in_bulks c.args.column (rows_of c.args.rows.items) (ending_at c.args.column (rows_of c.args.kept.now.rows.items)))))
    (λ e x. cause_of e (clearing_bulks c.deref-in-Some.result.now c.args.column (rows_of c.args.rows.items)) (lowered_in_bulks c.args.column (rows_of c.args.rows.items) (ending_at c.args.column (rows_of c.args.kept.now.rows.items)))
    (λ f. subst (λ p. AreWithin (clearing_bulks p c.args.column (rows_of c.args.rows.items))) (sym c.deref-in-Some.ensures.value)
    (subst (λ o. AreWithin (lowered_in_bulks c.args.column (rows_of c.args.rows.items) o)) (subst (λ (xs : List (Vec ℤ Global)). ending_at c.args.column (rows_of xs) ≡ Some c.index-pivots-i.result.items) c.as_slice-pivots.ensures.value (ending_is c.args.column c.args.columns c.as_slice-pivots.result.now c.in-Some.i c.index-pivots-i.result (subst (λ (xs : List (Vec ℤ Global)). (c.in-Some.i < length xs) × (ending_at c.args.column (rows_of xs) ≡ Some (row_at xs c.in-Some.i))) (sym c.as_slice-pivots.ensures.value) c.in-Some.ensures) c.index-pivots-i.is (subst (λ xs. AreKept c.args.columns (rows_of xs)) (sym c.as_slice-pivots.ensures.value) c.requires.kept_rows))) f)) x)
    c.cleared_rows.ensures.cause
