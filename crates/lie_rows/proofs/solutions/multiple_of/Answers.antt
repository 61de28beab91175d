use Rattle.std.proofs.Common.{◌≡◌, ℕ, ◌+◌, ◌-◌, ◌<◌, ◌∙◌, ap, sym, subst, arith, length, drop, get_or, List, pos, ℤ, true≢false}
use Rattle.std.specs.Prelude.{unsigned_abs}
use Rattle.lie_spans.specs.KeptRows.{last_column}
use Rattle.lie_spans.specs.Rows.{entry}
use Rattle.lie_spans.specs.Solutions.{common_multiple, last_multiple}
use Rattle.lie_spans.proofs.Reduced.{abs_positive}
use Rattle.lie_rows.specs.Rows.{rows_of}
use Rattle.lie_rows.proofs.Ending.{end_at, ends_length}
use Rattle.lie_rows.proofs.RowLoops.{read_at}
use Rattle.lie_rows.proofs.SolutionEntries.{multiple_drop, multiple_more, place_counts, place_inside, place_length}
use Rattle.lie_rows.proofs.solutions.multiple_of.Goals as goal

pub index-requires : goal.index-requires
index-requires c =
    let l = place_length c.args.columns c.args.kept.now.rows.items (c.loop-left.left - 1) c.index-row.result.now c.requires.kept_rows (omega arith) c.index-row.ensures in
    omega (arith, l, c.index-row.result.now.ok.0)

pub index-requires-then-not-is_zero : goal.index-requires-then-not-is_zero
index-requires-then-not-is_zero c =
    let l = ends_length c.args.kept.now.rows.items c.args.kept.now.ends.items c.requires.ends in
    omega (arith, l, c.args.kept.now.ends.ok.0)

pub index-requires-then-not-is_zero-2 : goal.index-requires-then-not-is_zero-2
index-requires-then-not-is_zero-2 c =
    let e = (end_at c.args.kept.now.rows.items c.args.kept.now.ends.items c.requires.ends (c.loop-left.left - 1) c.index-row.result.now c.index-then-not-is_zero.result.now (omega arith) c.index-row.ensures c.index-then-not-is_zero.ensures) in
    let l = place_inside c.args.columns c.args.kept.now.rows.items (c.loop-left.left - 1) c.index-row.result.now c.requires.kept_rows (omega arith) c.index-row.ensures in
    omega (arith, e, l, c.index-row.result.now.ok.0)

pub common_multiple_of-requires : goal.common_multiple_of-requires
common_multiple_of-requires c =
    subst (λ n. 0 < n) (sym (c.size.ensures.size ∙ ap unsigned_abs (sym (read_at c.index-row.result.now.items (last_column c.index-row.result.now.items) c.index-then-not-is_zero-2.result.now (place_inside c.args.columns c.args.kept.now.rows.items (c.loop-left.left - 1) c.index-row.result.now c.requires.kept_rows (omega arith) c.index-row.ensures) (c.index-then-not-is_zero-2.ensures ∙ ap (λ j. get_or c.index-row.result.now.items j c.index-then-not-is_zero-2.result.now) (end_at c.args.kept.now.rows.items c.args.kept.now.ends.items c.requires.ends (c.loop-left.left - 1) c.index-row.result.now c.index-then-not-is_zero.result.now (omega arith) c.index-row.ensures c.index-then-not-is_zero.ensures))))))
    (abs_positive (entry c.index-row.result.now.items (last_column c.index-row.result.now.items)) (place_counts c.args.columns c.args.kept.now.rows.items (c.loop-left.left - 1) c.index-row.result.now c.requires.kept_rows (omega arith) c.index-row.ensures))

not_zero_at : (items : List ℤ) (k : ℕ) (x : ℤ) → k < length items → x ≡ get_or items k x → ¬ (x ≡ pos 0) → ¬ (entry items k ≡ pos 0)
not_zero_at items k x l e n z = n (sym (read_at items k x l e) ∙ z)

pub loop-left-preserved-in-Some : goal.loop-left-preserved-in-Some
loop-left-preserved-in-Some c = record {
  within = omega arith;
  value = multiple_more c.args.columns c.args.kept.now.rows.items (c.loop-left.left - 1) c.index-row.result.now c.requires.kept_rows (omega arith) c.index-row.ensures c.args.column c.loop-left.found c.in-Some.multiple (not_zero_at c.index-row.result.now.items c.args.column c.index.result.now (let l = place_length c.args.columns c.args.kept.now.rows.items (c.loop-left.left - 1) c.index-row.result.now c.requires.kept_rows (omega arith) c.index-row.ensures in omega (arith, l)) c.index.ensures (λ z. true≢false (sym (c.is_zero.ensures.1 z) ∙ c.if-not-is_zero.true))) (c.loop-left.invariant.value ∙ ap (λ n. last_multiple c.args.column (rows_of (drop n c.args.kept.now.rows.items))) (let o : c.loop-left.left ≡ c.loop-left.left - 1 + 1 = omega arith in o)) (c.in-Some.ensures.0 ∙ ap (λ n. common_multiple n c.loop-left.found) (c.size.ensures.size ∙ ap unsigned_abs (sym (read_at c.index-row.result.now.items (last_column c.index-row.result.now.items) c.index-then-not-is_zero-2.result.now (place_inside c.args.columns c.args.kept.now.rows.items (c.loop-left.left - 1) c.index-row.result.now c.requires.kept_rows (omega arith) c.index-row.ensures) (c.index-then-not-is_zero-2.ensures ∙ ap (λ j. get_or c.index-row.result.now.items j c.index-then-not-is_zero-2.result.now) (end_at c.args.kept.now.rows.items c.args.kept.now.ends.items c.requires.ends (c.loop-left.left - 1) c.index-row.result.now c.index-then-not-is_zero.result.now (omega arith) c.index-row.ensures c.index-then-not-is_zero.ensures))))));
  bound = c.in-Some.ensures.1;
}

pub returns-in-None : goal.returns-in-None
returns-in-None c =
    let m = multiple_more c.args.columns c.args.kept.now.rows.items (c.loop-left.left - 1) c.index-row.result.now c.requires.kept_rows (omega arith) c.index-row.ensures c.args.column c.loop-left.found (common_multiple c.size.result c.loop-left.found) (not_zero_at c.index-row.result.now.items c.args.column c.index.result.now (let l = place_length c.args.columns c.args.kept.now.rows.items (c.loop-left.left - 1) c.index-row.result.now c.requires.kept_rows (omega arith) c.index-row.ensures in omega (arith, l)) c.index.ensures (λ z. true≢false (sym (c.is_zero.ensures.1 z) ∙ c.if-not-is_zero.true))) (c.loop-left.invariant.value ∙ ap (λ n. last_multiple c.args.column (rows_of (drop n c.args.kept.now.rows.items))) (let o : c.loop-left.left ≡ c.loop-left.left - 1 + 1 = omega arith in o)) (ap (λ n. common_multiple n c.loop-left.found) (c.size.ensures.size ∙ ap unsigned_abs (sym (read_at c.index-row.result.now.items (last_column c.index-row.result.now.items) c.index-then-not-is_zero-2.result.now (place_inside c.args.columns c.args.kept.now.rows.items (c.loop-left.left - 1) c.index-row.result.now c.requires.kept_rows (omega arith) c.index-row.ensures) (c.index-then-not-is_zero-2.ensures ∙ ap (λ j. get_or c.index-row.result.now.items j c.index-then-not-is_zero-2.result.now) (end_at c.args.kept.now.rows.items c.args.kept.now.ends.items c.requires.ends (c.loop-left.left - 1) c.index-row.result.now c.index-then-not-is_zero.result.now (omega arith) c.index-row.ensures c.index-then-not-is_zero.ensures)))))) in
    let d = multiple_drop c.args.column c.args.kept.now.rows.items (c.loop-left.left - 1) c.requires.kept_rows.counts in
    omega (arith, m, d, c.in-None.ensures)
