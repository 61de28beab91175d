use Rattle.std.proofs.Common.{subst, ◌∙◌, arith}
use Rattle.std.proofs.lemmas.Result.{err_from_is_err_and}
use Rattle.std.specs.Prelude.{◌≤◌, ◌∷◌, [], take}
use Rattle.std.specs.List.{AllByRecursion as Every}
use Rattle.lie_math.specs.Limits.{IsWithinLimits}
use Rattle.lie_math.specs.Monomial.{degree}
use Rattle.lie_math.proofs.EveryElement.{every_at, every-append}
use Rattle.lie_ring.proofs.Fronts.{take_more, all_taken}
use Rattle.lie_degree.specs.Conditions.{said_of, said_bulk}
use Rattle.lie_degree.proofs.Loops.{front_more, front_done}
use Rattle.lie_degree.proofs.SaidSums.{form_sizes, form_bulks, cause_at, said_lists_append}
use Rattle.lie_degree.proofs.equations.said_of_columns.Goals as goal

pub said_of-requires-clause-low : goal.said_of-requires-clause-low
said_of-requires-clause-low c = every_at (λ k. degree k.1 ≤ 8) c.args.columns.now c.loop-column.column-index c.column-item.result
    (omega arith) c.column-item.is c.requires

pub said_of-requires-clause-sizes : goal.said_of-requires-clause-sizes
said_of-requires-clause-sizes c =
    form_sizes c.args.form.now c.terms.result.now c.terms.ensures.list c.column-item.result c.as_slice.result.now
    (c.as_slice.ensures.value ∙ c.in_ok-sizes.ensures.sizes)

pub said_of-requires-clause-bulks : goal.said_of-requires-clause-bulks
said_of-requires-clause-bulks c =
    form_bulks c.args.form.now c.terms.result.now c.terms.ensures.list c.column-item.result c.as_slice.result.now
    (c.as_slice.ensures.value ∙ c.in_ok-sizes.ensures.sizes)

pub loop-column-preserved : goal.loop-column-preserved
loop-column-preserved c = record {
  value = front_more (λ k. (said_of c.args.form.now k).list) c.args.columns.now c.loop-column.column-index c.column-item.result _ _
      (omega arith) c.column-item.is
      (said_lists_append c.loop-column.said.items c.push.new.self.items c.in_ok-said_of.field-0 _ c.in_ok-push.ensures.items
      c.in_ok-said_of.ensures.value) c.loop-column.invariant.value;
  fits = subst (Every (λ k. IsWithinLimits (said_bulk c.args.form.now k)))
      (take_more c.args.columns.now c.loop-column.column-index c.column-item.result (omega arith) c.column-item.is)
      (every-append (λ k. IsWithinLimits (said_bulk c.args.form.now k)) (take c.loop-column.column-index c.args.columns.now)
      (c.column-item.result ∷ []) c.loop-column.invariant.fits (c.in_ok-said_of.ensures.fits, tt));
}

pub returns-in_err-said_of-clause-past : goal.returns-in_err-said_of-clause-past
returns-in_err-said_of-clause-past c =
    let p = err_from_is_err_and c.from_residual-in_err-said_of.result c.from_residual-in_err-said_of.ensures.1 in
    rw (p.1, p.2) (cause_at c.in_err-said_of.field-0.0 c.args.form.now c.args.columns.now c.loop-column.column-index c.column-item.result
    (omega arith) c.column-item.is c.in_err-said_of.ensures.past)

pub returns-clause-value : goal.returns-clause-value
returns-clause-value c = front_done (λ k. (said_of c.args.form.now k).list) c.args.columns.now c.loop-column.column-index _
    (omega arith) c.loop-column.invariant.value

pub returns-clause-fits : goal.returns-clause-fits
returns-clause-fits c = subst (Every (λ k. IsWithinLimits (said_bulk c.args.form.now k)))
    (all_taken c.args.columns.now c.loop-column.column-index (omega arith)) c.loop-column.invariant.fits
