use Rattle.std.proofs.Common.{◌≡◌, ◌<◌, ℕ, ap, subst, sym, ◌∙◌, length, get_or}
use Rattle.std.specs.Prelude.{pos, unsigned_abs, ◌*ℤ◌}
use Rattle.std.proofs.lemmas.Result.{err_from_is_err_and}
use Rattle.lie_math.specs.FiniteSum.{IsCanonical}
use Rattle.lie_math.specs.PartialDerivative.{lower}
use Rattle.lie_math.specs.Polynomial.{term, terms, ◌*ᴾ◌}
use Rattle.lie_math.specs.VectorField.{component}
use Rattle.lie_ring.specs.Causes.{IsCause}
use Rattle.lie_poly.proofs.SumSteps.{cause_covered}
use Rattle.lie_jet.specs.Listed.{sum_listed, bulk_listed}
use Rattle.lie_jet.proofs.TotalParts.{variable_below}
use Rattle.lie_brackets.specs.FieldTerms.{field_of_terms}
use Rattle.lie_brackets.proofs.DerivedTerms.{nothing_behind, some_power, power_covered, derived_more, derived_end}
use Rattle.lie_brackets.proofs.FieldParts.{part_sum, part_ordered, part_bulk, sizes, sizes_plain}
use Rattle.lie_brackets.proofs.derivations.push_derived.Goals as goal
use Rattle.lie_brackets.proofs.derivations.push_derived.Goals.{After-index-values-var}

module _ (c : After-index-values-var) where
  abbrev var : ℕ
  var = (get_or c.pairs-var-items.result.now c.loop-var.var-index (0, 0)).0

  inside : var < length c.args.values.now
  inside = variable_below (length c.args.values.now) c.args.mono.now c.pairs-var-items.result.now c.loop-var.var-index c.requires.low c.pairs-var-items.ensures c.loop-var-test.true

  read_sum : sum_listed c.index-values-var.result.items ≡ component (field_of_terms c.args.values.now) var
  read_sum = part_sum c.args.values.now var c.index-values-var.result inside c.index-values-var.is

  read_bulk : bulk_listed c.index-values-var.result.items ≡ sizes c.args.values.now var
  read_bulk = part_bulk c.args.values.now var c.index-values-var.result inside c.index-values-var.is c.requires.values

pub loop-var-init : goal.loop-var-init
loop-var-init c = record { sum = nothing_behind _; bulk = nothing_behind _ }

pub bounds-values-var : goal.bounds-values-var
bounds-values-var c = variable_below (length c.args.values.now) c.args.mono.now c.pairs-var-items.result.now c.loop-var.var-index c.requires.low c.pairs-var-items.ensures c.loop-var-test.true

pub push_power-requires-clause-value : goal.push_power-requires-clause-value
push_power-requires-clause-value c =
    let k = (goal.at.push_power-requires-clause-value c).After-index-values-var in
    subst (IsCanonical terms) (sym c.as_slice-value.ensures.value) (part_ordered c.args.values.now (var k) c.index-values-var.result (inside k) c.index-values-var.is c.requires.values)

pub push_power-requires-clause-positive : goal.push_power-requires-clause-positive
push_power-requires-clause-positive c = some_power c.args.mono.now c.pairs-var-items.result.now c.loop-var.var-index c.pairs-var-items.ensures c.loop-var-test.true

pub returns-in_err-push_power-clause-past : goal.returns-in_err-push_power-clause-past
returns-in_err-push_power-clause-past c =
    let k = (goal.at.returns-in_err-push_power-clause-past c).After-index-values-var in
    let p = err_from_is_err_and c.from_residual.result c.from_residual.ensures.1 in
    rw (p.1, p.2) (cause_covered _ _ _ (power_covered (sizes c.args.values.now) (sizes_plain c.args.values.now) c.args.mono.now (unsigned_abs c.args.number) c.loop-var.var-index c.pairs-var-items.result.now c.pairs-var-items.ensures c.loop-var-test.true)
    (subst (λ q. IsCause c.in_err-push_power.field-0.0 (q *ᴾ term (lower (var k) c.args.mono.now) (pos (unsigned_abs c.args.number) *ℤ pos (get_or c.pairs-var-items.result.now c.loop-var.var-index (0, 0)).1))) (ap bulk_listed c.as_slice-value.ensures.value ∙ read_bulk k) c.in_err-push_power.ensures.past))

pub loop-var-preserved : goal.loop-var-preserved
loop-var-preserved c =
    let k = (goal.at.loop-var-preserved c).After-index-values-var in
    let ps = c.pairs-var-items.result.now in
    let i = c.loop-var.var-index in
    let m = c.args.mono.now in
    record {
      sum = derived_more (component (field_of_terms c.args.values.now)) m c.args.number ps i c.pairs-var-items.ensures (sum_listed c.as_slice-value.result.now) _ _ _ c.loop-var-test.true
          (ap sum_listed c.as_slice-value.ensures.value ∙ read_sum k) c.in_ok-push_power.ensures.sum c.loop-var.invariant.sum;
      bulk = derived_more (sizes c.args.values.now) m (pos (unsigned_abs c.args.number)) ps i c.pairs-var-items.ensures (bulk_listed c.as_slice-value.result.now) _ _ _ c.loop-var-test.true
          (ap bulk_listed c.as_slice-value.ensures.value ∙ read_bulk k) c.in_ok-push_power.ensures.bulk c.loop-var.invariant.bulk;
    }

pub returns-clause-sum : goal.returns-clause-sum
returns-clause-sum c =
    derived_end (component (field_of_terms c.args.values.now)) c.args.mono.now c.args.number c.pairs-var-items.result.now c.loop-var.var-index c.pairs-var-items.ensures _ _ c.loop-var-test.false c.loop-var.invariant.sum

pub returns-clause-bulk : goal.returns-clause-bulk
returns-clause-bulk c =
    derived_end (sizes c.args.values.now) c.args.mono.now (pos (unsigned_abs c.args.number)) c.pairs-var-items.result.now c.loop-var.var-index c.pairs-var-items.ensures _ _ c.loop-var-test.false c.loop-var.invariant.bulk
