use Rattle.std.proofs.Common.{ap, sym, subst, ◌≡◌, ◌∙◌, ◌+◌, ◌<◌, ℕ, List, length, get_or, arith, refl}
use Rattle.std.proofs.lemmas.Result.{err_from_is_err_and}
use Rattle.std.specs.Prelude.{neg_ℤ}
use Rattle.lie_math.specs.Derivation.{is_below}
use Rattle.lie_math.specs.Limits.{IsWithinLimits}
use Rattle.lie_math.specs.Variables.{IsIn}
use Rattle.lie_ring.specs.Causes.{IsCause}
use Rattle.lie_poly.proofs.SumSteps.{cause_covered}
use Rattle.lie_jet.specs.Listed.{sum_listed, bulk_listed}
use Rattle.lie_jet.proofs.TotalParts.{if_ok}
use Rattle.lie_jet.proofs.TotalSteps.{on_ok, if_err}
use Rattle.lie_spans.proofs.Coordinates.{element_at}
use Rattle.lie_brackets.specs.Bulks.{bracket_bulk}
use Rattle.lie_brackets.specs.FieldTerms.{Part, field_of_terms}
use Rattle.lie_brackets.proofs.BracketParts.{first_half_covered, second_half_covered, component_sum, component_bulk}
use Rattle.lie_brackets.proofs.FieldParts.{part_in, part_count}
use Rattle.lie_brackets.proofs.brackets.bracket_part.Goals as goal
use Rattle.lie_brackets.proofs.brackets.bracket_part.Goals.{After-index-w-s, After-as_slice-3}

same_place : (xs : List Part) (k s : ℕ) (x : Part) → k ≡ s → x ≡ get_or xs k x → x ≡ get_or xs s x
same_place xs k s x e h = subst (λ j. x ≡ get_or xs j x) e h

module _ (c : After-index-w-s) where
  inside_w : c.from-s.result < c.args.space.p + c.args.space.q
  inside_w = subst (λ k. k < c.args.space.p + c.args.space.q) (sym c.from-s.ensures) c.requires.inside

  read_v_element : (y : Part) × (y ≡ get_or c.args.v.now c.args.s y)
  read_v_element = element_at c.args.v.now c.args.s (let n = part_count c.args.space c.args.v.now c.requires.v in let h = c.requires.inside in omega arith)

module _ (c : After-as_slice-3) where
  bulk_made : bulk_listed c.as_slice-3.result.now ≡ bracket_bulk (field_of_terms c.args.v.now) (field_of_terms c.args.w.now) c.args.s
  bulk_made =
      ap bulk_listed c.as_slice-3.ensures.value
      ∙ component_bulk c.args.space c.args.v.now c.args.w.now c.requires.v c.requires.w c.args.s c.requires.inside c.index-w-s.result c.index-v-s.result (same_place _ _ _ _ c.from-s.ensures c.index-w-s.is) (same_place _ _ _ _ c.from-s.ensures c.index-v-s.is) c.as_slice.result.now c.as_slice-2.result.now c.as_slice.ensures.value c.as_slice-2.ensures.value
      c.new-made.result.items c.push_derivation.new.made.items c.push_derivation-2.new.made.items c.new-made.ensures.items c.in_ok-push_derivation.ensures.bulk c.in_ok-push_derivation-2.ensures.bulk

pub push_derivation-requires-clause-low : goal.push_derivation-requires-clause-low
push_derivation-requires-clause-low c =
    let k = (goal.at.push_derivation-requires-clause-low c).After-index-w-s in
    subst (λ xs. IsIn (is_below (length c.args.v.now)) (sum_listed xs)) (sym c.as_slice.ensures.value)
    (part_in c.args.space c.args.w.now c.args.v.now c.from-s.result c.index-w-s.result c.requires.w c.requires.v (inside_w k) c.index-w-s.is)

pub returns-in_err-push_derivation-clause-past : goal.returns-in_err-push_derivation-clause-past
returns-in_err-push_derivation-clause-past c =
    let k = (goal.at.returns-in_err-push_derivation-clause-past c).After-index-w-s in
    let y = read_v_element k in
    let p = err_from_is_err_and c.from_residual.result c.from_residual.ensures.1 in
    rw (p.1, p.2) (cause_covered _ _ _ (first_half_covered c.args.space c.args.v.now c.args.w.now c.requires.v c.requires.w c.args.s c.requires.inside c.index-w-s.result y.0 (same_place _ _ _ _ c.from-s.ensures c.index-w-s.is) y.1 c.as_slice.result.now (y.0).items c.as_slice.ensures.value refl) c.in_err-push_derivation.ensures.past)

pub push_derivation-requires-2-clause-low : goal.push_derivation-requires-2-clause-low
push_derivation-requires-2-clause-low c =
    let k = (goal.at.push_derivation-requires-2-clause-low c).After-index-w-s in
    subst (λ xs. IsIn (is_below (length c.args.w.now)) (sum_listed xs)) (sym c.as_slice-2.ensures.value)
    (part_in c.args.space c.args.v.now c.args.w.now c.from-s.result c.index-v-s.result c.requires.v c.requires.w (inside_w k) c.index-v-s.is)

pub returns-in_err-push_derivation-2-clause-past : goal.returns-in_err-push_derivation-2-clause-past
returns-in_err-push_derivation-2-clause-past c =
    let p = err_from_is_err_and c.from_residual-in_err-push_derivation-2.result c.from_residual-in_err-push_derivation-2.ensures.1 in
    rw (p.1, p.2) (cause_covered _ _ _ (second_half_covered c.args.space c.args.v.now c.args.w.now c.requires.v c.requires.w c.args.s c.requires.inside c.index-w-s.result c.index-v-s.result (same_place _ _ _ _ c.from-s.ensures c.index-w-s.is) (same_place _ _ _ _ c.from-s.ensures c.index-v-s.is) c.as_slice.result.now c.as_slice-2.result.now c.as_slice.ensures.value c.as_slice-2.ensures.value) c.in_err-push_derivation-2.ensures.past)

pub returns-clause-value : goal.returns-clause-value
returns-clause-value c =
    let k = (goal.at.returns-clause-value c).After-as_slice-3 in
    if_ok c.of_terms.result (λ made h. h ∙ ap sum_listed c.as_slice-3.ensures.value
    ∙ component_sum c.args.space c.args.v.now c.args.w.now c.requires.v c.requires.w c.args.s c.requires.inside c.index-w-s.result c.index-v-s.result (same_place _ _ _ _ c.from-s.ensures c.index-w-s.is) (same_place _ _ _ _ c.from-s.ensures c.index-v-s.is) c.as_slice.result.now c.as_slice-2.result.now c.as_slice.ensures.value c.as_slice-2.ensures.value
    c.new-made.result.items c.push_derivation.new.made.items c.push_derivation-2.new.made.items c.new-made.ensures.items _ _ c.one.ensures (c.neg.ensures ∙ ap neg_ℤ c.one-2.ensures) c.in_ok-push_derivation.ensures.sum c.in_ok-push_derivation-2.ensures.sum) c.of_terms.ensures.sum

pub returns-clause-fits : goal.returns-clause-fits
returns-clause-fits c = on_ok c.of_terms.result (subst IsWithinLimits (bulk_made (goal.at.returns-clause-fits c).After-as_slice-3)) c.of_terms.ensures.fits

pub returns-clause-past : goal.returns-clause-past
returns-clause-past c = if_err c.of_terms.result (λ fail. subst (IsCause fail) (bulk_made (goal.at.returns-clause-past c).After-as_slice-3)) c.of_terms.ensures.past
