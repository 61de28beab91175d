use Rattle.std.proofs.Common.{◌≡◌, ◌∙◌, ◌++◌, ap, ap₂, length, map, suc, sym}
use Rattle.std.proofs.lemmas.Result.{err_from_is_err_and}
use Rattle.lie_systems.specs.Triples.{triples}
use Rattle.lie_systems.specs.Works.{AForm}
use Rattle.lie_steps.specs.Bulks.{absolute_form}
use Rattle.lie_steps.specs.Split.{all_powers, form_degree, powers_below}
use Rattle.lie_rules.specs.Powers.{by_exponents}
use Rattle.lie_rules.proofs.PowerGroups.{all_left, cause_on, left_on, length-by, length-groups, parts_on, rest_groups}
use Rattle.lie_rules.proofs.powers.coefficients_of_powers.Goals as goal

pub loop-group-init : goal.loop-group-init
loop-group-init c =
    let count : length c.in_ok-groups.groups.items ≡ suc (form_degree c.args.var c.args.eq.now) = sym
    (length-groups c.in_ok-groups.groups.items) ∙ ap length c.in_ok-groups.ensures
    ∙ length-by c.args.var 0 (suc (form_degree c.args.var c.args.eq.now)) (triples c.args.eq.now) in
    record {
      groups = c.in_ok-groups.ensures ∙ ap (λ n. by_exponents c.args.var 0 n (triples c.args.eq.now)) (sym count);
      parts = ap₂ (λ xs n. xs ++ powers_below c.args.var c.args.eq.now n) c.new-parts.ensures.items count;
      left = all_left c.args.var c.args.eq.now (length c.in_ok-groups.groups.items) count;
    }

pub returns-in_err-part-clause-past : goal.returns-in_err-part-clause-past
returns-in_err-part-clause-past c =
    let p = err_from_is_err_and c.from_residual-in_err-part.result c.from_residual-in_err-part.ensures.1 in
    rw (p.1, p.2) (cause_on c.args.var c.args.eq.now c.loop-group.groups.items c.pop.new.self.items c.in-Some.group c.in-Some.ensures.items
    c.loop-group.invariant.groups
    (map (λ P. AForm P) (all_powers c.args.var (absolute_form c.args.eq.now))) _ c.as_slice.result.now c.as_slice.ensures.value
    c.in_err-part.ensures.past c.loop-group.invariant.left)

pub loop-group-preserved : goal.loop-group-preserved
loop-group-preserved c = record {
  groups =
      rest_groups c.args.var c.args.eq.now c.loop-group.groups.items c.pop.new.self.items c.in-Some.group c.in-Some.ensures.items
      c.loop-group.invariant.groups;
  parts =
      parts_on c.args.var c.args.eq.now c.loop-group.groups.items c.pop.new.self.items c.in-Some.group c.in-Some.ensures.items
      c.loop-group.invariant.groups
      c.loop-group.parts.items c.push.new.self.items
      (all_powers c.args.var c.args.eq.now) c.in_ok-part.part c.as_slice.result.now c.as_slice.ensures.value c.in_ok-part.ensures.sum
      c.in_ok-push.ensures.items c.loop-group.invariant.parts;
  left =
      left_on c.args.var c.args.eq.now c.loop-group.groups.items c.pop.new.self.items c.in-Some.group c.in-Some.ensures.items
      c.loop-group.invariant.groups
      (map (λ P. AForm P) (all_powers c.args.var (absolute_form c.args.eq.now))) c.as_slice.result.now c.as_slice.ensures.value
      c.in_ok-part.ensures.fits c.loop-group.invariant.left;
}
