use Rattle.std.proofs.Common.{◌≡◌, ◌++◌, length, map, vec_len}
use Rattle.lie_systems.specs.Triples.{triples}
use Rattle.lie_systems.specs.Works.{AForm}
use Rattle.lie_steps.specs.Bulks.{absolute_form}
use Rattle.lie_steps.specs.Split.{all_powers, powers_below}
use Rattle.lie_normal.proofs.WorkSteps.{IsLeft}
use Rattle.lie_rules.specs.Powers.{by_exponents, groups_of}
use Rattle.lie_rules.proofs.powers.coefficients_of_powers.Given as goal

abbrev pub invariant-loop-group : goal.invariant-loop-group
invariant-loop-group l = record {
  groups : groups_of l.groups.items ≡ by_exponents l.var 0 (length l.groups.items) (triples l.eq);
  parts : l.parts.items ++ powers_below l.var l.eq (length l.groups.items) ≡ all_powers l.var l.eq;
  left : IsLeft (map (λ P. AForm P) (all_powers l.var (absolute_form l.eq)))
      (map (λ P. AForm P) (powers_below l.var (absolute_form l.eq) (length l.groups.items)));
}

abbrev pub decreases-loop-group : goal.decreases-loop-group
decreases-loop-group l = vec_len l.groups
