use Rattle.std.proofs.Common.{◌<◌, ◌∙◌, ◌∷◌, [], ap, arith, filter, get_or, map, subst}
use Rattle.std.specs.List.{range_with_len}
use Rattle.lie_normal.proofs.Falling.{get_same}
use Rattle.std.proofs.lemmas.List.{map-append}
use Rattle.lie_lin.specs.Systems.{has_bit, unknown_of}
use Rattle.lie_normal.proofs.WorkSteps.{all_within}
use Rattle.lie_steps.specs.Absent.{fresh_unknowns}
use Rattle.lie_steps.specs.Replacement.{fresh_made}
use Rattle.lie_rules.proofs.FreshSteps.{unknowns_fit, unknowns_on, unknowns_past}
use Rattle.lie_rules.proofs.fresh.fresh_unknowns.Goals as goal

pub returns-then-number-gt-MAX_UNKNOWN-clause-past :
    goal.returns-then-number-gt-MAX_UNKNOWN-clause-past
returns-then-number-gt-MAX_UNKNOWN-clause-past c =
    unknowns_past c.args.next (unknown_of c.args.unknown.now) c.args.powers.now c.loop-power.power-index c.loop-power-test.true
    (subst (λ n. 65535 < n) c.loop-power.invariant.number c.if-number-gt-MAX_UNKNOWN.true)

pub loop-power-preserved : goal.loop-power-preserved
loop-power-preserved c = record {
  unknowns =
      ap (map unknown_of) c.in_ok-push.ensures.items
      ∙ map-append unknown_of c.loop-power.fresh.items (record { number = c.loop-power.number; vars = c.without_bit-vars.result } ∷ [])
      ∙ unknowns_on c.args.next (unknown_of c.args.unknown.now) c.args.powers.now c.loop-power.power-index
      (get_or c.args.powers.now c.loop-power.power-index (0, 0)) (map unknown_of c.loop-power.fresh.items) c.loop-power.number
      (filter (has_bit c.without_bit-vars.result) (range_with_len 0 8)) c.loop-power-test.true
      (get_same c.args.powers.now c.loop-power.power-index (0, 0) c.loop-power-test.true) c.loop-power.invariant.unknowns
      c.loop-power.invariant.number c.without_bit-vars.ensures;
  number = let n = c.loop-power.invariant.number in omega arith;
  within = λ _. let n = c.loop-power.invariant.number in let h = c.if-number-gt-MAX_UNKNOWN.false in omega arith;
}

pub returns-clause-fits : goal.returns-clause-fits
returns-clause-fits c =
    all_within (fresh_made (fresh_unknowns c.args.next (unknown_of c.args.unknown.now) c.args.powers.now))
    (unknowns_fit c.args.next (unknown_of c.args.unknown.now) c.args.powers.now c.loop-power.power-index c.loop-power-test.false
    c.loop-power.invariant.within c.loop-power.auto.power-index-end)
