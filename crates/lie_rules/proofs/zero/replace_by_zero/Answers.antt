use Rattle.std.proofs.Common.{[], refl}
use Rattle.std.proofs.lemmas.Result.{on_ok_weaker, IfErr-weaker}
use Rattle.lie_math.specs.LinearForm.{no_form}
use Rattle.lie_steps.specs.Rules.{Zero}
use Rattle.lie_change.specs.Tried.{at}
use Rattle.lie_rules.proofs.Eliminations.{elimination_stays, elimination_leaves, elimination_within, elimination_cause}
use Rattle.lie_rules.proofs.Steps.{nothing_within}
use Rattle.lie_rules.proofs.ZeroSteps.{zero_step, zero_occurs, zero_stays, nothing_is, none_mentions}
use Rattle.lie_rules.proofs.zero.replace_by_zero.Goals as goal

pub eliminate-requires-clause-own : goal.eliminate-requires-clause-own
eliminate-requires-clause-own c = zero_occurs c.args.system.now.system c.args.place c.args.number c.requires.is

pub eliminate-requires-clause-free : goal.eliminate-requires-clause-free
eliminate-requires-clause-free c =
    none_mentions c.args.number c.of_terms-nothing.result
    (nothing_is c.of_terms-nothing.result c.new.result.items c.of_terms-nothing.ensures c.new.ensures.items)

pub eliminate-requires-clause-valid : goal.eliminate-requires-clause-valid
eliminate-requires-clause-valid c =
    let w = nothing_is c.of_terms-nothing.result c.new.result.items c.of_terms-nothing.ensures c.new.ensures.items in
    elimination_stays c.args.system.now.system c.args.place c.args.number no_form c.of_terms-nothing.result c.one.result [] [] w
    c.one.ensures refl _ (zero_stays _ c.args.system.now.system c.args.place c.args.number c.system_is_valid.ensures.valid c.requires.is)

pub returns-clause-after : goal.returns-clause-after
returns-clause-after c =
    let w = nothing_is c.of_terms-nothing.result c.new.result.items c.of_terms-nothing.ensures c.new.ensures.items in
    on_ok_weaker c.eliminate.result (elimination_leaves c.args.system.now.system c.args.place c.args.number no_form
    c.of_terms-nothing.result c.one.result [] [] w c.one.ensures refl Zero (at c.args.place) []
    (zero_step c.args.system.now.system c.args.place c.args.number c.requires.is) c.eliminate.new.system.system) c.eliminate.ensures.tidied

pub returns-clause-fits : goal.returns-clause-fits
returns-clause-fits c =
    let w = nothing_is c.of_terms-nothing.result c.new.result.items c.of_terms-nothing.ensures c.new.ensures.items in
    on_ok_weaker c.eliminate.result (elimination_within c.args.system.now.system c.args.place c.args.number no_form
    c.of_terms-nothing.result c.one.result [] [] w c.one.ensures refl Zero (at c.args.place) []
    (zero_step c.args.system.now.system c.args.place c.args.number c.requires.is) nothing_within) c.eliminate.ensures.fits

pub returns-clause-past : goal.returns-clause-past
returns-clause-past c =
    let w = nothing_is c.of_terms-nothing.result c.new.result.items c.of_terms-nothing.ensures c.new.ensures.items in
    IfErr-weaker c.eliminate.result _ _ (elimination_cause c.args.system.now.system c.args.place c.args.number no_form
    c.of_terms-nothing.result c.one.result [] [] w c.one.ensures refl Zero (at c.args.place) []
    (zero_step c.args.system.now.system c.args.place c.args.number c.requires.is)) c.eliminate.ensures.past
