use Rattle.std.proofs.Common.{◌+◌, sym, ap, subst, ◌∙◌, add-one}
use Rattle.std.specs.Prelude.{pos, unsigned_abs}
use Rattle.lie_math.specs.LinearForm.{unknown_form}
use Rattle.lie_systems.specs.Bulk.{IsFormWithinLimits}
use Rattle.lie_lin.proofs.OpeningSystem.{unknown_sum}
use Rattle.lie_symbolic.proofs.SymbolicSteps.{unknown_within}
use Rattle.lie_jet.proofs.TotalParts.{if_ok}
use Rattle.lie_determining.proofs.unknowns.unknown.Goals as goal

pub sum_of-requires : goal.sum_of-requires
sum_of-requires c =
    subst IsFormWithinLimits
    (sym (unknown_sum (c.args.place + 1) c.plain.result c.one.result (pos (unsigned_abs c.one-2.result)) c.plain.ensures c.one.ensures (ap (λ z. pos (unsigned_abs z)) c.one-2.ensures) ∙ ap unknown_form (add-one c.args.place)))
    (unknown_within c.args.place)

pub returns : goal.returns
returns c = if_ok c.sum_of.result (λ form h. h ∙ unknown_sum (c.args.place + 1) c.plain.result c.one.result c.one-2.result c.plain.ensures c.one.ensures c.one-2.ensures ∙ ap unknown_form (add-one c.args.place)) c.sum_of.ensures
