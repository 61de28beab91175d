use Rattle.std.proofs.Common.{map}
use Rattle.lie_lin.specs.Systems.{unknown_of}
use Rattle.lie_normal.proofs.NormalFormSteps.{IsReducedFrom, turns_left}
use Rattle.lie_normal.proofs.normal_forms.normal_form.Given as goal

abbrev pub invariant-loop-der : goal.invariant-loop-der
invariant-loop-der l = IsReducedFrom (map unknown_of l.unknowns) l.list l.eq l.form

abbrev pub decreases-loop-der : goal.decreases-loop-der
decreases-loop-der l = turns_left (map unknown_of l.unknowns) l.list l.eq l.form
