use Rattle.std.proofs.Common.{arith, ◌≡◌, sym, ◌∙◌, ap, subst, [], ◌++◌, ◌∷◌}
use Rattle.lie_lin.specs.Forms.{derivatives_of, triples_of, AreDerivatives}
use Rattle.lie_jet.specs.Derivatives.{derivative_of}
use Rattle.lie_lin.proofs.Placing.{derivatives_more, no_derivatives, triples_of_more}
use Rattle.lie_lin.proofs.derivatives.derivatives.Goals as goal

pub loop-triple-init : goal.loop-triple-init
loop-triple-init c = subst (λ ders. AreDerivatives (derivatives_of ders) []) (sym c.new-ders.ensures.items) no_derivatives

pub loop-triple-preserved : goal.loop-triple-preserved
loop-triple-preserved c =
    subst (λ ds. AreDerivatives ds (triples_of (Rattle.std.proofs.Common.take (Rattle.std.proofs.Common.◌+◌ c.loop-triple.triple-index 1) c.args.list.now))) (sym c.in_ok-put.ensures)
    (subst (AreDerivatives (Rattle.lie_lin.specs.Forms.placed (derivative_of c.triple-item.result.0) (derivatives_of c.loop-triple.ders.items))) (sym (triples_of_more c.args.list.now c.loop-triple.triple-index c.triple-item.result (omega arith) c.triple-item.is))
    (derivatives_more (derivatives_of c.loop-triple.ders.items) (triples_of (Rattle.std.proofs.Common.take c.loop-triple.triple-index c.args.list.now)) (derivative_of c.triple-item.result.0, c.triple-item.result.1, c.triple-item.result.2) c.loop-triple.invariant))
