use Rattle.std.proofs.lemmas.Result.{on_ok_weaker}
use Rattle.lie_lin.proofs.AddedEquations.{adds_part, adds_empty, lead_apart}
use Rattle.lie_replace.proofs.cleaning.put_normalised.Goals as goal

pub returns-in-None-clause-added : goal.returns-in-None-clause-added
returns-in-None-clause-added c = adds_empty c.args.form.now c.args.equations.now.items c.requires.ordered c.in-None.ensures

pub returns-in_ok-eq-in-Some-clause-added : goal.returns-in_ok-eq-in-Some-clause-added
returns-in_ok-eq-in-Some-clause-added c =
    on_ok_weaker c.put_followed.result
    (λ h. adds_part c.args.form.now c.in_ok-eq-in-Some.eq c.args.equations.now.items c.put_followed.new.equations.items (lead_apart c.args.form.now _ c.in-Some.ensures) c.in_ok-eq-in-Some.ensures h)
    c.put_followed.ensures.added
