use Rattle.std.proofs.Common.{sym, ap, ◌∙◌}
use Rattle.lie_systems.specs.Normalised.{primitive}
use Rattle.lie_systems.specs.Triples.{sum_of_triples}
use Rattle.lie_lin.specs.Forms.{triples_of}
use Rattle.lie_lin.proofs.AddedEquations.{lead_apart, adds_part, adds_empty}
use Rattle.lie_determining.proofs.equations.put_part.Goals as goal

pub returns-in-None : goal.returns-in-None
returns-in-None c = adds_empty (sum_of_triples (triples_of c.args.triples.now)) c.args.equations.now.items c.requires.sorted (sym c.in_ok-part.ensures ∙ c.in-None.ensures)

pub returns : goal.returns
returns c =
    adds_part (sum_of_triples (triples_of c.args.triples.now)) c.in_ok-eq-in-Some.eq c.args.equations.now.items
    c.insert_equation.new.equations.items (λ z. lead_apart c.in_ok-part.part _ c.in-Some.ensures (c.in_ok-part.ensures ∙ z))
    (c.in_ok-eq-in-Some.ensures ∙ ap primitive c.in_ok-part.ensures) c.in_ok-insert_equation-in-Some.ensures.added
