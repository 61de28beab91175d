use Rattle.std.proofs.Common.{◌≡◌, take}
use Rattle.std.specs.List.{flat_map}
use Rattle.lie_systems.specs.Triples.{triples}
use Rattle.lie_lin.specs.Forms.{triples_of}
use Rattle.lie_change.proofs.dividing.triples_of_all.Given as goal

abbrev pub invariant-loop-form : goal.invariant-loop-form
invariant-loop-form l = triples_of l.list.items ≡ flat_map triples (take l.form-index l.forms)
