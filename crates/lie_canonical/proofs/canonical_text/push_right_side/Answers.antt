use Rattle.std.specs.List.{AllByRecursion as Every}
use Rattle.std.proofs.Common.{ap, sym, subst, ◌∙◌}
use Rattle.lie_math.specs.Monomial.{Monomial, single}
use Rattle.lie_geometry.specs.Coordinates.{number}
use Rattle.lie_jet.specs.Jets.{coordinate_of}
use Rattle.lie_canonical.specs.RightSides.{Leaves}
use Rattle.lie_canonical.proofs.RightSideLists.{leaves}
use Rattle.lie_canonical.proofs.canonical_text.push_right_side.Goals as goal

pub right_side-requires : goal.right_side-requires
right_side-requires c =
    subst (λ (m : Monomial). Every (Leaves m) c.args.diff.now.list) (sym (c.variable-variable.ensures ∙ ap single c.jet_number.ensures.number))
    (leaves (single (number c.args.printer.now.space (coordinate_of c.args.printer.now.space c.args.lead.now))) c.args.diff.now c.requires.right.fits)
