-- Tables that follow a list of equations through several changes.
use Rattle.std.specs.Prelude.{◌≡◌, List}
use Rattle.std.proofs.Common.{refl, subst, ◌∙◌}
use Rattle.lie_math.specs.LinearForm.{LinearForm}
use Rattle.lie_tables.specs.declared.tables.Tables.{Tables}
use Rattle.lie_tables.specs.Tables.{Follows, IsIndexOf}

pub follows_itself : (t : Tables) (Es : List LinearForm) → IsIndexOf t Es → Follows t t Es
follows_itself t Es h = (refl, h)

pub follows_on : (old t new : Tables) (Es Ds : List LinearForm) → Follows old t Es → Follows t new Ds → Follows old new Ds
follows_on old t new Es Ds f g = (g.0 ∙ f.0, g.1)

pub follows_same : (old new : Tables) (Es Ds : List LinearForm) → Es ≡ Ds → Follows old new Es → Follows old new Ds
follows_same old new Es Ds e f = subst (Follows old new) e f

pub index_same : (t : Tables) (Es Ds : List LinearForm) → Es ≡ Ds → IsIndexOf t Es → IsIndexOf t Ds
index_same t Es Ds e h = subst (IsIndexOf t) e h
