-- The order of triples and of equations is total, and only equal ones tie.
use Rattle.std.specs.Prelude.{◌≡◌, length}
use Rattle.std.specs.Cmp.{IsTotalOrder, nat_cmp_total, on_total, back_total, then_total}
use Rattle.std.proofs.lemmas.Cmp.{int_cmp_total, lists_total}
use Rattle.std.specs.FinMap.{IsAntisymmetric, int_cmp-IsAntisymmetric, slice_cmp-IsAntisymmetric}
use Rattle.std.proofs.Common.{sym}
use Rattle.lie_math.specs.MonomialOrder.{monomial_cmp_total, monomial_cmp-IsAntisymmetric, then_equal}
use Rattle.lie_math.specs.DerivativeOrder.{derivative_cmp_total, derivative_same}
use Rattle.lie_math.specs.LinearForm.{LinearForm}
use Rattle.lie_systems.specs.Triples.{Triple, triples}
use Rattle.lie_systems.specs.EquationOrder.{triple_cmp, equation_cmp}
use Rattle.lie_systems.proofs.Triples.{triples_tell}

pub triple_cmp_total : IsTotalOrder triple_cmp
triple_cmp_total =
    then_total (on_total (λ (t : Triple). t.0) (back_total derivative_cmp_total))
    (then_total (on_total (λ (t : Triple). t.1) (back_total monomial_cmp_total)) (on_total (λ (t : Triple). t.2) int_cmp_total))

pub triple_cmp-IsAntisymmetric : IsAntisymmetric triple_cmp
triple_cmp-IsAntisymmetric t u e =
    let p = then_equal _ _ e in
    let q = then_equal _ _ p.1 in
    let derivatives : u.0 ≡ t.0 = derivative_same u.0 t.0 p.0 in
    let monomials : u.1 ≡ t.1 = monomial_cmp-IsAntisymmetric u.1 t.1 q.0 in
    let numbers : t.2 ≡ u.2 = int_cmp-IsAntisymmetric t.2 u.2 q.1 in
    λ i. (sym derivatives i, sym monomials i, numbers i)

pub equation_cmp_total : IsTotalOrder equation_cmp
equation_cmp_total = then_total (on_total (λ (E : LinearForm). length (triples E)) nat_cmp_total) (on_total triples (lists_total triple_cmp_total))

pub equation_cmp-IsAntisymmetric : IsAntisymmetric equation_cmp
equation_cmp-IsAntisymmetric E G e = triples_tell E G (slice_cmp-IsAntisymmetric triple_cmp-IsAntisymmetric (triples E) (triples G) (then_equal _ _ e).1)
