-- Well-formedness of derivatives: their order is total, and they can be stored.
use Rattle.std.specs.Prelude.{◌≡◌, ℕ, List}
use Rattle.std.proofs.Common.{sym}
use Rattle.std.specs.Cmp.{IsTotalOrder, nat_cmp_total, on_total, back_total, then_total}
use Rattle.std.specs.Cmp.Lexicographic.{nat_list_cmp_total}
use Rattle.std.specs.FinMap.{IsAntisymmetric, nat_cmp-IsAntisymmetric, slice_cmp-IsAntisymmetric}
use Rattle.std.specs.Coded.{Coded, coded×, coded_ℕ, coded_list}
use base.Stored.{coded_via}
use Rattle.lie_math.specs.MonomialOrder.{then_equal}
use Rattle.lie_math.specs.Counts.{order, Derivative, derivative_cmp}

pub derivative_cmp_total : IsTotalOrder derivative_cmp
derivative_cmp_total =
    then_total (on_total (λ (d : Derivative). order d.counts) (back_total nat_cmp_total))
    (then_total (on_total (λ (d : Derivative). d.unknown) (back_total nat_cmp_total))
    (on_total (λ (d : Derivative). d.counts) (back_total nat_list_cmp_total)))

pub derivative_same : IsAntisymmetric derivative_cmp
derivative_same x y e =
    let p = then_equal _ _ (then_equal _ _ e).1 in
    let l : y.unknown ≡ x.unknown = nat_cmp-IsAntisymmetric y.unknown x.unknown p.0 in
    let r : y.counts ≡ x.counts = slice_cmp-IsAntisymmetric nat_cmp-IsAntisymmetric y.counts x.counts p.1 in
    λ i. record { unknown = sym l i; counts = sym r i }

pub same_derivative : (x y : Derivative) → ◌≡◌ {A = ℕ × List ℕ} (x.unknown, x.counts) (y.unknown, y.counts) → x ≡ y
same_derivative x y e = λ i. record { unknown = (e i).0; counts = (e i).1 }

abbrev pub derivative_code : Coded Derivative
derivative_code = coded_via (coded× coded_ℕ (coded_list coded_ℕ)) (λ d. (d.unknown, d.counts)) same_derivative
