-- Well-formedness of monomials: the print order is total and tells monomials apart, and products are those of a commutative monoid.
use Rattle.std.specs.Prelude.{◌≡◌, ℕ}
use Rattle.std.proofs.Common.{refl, sym, ap, Ordering, Less, Equal, Greater, true≢false}
use Rattle.std.specs.Ordering.{ordering_then, is_eq}
use Rattle.std.specs.Cmp.{IsTotalOrder, nat_cmp_total, on_total, back_total, then_total}
use Rattle.std.specs.Cmp.Lexicographic.{lists_total}
use Rattle.std.specs.FinMap.{IsAntisymmetric, nat_cmp-IsAntisymmetric, slice_cmp-IsAntisymmetric}
use Rattle.std.specs.Coded.{Coded, coded_ℕ}
use Rattle.lie_math.specs.FiniteSumLaws.{plus_assoc, plus_comm, plus_idl, same_list}
use Rattle.lie_math.specs.Monomial.{Monomial, degree, monomial_cmp, pair_cmp, powers, unit, ◌·◌}
use Rattle.lie_math.specs.FiniteSumLaws as finite_laws

pair_cmp_total : IsTotalOrder pair_cmp
pair_cmp_total = then_total (on_total (λ (p : ℕ × ℕ). p.0) nat_cmp_total) (on_total (λ (p : ℕ × ℕ). p.1) (back_total nat_cmp_total))

pub monomial_cmp_total : IsTotalOrder monomial_cmp
monomial_cmp_total =
    then_total (on_total degree (back_total nat_cmp_total)) (on_total (λ (m : Monomial). m.list) (lists_total pair_cmp_total))

-- two orders, the one after the other
pub then_equal : (a b : Ordering) → ordering_then a b ≡ Equal → (a ≡ Equal) × (b ≡ Equal)
then_equal Less b e = absurd (true≢false (sym (ap is_eq e)))
then_equal Equal b e = (refl, e)
then_equal Greater b e = absurd (true≢false (sym (ap is_eq e)))

pair_same : IsAntisymmetric pair_cmp
pair_same x y e =
    let p = then_equal _ _ e in
    let l : x.0 ≡ y.0 = nat_cmp-IsAntisymmetric x.0 y.0 p.0 in
    let r : y.1 ≡ x.1 = nat_cmp-IsAntisymmetric y.1 x.1 p.1 in
    λ i. (l i, sym r i)

pub monomial_cmp-IsAntisymmetric : IsAntisymmetric monomial_cmp
monomial_cmp-IsAntisymmetric m n e = same_list powers m n (slice_cmp-IsAntisymmetric pair_same m.list n.list (then_equal _ _ e).1)

abbrev pub monomial_code : Coded Monomial
monomial_code = finite_laws.code powers coded_ℕ coded_ℕ

pub ·_comm : (m n : Monomial) → m · n ≡ n · m
·_comm = plus_comm powers

pub ·_assoc : (m n k : Monomial) → (m · n) · k ≡ m · (n · k)
·_assoc = plus_assoc powers

pub ·_idl : (m : Monomial) → unit · m ≡ m
·_idl = plus_idl powers
