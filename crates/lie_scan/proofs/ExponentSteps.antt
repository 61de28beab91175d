-- Powers, and the exponents of products.
use Rattle.std.specs.Prelude.{ℕ, ◌+◌, ◌≡◌, ◌≤◌, Bool, true, false, cond, refl}
use Rattle.std.specs.Ordering.{eq_by_cmp, nat_cmp}
use Rattle.std.proofs.Common.{sym, ap, ◌∙◌, subst, arith}
use Rattle.lie_math.specs.Monomial.{Monomial, powers, exponent, unit, power_of, ◌·◌}
use Rattle.lie_math.specs.FiniteSumLaws.{value-none}
use Rattle.lie_math.proofs.FiniteSum.{key}
use Rattle.lie_math.proofs.Monomial.{exponent-·, exponent-power_of}
use Rattle.lie_ring.specs.declared.failures.PastKind.{PastKind}
use Rattle.lie_ring.specs.declared.failures.PastKind.TheVariants.{Coefficient, Exponent, Terms, Order, Unknowns, Width}
use Rattle.lie_ring.specs.declared.failures.PolyFail.TheVariants.{Past}
use Rattle.lie_ring.specs.Causes.{IsProductCause}
use Rattle.lie_system.specs.Exponents.{HasSmallExponents}

pub unit_small : HasSmallExponents unit
unit_small v = let e : exponent unit v ≡ 0 = value-none powers v in omega arith

product_exponent : (m : Monomial) (v e q : ℕ) → exponent (m · power_of v e) q ≡ exponent m q + cond (eq_by_cmp nat_cmp q v) e 0
product_exponent m v e q = exponent-· m (power_of v e) q ∙ ap (λ k. exponent m q + k) (exponent-power_of v e q)

pub raised_small : (m : Monomial) (v e : ℕ) → HasSmallExponents m → exponent (m · power_of v e) v ≤ 32 → HasSmallExponents (m · power_of v e)
raised_small m v e small low q = by_case (eq_by_cmp nat_cmp q v) refl
  where
    by_case : (t : Bool) → eq_by_cmp nat_cmp q v ≡ t → exponent (m · power_of v e) q ≤ 32
    by_case true h = subst (λ w. exponent (m · power_of v e) w ≤ 32) (sym (key powers q v h)) low
    by_case false h =
        let k : exponent (m · power_of v e) q ≡ exponent m q + cond false e 0 = product_exponent m v e q ∙ ap (λ t. exponent m q + cond t e 0) h in
        let s = small q in omega arith

product_low : (m : Monomial) (v e q : ℕ) → HasSmallExponents m → e ≤ 32 → exponent (m · power_of v e) q ≤ 64
product_low m v e q small low = by_case (eq_by_cmp nat_cmp q v) (product_exponent m v e q)
  where
    by_case : (t : Bool) → exponent (m · power_of v e) q ≡ exponent m q + cond t e 0 → exponent (m · power_of v e) q ≤ 64
    by_case true k = let s = small q in omega arith
    by_case false k = let s = small q in omega arith

pub product_not_past : (m : Monomial) (v e : ℕ) (kind : PastKind) → HasSmallExponents m → e ≤ 32 → IsProductCause (Past kind) (m · power_of v e) → ⊥
product_not_past m v e Exponent small low h = let a = product_low m v e h.0 small low in let b = h.1 in omega arith
product_not_past m v e Coefficient small low h = h
product_not_past m v e Terms small low h = h
product_not_past m v e Order small low h = h
product_not_past m v e Unknowns small low h = h
product_not_past m v e Width small low h = h
