-- A common factor keeps the print order.
use Rattle.std.specs.Prelude.{◌≡◌, ◌+◌, ◌<◌}
use Rattle.std.proofs.Common.{refl, sym, ap, ◌∙◌, arith, inl, inr, Ordering, Less, Equal, Greater}
use Rattle.std.specs.Ordering.{ordering_reverse}
use Rattle.std.specs.Cmp.{tied_itself}
use Rattle.lie_math.specs.FiniteSumLaws.{sum-plus}
use Rattle.lie_math.specs.Monomial.{Monomial, exponent, degree, powers, monomial_cmp, ◌·◌}
use Rattle.lie_math.specs.Natural.{naturals}
use Rattle.lie_math.specs.MonomialOrder.{monomial_cmp_total, monomial_cmp-IsAntisymmetric}
use Rattle.lie_math.proofs.Monomial.{exponent-·}
use Rattle.lie_math.proofs.PrintedFirst.{IsBefore, by_exponents}

degree-· : (m n : Monomial) → degree (m · n) ≡ degree m + degree n
degree-· m n = sum-plus powers naturals (λ v e. e) (record { on_nil = λ v. refl; on_plus = λ v a b. refl }) m n

before-· : (k m n : Monomial) → IsBefore m n → IsBefore (k · m) (k · n)
before-· k m n (inl h) = inl (omega (arith, degree-· k m, degree-· k n))
before-· k m n (inr h) = inr (
  (let e : degree m ≡ degree n = h.0 in omega (arith, degree-· k m, degree-· k n)),
  record {
    variable = h.1.variable;
    greater = let e : exponent n h.1.variable < exponent m h.1.variable = h.1.greater in omega (arith, exponent-· k m h.1.variable, exponent-· k n h.1.variable);
    before = λ w g. let e : exponent m w ≡ exponent n w = h.1.before w g in omega (arith, exponent-· k m w, exponent-· k n w);
  },
)

less-· : (k m n : Monomial) → monomial_cmp m n ≡ Less → monomial_cmp (k · m) (k · n) ≡ Less
less-· k m n e = (by_exponents (k · m) (k · n)).1 (before-· k m n ((by_exponents m n).0 e))

pub monomial_cmp-· : (k m n : Monomial) → monomial_cmp (k · m) (k · n) ≡ monomial_cmp m n
monomial_cmp-· k m n = go (monomial_cmp m n) refl
  where
    go : (r : Ordering) → monomial_cmp m n ≡ r → monomial_cmp (k · m) (k · n) ≡ r
    go Less e = less-· k m n e
    go Equal e = ap (λ x. monomial_cmp (k · m) (k · x)) (sym (monomial_cmp-IsAntisymmetric m n e)) ∙ tied_itself monomial_cmp_total (k · m)
    go Greater e =
        monomial_cmp_total.antisymm (k · m) (k · n)
        ∙ ap ordering_reverse (less-· k n m (monomial_cmp_total.antisymm n m ∙ ap ordering_reverse e))
