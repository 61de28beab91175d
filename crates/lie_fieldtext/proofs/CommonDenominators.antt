-- The least common denominator: each denominator divides it, and it divides each number that they all divide.
use Rattle.std.specs.Prelude.{ℕ, ◌*◌, ◌/◌, ◌≡◌, ◌≤◌, List, [], ◌∷◌}
use Rattle.std.specs.Int.{◌∣◌}
use Rattle.std.specs.List.{AllByRecursion as Every}
use Rattle.std.proofs.Common.{sym, ap, ◌∙◌, subst, arith}
use Rattle.std.proofs.lemmas.Nat.Gcd.{dvd_refl, dvd_trans}
use Rattle.std.proofs.Math.Nat.{mul-div_cancel', mul-dvd-mul_left, dvd_of_mul-dvd-mul_left, dvd-mul_right, dvd-mul_left, mul_assoc, mul_comm, mul_left_comm}
use Rattle.lie_math.specs.CommonDivisors.{common_divisor}
use Rattle.lie_math.proofs.CommonDivisors.{common_divisor_is, common_divisor-scaled}
use Rattle.lie_fieldtext.specs.declared.field_term.FieldTerm.{FieldTerm}
use Rattle.lie_fieldtext.specs.FieldMeaning.{common_multiple, denominator_from, common_denominator}
use Rattle.lie_fieldtext.proofs.FieldSteps.{divisor_some}

one_divides : (k : ℕ) → 1 ∣ k
one_divides k = subst (λ n. 1 ∣ n) (one_times k) (dvd-mul_right 1 k)
  where
    one_times : (n : ℕ) → 1 * n ≡ n
    one_times n = omega arith

multiple_first : (a b : ℕ) → a ∣ common_multiple a b
multiple_first a b = dvd-mul_right a (b / common_divisor a b)

multiple_second : (a b : ℕ) → b ∣ common_multiple a b
multiple_second a b =
    let g = common_divisor a b in
    let x : g * (a / g) ≡ a = mul-div_cancel' g (common_divisor_is a b).0 in
    let y : g * (b / g) ≡ b = mul-div_cancel' g (common_divisor_is a b).1 in
    let whole : (a / g) * b ≡ a * (b / g) = ap (λ k. (a / g) * k) (sym y) ∙ mul_left_comm (a / g) g (b / g) ∙ sym (mul_assoc g (a / g) (b / g)) ∙ ap (λ k. k * (b / g)) x in
    subst (λ k. b ∣ k) whole (dvd-mul_left b (a / g))

multiple_least : (a b k : ℕ) → 1 ≤ b → a ∣ k → b ∣ k → common_multiple a b ∣ k
multiple_least a b k some p q =
    let g = common_divisor a b in
    let y : g * (b / g) ≡ b = mul-div_cancel' g (common_divisor_is a b).1 in
    let first : a * b ∣ k * a = subst (λ n. a * b ∣ n) (mul_comm a k) (mul-dvd-mul_left b a q) in
    let second : a * b ∣ k * b = subst (λ n. n ∣ k * b) (mul_comm b a) (subst (λ n. b * a ∣ n) (mul_comm b k) (mul-dvd-mul_left a b p)) in
    let both : a * b ∣ k * g = subst (λ n. a * b ∣ n) (common_divisor-scaled k a b) ((common_divisor_is (k * a) (k * b)).2 (a * b) first second) in
    let turned : g * (a * (b / g)) ≡ a * b = mul_left_comm g a (b / g) ∙ ap (λ n. a * n) y in
    dvd_of_mul-dvd-mul_left {k = g} (a * (b / g)) (divisor_some g b (common_divisor_is a b).1 some) (subst (λ n. n ∣ g * k) (sym turned) (subst (λ n. a * b ∣ n) (mul_comm k g) both))

from_divides : (n : ℕ) (ts : List FieldTerm) → n ∣ denominator_from n ts
from_divides n [] = dvd_refl n
from_divides n (t ∷ ts) = dvd_trans n (multiple_first n t.over) (from_divides (common_multiple n t.over) ts)

each_divides : (n : ℕ) (ts : List FieldTerm) → Every (λ t. t.over ∣ denominator_from n ts) ts
each_divides n [] = tt
each_divides n (t ∷ ts) = (dvd_trans t.over (multiple_second n t.over) (from_divides (common_multiple n t.over) ts), each_divides (common_multiple n t.over) ts)

from_least : (n k : ℕ) (ts : List FieldTerm) → Every (λ t. 1 ≤ t.over) ts → n ∣ k → Every (λ t. t.over ∣ k) ts → denominator_from n ts ∣ k
from_least n k [] some h all = h
from_least n k (t ∷ ts) some h all = from_least (common_multiple n t.over) k ts some.1 (multiple_least n t.over k some.0 h all.0) all.1

pub common_denominator_is : (ts : List FieldTerm) → Every (λ t. 1 ≤ t.over) ts → Every (λ t. t.over ∣ common_denominator ts) ts × ((k : ℕ) → Every (λ t. t.over ∣ k) ts → common_denominator ts ∣ k)
common_denominator_is ts some = (each_divides 1 ts, λ k all. from_least 1 k ts some (one_divides k) all)
