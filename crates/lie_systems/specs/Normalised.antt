-- Normalised equations: no number above 1 and no variable divides the whole equation, and its first number is positive.
use Rattle.std.specs.Prelude.{◌≡◌, ℕ, suc, ◌-◌, ◌<◌, ◌⊎◌, min, List, [], ◌∷◌, map, length, ℤ, pos, negsuc, ◌*ℤ◌, unsigned_abs, int_div}
use Rattle.lie_math.specs.Monomial.{Monomial, monomial_of, exponent, unit}
use Rattle.lie_math.specs.Polynomial.{WholePolynomial, constant}
use Rattle.lie_math.specs.CommonDivisors.{common_divisor}
use Rattle.lie_math.specs.Counts.{Derivative}
use Rattle.lie_math.specs.LinearForm.{LinearForm, no_form, form_term}
use Rattle.lie_systems.specs.Triples.{Triple, triples, sum_of_triples}

-- ---- the content: the greatest common divisor of the numbers
abbrev pub content : List Triple → ℕ
content [] = 0
content (t ∷ ts) = common_divisor (unsigned_abs t.2) (content ts)

-- ---- the greatest monomial that divides all monomials
-- each exponent changed by a function of the variable and the exponent
unfoldable pub each_exponent : (ℕ → ℕ → ℕ) → Monomial → Monomial
each_exponent f m = monomial_of (map (λ p. (p.0, f p.0 p.1)) m.list)

-- the greatest monomial that divides both
abbrev pub common_factor : Monomial → Monomial → Monomial
common_factor m n = each_exponent (λ v e. min e (exponent n v)) m

abbrev pub common_monomial : List Triple → Monomial
common_monomial [] = unit
common_monomial (t ∷ []) = t.1
common_monomial (t ∷ u ∷ ts) = common_factor t.1 (common_monomial (u ∷ ts))

-- ---- normalised equations
-- the first number is positive
abbrev pub IsFirstPositive : List Triple → Type 0
IsFirstPositive [] = ⊥
IsFirstPositive (t ∷ ts) = (n : ℕ) × (t.2 ≡ pos (suc n))

-- neither a number above 1 nor a variable divides it, and its first number is positive
pub record IsPrimitive (E : LinearForm) : Type 0 where
  pub number : content (triples E) ≡ 1
  pub monomial : common_monomial (triples E) ≡ unit
  pub positive : IsFirstPositive (triples E)

abbrev pub derivative_alone : Derivative → LinearForm
derivative_alone d = form_term d (constant (pos 1))

-- a derivative alone, or a primitive form in two derivatives or more
abbrev pub IsNormalised : LinearForm → Type 0
IsNormalised E = ((d : Derivative) × (E ≡ derivative_alone d)) ⊎ ((1 < length E.list) × IsPrimitive E)

-- ---- normalising
-- m without its factor n
abbrev pub without_factor : Monomial → Monomial → Monomial
without_factor n m = each_exponent (λ v e. e - exponent n v) m

-- 1, or -1 where the number is negative
abbrev pub sign : ℤ → ℤ
sign (pos n) = pos 1
sign (negsuc n) = negsuc 0

abbrev pub first_sign : List Triple → ℤ
first_sign [] = pos 1
first_sign (t ∷ ts) = sign t.2

-- the triple without a sign, a number and a monomial that divide it
abbrev pub divided : ℤ → ℕ → Monomial → Triple → Triple
divided s g m t = (t.0, without_factor m t.1, s *ℤ int_div t.2 (pos g))

-- without what divides all of them
abbrev pub primitive_triples : List Triple → List Triple
primitive_triples ts = map (divided (first_sign ts) (content ts) (common_monomial ts)) ts

abbrev pub primitive_of : List (Derivative × WholePolynomial) → List Triple → LinearForm
primitive_of [] ts = no_form
primitive_of (e ∷ []) ts = derivative_alone e.0
primitive_of (e ∷ f ∷ es) ts = sum_of_triples (primitive_triples ts)

-- the normalised equation: nothing for nothing, the derivative where there is only one, and else the form divided by all that divides it
unfoldable pub primitive : LinearForm → LinearForm
primitive E = primitive_of E.list (triples E)
