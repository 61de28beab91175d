-- The monomials in some variables up to a degree.
use Rattle.std.specs.Prelude.{ℕ, zero, suc, ◌-◌, List, [], ◌∷◌, ◌++◌, map}
use Rattle.std.specs.List.{range_with_len}
use Rattle.lie_math.specs.Monomial.{Monomial, degree, unit, power_of, ◌·◌}
use Rattle.lie_spans.specs.Fields.{Column}

-- the greatest degree of the components of a basis
abbrev pub greatest_degree : ℕ
greatest_degree = 8

-- the products of a monomial with the powers of the variable v, up to degree d
abbrev pub with_powers : ℕ → ℕ → Monomial → List Monomial
with_powers v d m = map (λ e. power_of v e · m) (range_with_len 0 (suc (d - degree m)))

abbrev pub with_variable : ℕ → ℕ → List Monomial → List Monomial
with_variable v d [] = []
with_variable v d (m ∷ ms) = with_powers v d m ++ with_variable v d ms

-- the monomials in n variables of degree at most d
abbrev pub monomials_to : ℕ → ℕ → List Monomial
monomials_to zero d = unit ∷ []
monomials_to (suc n) d = with_variable n d (monomials_to n d)

-- these in the component s
abbrev pub columns_in : ℕ → List Monomial → List Column
columns_in s ms = map (λ m. (s, m)) ms

-- these in n components from s on
abbrev pub columns_from : ℕ → ℕ → List Monomial → List Column
columns_from s zero ms = []
columns_from s (suc n) ms = columns_in s ms ++ columns_from (suc s) n ms
