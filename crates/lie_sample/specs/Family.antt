-- The files of a growing family of systems, one for each number k: the equation gives y_xx as a sum of k + 1 terms.
use Rattle.std.specs.Prelude.{ℕ, zero, suc, ◌+◌, ◌-◌, ◌==◌, List, [], ◌++◌, codes, decimal, if◌then◌else◌}

-- the members that are taken have these numbers
abbrev pub least_member : ℕ
least_member = 2

abbrev pub greatest_member : ℕ
greatest_member = 32

-- a variable to a power, as a further factor; none to the power 0
abbrev pub power : List ℕ → ℕ → List ℕ
power name e = if e == 0 then [] else codes "*" ++ name ++ codes "^" ++ decimal e

-- (j+1)*x^j*y^i
abbrev pub family_term : ℕ → ℕ → List ℕ
family_term j i = decimal (j + 1) ++ power (codes "x") j ++ power (codes "y") i

-- the sum of (i+1)*x^i*y^(k-i) for i from 0 to j
unfoldable pub family_sum : ℕ → ℕ → List ℕ
family_sum k zero = family_term 0 k
family_sum k (suc j) = family_sum k j ++ codes " + " ++ family_term (suc j) (k - suc j)

-- the file of the equation that y_xx is the sum of (j+1)*x^j*y^(k-j) for j from 0 to k
unfoldable pub family_file : ℕ → List ℕ
family_file k = codes "lie 1\nvars x\ndeps y\neq y_xx = " ++ family_sum k k ++ codes "\nend\n"
