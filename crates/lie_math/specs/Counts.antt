-- Derivatives: how often a function is derived by each variable, the derivatives of unknown functions, and the order in which they are
-- printed.
use Rattle.std.specs.Prelude.{ℕ, zero, suc, ◌+◌, cond, eqb, List, [], ◌∷◌}
use Rattle.std.proofs.Common.{Ordering}
use Rattle.std.specs.Fn.{iterate}
use Rattle.std.specs.Ordering.{nat_cmp, then_cmp, on, flip_args}
use Rattle.std.specs.Cmp.Lexicographic.{slice_cmp}
use Rattle.lie_math.specs.PartialDerivative.{partial}
use Rattle.lie_math.specs.Polynomial.{WholePolynomial}

-- ---- counts: how often a function is derived by each variable. Counts past the end of a list are 0
abbrev pub order : List ℕ → ℕ
order [] = 0
order (c ∷ J) = c + order J

-- one more derivative by the i-th variable
abbrev pub raise : ℕ → List ℕ → List ℕ
raise zero [] = 1 ∷ []
raise (suc i) [] = 0 ∷ raise i []
raise zero (c ∷ J) = suc c ∷ J
raise (suc i) (c ∷ J) = c ∷ raise i J

-- without the zeros at the end
abbrev pub before_counts : ℕ → List ℕ → List ℕ
before_counts c [] = cond (eqb c 0) [] (c ∷ [])
before_counts c (d ∷ J) = c ∷ d ∷ J

abbrev pub trimmed : List ℕ → List ℕ
trimmed [] = []
trimmed (c ∷ J) = before_counts c (trimmed J)

abbrev pub partials_from : ℕ → List ℕ → WholePolynomial → WholePolynomial
partials_from i [] p = p
partials_from i (c ∷ J) p = iterate (partial i) c (partials_from (suc i) J p)

-- the derivative of a polynomial, as often by each variable as the counts say
abbrev pub partials : List ℕ → WholePolynomial → WholePolynomial
partials J p = partials_from 0 J p

-- ---- a derivative of the unknown with a number
pub record Derivative : Type 0 where
  pub unknown : ℕ
  pub counts : List ℕ

-- printed order: the greater order first, then the greater unknown, then the lexicographically greater counts
abbrev pub derivative_cmp : Derivative → Derivative → Ordering
derivative_cmp = then_cmp (on (λ d. order d.counts) (flip_args nat_cmp))
    (then_cmp (on (λ d. d.unknown) (flip_args nat_cmp)) (on (λ d. d.counts) (flip_args (slice_cmp nat_cmp))))

-- one more derivative of it by the i-th variable
abbrev pub raised : ℕ → Derivative → Derivative
raised i d = record { unknown = d.unknown; counts = raise i d.counts }

-- the derivative of the function that F puts in for the unknown
abbrev pub derived : (ℕ → WholePolynomial) → Derivative → WholePolynomial
derived F d = partials d.counts (F d.unknown)
