-- The terms of an equation of a short text have a sum within the limits.
use Rattle.std.specs.Prelude.{ℕ, ◌≡◌, ◌≤◌, Bool, true, false, List, [], ◌∷◌, length, ℤ, Ok}
use Rattle.std.proofs.Common.{sym, subst, arith}
use Rattle.lie_math.specs.Limits.{IsWithinLimits, absolutes}
use Rattle.lie_math.specs.Monomial.{Monomial}
use Rattle.lie_math.specs.Polynomial.{polynomial_of}
use Rattle.lie_geometry.specs.Coordinates.{Space}
use Rattle.lie_system.specs.Exponents.{HasSmallExponents}
use Rattle.lie_scan.specs.SumGrammar.{AreTerms, IsSum}
use Rattle.lie_scan.specs.Terms.{equation_of}
use Rattle.lie_file.proofs.EquationLaws.{equation_of-is}
use Rattle.lie_file.proofs.TermCounts.{equation_count}
use Rattle.lie_scan.proofs.TermLimits.{HaveSmallExponents, terms_within}
use Rattle.lie_math.proofs.EveryElement.{every-append}

module _ (S : Space) (names : List ℕ) where
  further_small : (turned : Bool) (text : List ℕ) (ts : List (Monomial × ℤ)) (rest : List ℕ) → AreTerms S names turned text ts rest → HaveSmallExponents ts
  further_small turned text [] rest h = tt
  further_small turned text (t ∷ ts) rest h = (h.4.1.small, further_small turned h.2 ts rest h.5)

  sum_small : (turned : Bool) (text : List ℕ) (ts : List (Monomial × ℤ)) (rest : List ℕ) → IsSum S names turned text ts rest → HaveSmallExponents ts
  sum_small turned text ts rest h = subst HaveSmallExponents (sym h.are) ((h.begins).1.small, further_small turned h.behind h.further rest h.goes_on)

  pub equation_within : (text : List ℕ) (ts : List (Monomial × ℤ)) → length text ≤ 65536 → equation_of S names text ≡ Ok ts → IsWithinLimits (polynomial_of (absolutes ts))
  equation_within text ts short is =
      let read = equation_of-is S names text ts is in
      let count = equation_count S names text ts is in
      terms_within ts read.small
      (subst HaveSmallExponents (sym read.put) (every-append (λ (t : Monomial × ℤ). HasSmallExponents t.0) read.left read.right (sum_small false text read.left read.behind_left read.left_is) (sum_small true read.front read.right read.behind read.right_is)))
      (omega arith)
