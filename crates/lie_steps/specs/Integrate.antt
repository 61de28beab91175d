-- An equation that gives the k-th derivative of an unknown by one variable: it is integrated k times.
use Rattle.std.specs.Prelude.{◌≡◌, ℕ, zero, suc, ◌+◌, ◌*◌, ◌<◌, ◌≤◌, List, [], ◌∷◌, ◌++◌, map, replicate, ℤ, pos, neg_ℤ, ◌*ℤ◌}
use Rattle.std.specs.Prelude.{unsigned_abs, int_div}
use Rattle.std.specs.List.{Contains, AllByRecursion as Every}
use Rattle.std.specs.Int.{◌∣◌}
use Rattle.lie_math.specs.Monomial.{exponent, power_of, ◌·◌}
use Rattle.lie_math.specs.Counts.{Derivative}
use Rattle.lie_math.specs.LinearForm.{LinearForm, no_form, ◌+ᶠ◌}
use Rattle.lie_math.specs.LinearSystem.{Unknown, LinearSystem}
use Rattle.lie_systems.specs.Triples.{Triple, triples, sum_of_triples}
use Rattle.lie_systems.specs.Works.{Made}
use Rattle.lie_steps.specs.Equations.{equation, IsPlace, IsGreatest, rest_of, IsIndependent}
use Rattle.lie_steps.specs.Replacement.{eliminated_divided, fresh_made, solution_made, replacement_made}
use Rattle.lie_steps.specs.Tidying.{IsTidySystem}
use Rattle.lie_steps.specs.Absent.{powers_from, fresh_sum, fresh_unknowns}
use Rattle.lie_steps.specs.Substitute.{IsSolvedFor}

-- the product of the whole numbers from m + 1 to m + k
abbrev pub rising : ℕ → ℕ → ℕ
rising m zero = 1
rising m (suc k) = rising m k * (m + suc k)

-- the counts of the k-th derivative by v alone
abbrev pub counts_of : ℕ → ℕ → List ℕ
counts_of v k = replicate v 0 ++ k ∷ []

-- d is the k-th derivative by v alone of an unknown, E is solved for it, and its rest is not empty and has no unknown that depends on v
pub record IsIntegrableFor (unknowns : List Unknown) (E : LinearForm) (d : Derivative) (c : ℤ) (v k : ℕ) : Type 0 where
  pub several : 0 < k
  pub derived : d.counts ≡ counts_of v k
  pub solved : IsSolvedFor unknowns E d c
  pub some : ¬ (rest_of d E ≡ no_form)
  pub independent : IsIndependent unknowns v (rest_of d E)

abbrev pub IsIntegrable : List Unknown → LinearForm → Derivative → Type 0
IsIntegrable unknowns E d = (c : ℤ) × (v : ℕ) × (k : ℕ) × IsIntegrableFor unknowns E d c v k

-- the number by which the k-fold integral divides a triple
abbrev pub divisor : ℤ → ℕ → ℕ → Triple → ℤ
divisor c v k t = c *ℤ pos (rising (exponent t.1 v) k)

-- L times the integrals of the triples are whole
abbrev pub Clears : ℤ → ℕ → ℕ → List Triple → ℕ → Type 0
Clears c v k ts L = Every (λ (t : Triple). unsigned_abs (divisor c v k t) ∣ unsigned_abs (pos L *ℤ t.2)) ts

-- the least number of at least 1 that does that
pub record IsLeastDenominator (c : ℤ) (v k : ℕ) (ts : List Triple) (L : ℕ) : Type 0 where
  pub positive : 0 < L
  pub clears : Clears c v k ts L
  pub least : (M : ℕ) → 0 < M → Clears c v k ts M → L ≤ M

-- L times the k-fold integral of a triple by v, over -c
abbrev pub integrated_triple : ℤ → ℕ → ℕ → ℕ → Triple → Triple
integrated_triple c v k L t = (t.0, power_of v k · t.1, int_div (neg_ℤ (pos L *ℤ t.2)) (divisor c v k t))

abbrev pub integral : ℤ → ℕ → ℕ → ℕ → LinearForm → LinearForm
integral c v k L R = sum_of_triples (map (integrated_triple c v k L) (triples R))

-- the i-th equation can be integrated for d, the greatest such derivative; f is its unknown, and L the least common denominator of the
-- integral
pub record IsIntegratedAt (S : LinearSystem) (i : ℕ) (f : Unknown) (d : Derivative) (c : ℤ) (v k L : ℕ) : Type 0 where
  pub place : IsPlace S i
  pub listed : Contains S.unknowns f
  pub number : f.number ≡ d.unknown
  pub integrable : IsIntegrableFor S.unknowns (equation S i) d c v k
  pub greatest : IsGreatest (IsIntegrable S.unknowns (equation S i)) d
  pub denominator : IsLeastDenominator c v k (triples (rest_of d (equation S i))) L

-- the integral plus the powers of v below k times fresh unknowns
abbrev pub integral_sum : LinearSystem → ℕ → Derivative → ℤ → ℕ → ℕ → ℕ → LinearForm
integral_sum S i d c v k L = integral c v k L (rest_of d (equation S i)) +ᶠ fresh_sum S.next (powers_from v 0 k)

-- these unknowns
abbrev pub integral_unknowns : LinearSystem → Unknown → ℕ → ℕ → List Unknown
integral_unknowns S f v k = fresh_unknowns S.next f (powers_from v 0 k)

-- f is that over L
abbrev pub integrated : LinearSystem → ℕ → Unknown → Derivative → ℤ → ℕ → ℕ → ℕ → LinearSystem
integrated S i f d c v k L = eliminated_divided S i f.number (integral_sum S i d c v k L) L (integral_unknowns S f v k)

abbrev pub AppliesIntegrate : LinearSystem → ℕ → Type 0
AppliesIntegrate S i = IsPlace S i × (d : Derivative) × IsGreatest (IsIntegrable S.unknowns (equation S i)) d

abbrev pub AfterIntegrate : LinearSystem → ℕ → LinearSystem → Type 0
AfterIntegrate S i T = (f : Unknown) × (d : Derivative) × (c : ℤ) × (v : ℕ) × (k : ℕ) × (L : ℕ) × IsIntegratedAt S i f d c v k L
    × IsTidySystem (integrated S i f d c v k L) T

-- the actions of the step
abbrev pub integrated_made : LinearSystem → ℕ → Unknown → Derivative → ℤ → ℕ → ℕ → ℕ → List Made
integrated_made S i f d c v k L =
    fresh_made (integral_unknowns S f v k)
    ++ solution_made (integral_sum S i d c v k L) L
    ++ replacement_made S i f.number (integral_sum S i d c v k L) L (integral_unknowns S f v k)

abbrev pub IntegrateMakes : LinearSystem → ℕ → Made → Type 0
IntegrateMakes S i b = (f : Unknown) × (d : Derivative) × (c : ℤ) × (v : ℕ) × (k : ℕ) × (L : ℕ) × IsIntegratedAt S i f d c v k L
    × Contains (integrated_made S i f d c v k L) b
