-- The actions of a check are within the limits, or one is past a limit, and not both.
use Rattle.std.specs.Prelude.{◌≡◌, ℕ, zero, suc, ◌≤◌, ◌<◌, ◌⊎◌, List}
use Rattle.std.proofs.Common.{subst, arith, inl, inr}
use Rattle.std.specs.List.{AllByRecursion as Every, Any, Contains}
use Rattle.lie_math.specs.Limits.{IsWithinLimits}
use Rattle.lie_math.specs.Polynomial.{WholePolynomial}
use Rattle.lie_math.proofs.Decisions.{at_most_or_greater, every_or_any, any_with}
use Rattle.lie_math.proofs.EveryElement.{every_contained, every_of_contained}
use Rattle.lie_geometry.specs.Coordinates.{Space, coordinate, coordinates_up_to}
use Rattle.lie_geometry.specs.Invariance.{greatest_order, applied_prolongation}
use Rattle.lie_geometry.specs.SolvedEquations.{SolvedEquation}
use Rattle.lie_systems.specs.Works.{APolynomial, IsMadePast}
use Rattle.lie_prolong.specs.Bulks.{bulk_at}
use Rattle.lie_ring.specs.declared.failures.PastKind.{PastKind}
use Rattle.lie_ring.specs.declared.failures.PolyFail.TheVariants.{Past}
use Rattle.lie_reduce.specs.Bulks.{reduction_bulk}
use Rattle.lie_reduce.specs.Kinds.{limit_of}
use Rattle.lie_reduce.proofs.WorkKinds.{made_told, work_apart}
use Rattle.lie_check.specs.Actions.{application_bulk, CheckMakes, coefficient, application, reduction, AreActionsWithin, IsActionCause}
use Rattle.lie_check.specs.Laws.{ActionsAreWithinOrPast, ActionsAreNotWithinAndPast}

-- ---- a polynomial
abbrev IsSomehowPast : WholePolynomial → Type 0
IsSomehowPast p = (kind : PastKind) × IsMadePast (limit_of kind) (APolynomial p)

polynomial_told : (p : WholePolynomial) → IsWithinLimits p ⊎ IsSomehowPast p
polynomial_told p = made_told (APolynomial p)

-- ---- many of them
elements_told : (X : Type 0) (f : X → WholePolynomial) (xs : List X) → ((x : X) → Contains xs x → IsWithinLimits (f x)) ⊎ ((x : X) × Contains xs x × IsSomehowPast (f x))
elements_told X f xs = go (every_or_any (λ x. IsWithinLimits (f x)) (λ x. IsSomehowPast (f x)) (λ x. polynomial_told (f x)) xs)
  where
    go : Every (λ x. IsWithinLimits (f x)) xs ⊎ Any (λ x. IsSomehowPast (f x)) xs → ((x : X) → Contains xs x → IsWithinLimits (f x)) ⊎ ((x : X) × Contains xs x × IsSomehowPast (f x))
    go (inl h) = inl (λ x c. every_contained (λ x. IsWithinLimits (f x)) xs x h c)
    go (inr a) = inr (any_with (λ x. IsSomehowPast (f x)) (Contains xs) xs (every_of_contained (Contains xs) xs (λ x c. c)) a)

numbers_told : (f : ℕ → WholePolynomial) (low high : ℕ) → ((w : ℕ) → low ≤ w → w < high → IsWithinLimits (f w)) ⊎ ((w : ℕ) × (low ≤ w) × (w < high) × IsSomehowPast (f w))
numbers_told f low zero = inl (λ w a b. absurd (omega arith))
numbers_told f low (suc n) = go (numbers_told f low n) (at_most_or_greater low n) (polynomial_told (f n))
  where
    go : ((w : ℕ) → low ≤ w → w < n → IsWithinLimits (f w)) ⊎ ((w : ℕ) × (low ≤ w) × (w < n) × IsSomehowPast (f w)) → (low ≤ n) ⊎ (n < low) → IsWithinLimits (f n) ⊎ IsSomehowPast (f n)
        → ((w : ℕ) → low ≤ w → w < suc n → IsWithinLimits (f w)) ⊎ ((w : ℕ) × (low ≤ w) × (w < suc n) × IsSomehowPast (f w))
    go (inr (w, a, b, past)) l t = inr (w, a, (omega arith), past)
    go (inl h) (inr l) t = inl (λ w a b. absurd (omega arith))
    go (inl h) (inl l) (inr past) = inr (n, l, (omega arith), past)
    go (inl h) (inl l) (inl here) = inl (λ w a b. by w a b (at_most_or_greater n w))
      where
        by : (w : ℕ) → low ≤ w → w < suc n → (n ≤ w) ⊎ (w < n) → IsWithinLimits (f w)
        by w a b (inl c) = subst (λ k. IsWithinLimits (f k)) (let e : n ≡ w = omega arith in e) here
        by w a b (inr c) = h w a c

-- ---- the actions
module _ (S : Space) (rs : List SolvedEquation) (V : ℕ → WholePolynomial) where
  abbrev IsOnePast : Type 0
  IsOnePast = (kind : PastKind) × IsActionCause S rs V (Past kind)

  within : ((w : ℕ) → S.p ≤ w → w < coordinates_up_to S (greatest_order S rs) → IsWithinLimits (bulk_at S V (coordinate S w)))
      → ((r : SolvedEquation) → Contains rs r → IsWithinLimits (application_bulk S rs V r))
      → ((r : SolvedEquation) → Contains rs r → IsWithinLimits (reduction_bulk rs (applied_prolongation S rs V r))) → AreActionsWithin S rs V
  within cs bs ds B (coefficient w low high) = cs w low high
  within cs bs ds B (application r c) = bs r c
  within cs bs ds B (reduction r c) = ds r c

  told : AreActionsWithin S rs V ⊎ IsOnePast
  told =
      go (numbers_told (λ w. bulk_at S V (coordinate S w)) S.p (coordinates_up_to S (greatest_order S rs)))
      (elements_told SolvedEquation (application_bulk S rs V) rs) (elements_told SolvedEquation (λ r. reduction_bulk rs (applied_prolongation S rs V r)) rs)
    where
      go : ((w : ℕ) → S.p ≤ w → w < coordinates_up_to S (greatest_order S rs) → IsWithinLimits (bulk_at S V (coordinate S w)))
          ⊎ ((w : ℕ) × (S.p ≤ w) × (w < coordinates_up_to S (greatest_order S rs)) × IsSomehowPast (bulk_at S V (coordinate S w)))
          → ((r : SolvedEquation) → Contains rs r → IsWithinLimits (application_bulk S rs V r)) ⊎ ((r : SolvedEquation) × Contains rs r × IsSomehowPast (application_bulk S rs V r))
          → ((r : SolvedEquation) → Contains rs r → IsWithinLimits (reduction_bulk rs (applied_prolongation S rs V r)))
          ⊎ ((r : SolvedEquation) × Contains rs r × IsSomehowPast (reduction_bulk rs (applied_prolongation S rs V r)))
          → AreActionsWithin S rs V ⊎ IsOnePast
      go (inl cs) (inl bs) (inl ds) = inl (within cs bs ds)
      go (inr (w, low, high, past)) bs ds = inr (past.0, (APolynomial (bulk_at S V (coordinate S w)), coefficient w low high, past.1))
      go (inl cs) (inr (r, c, past)) ds = inr (past.0, (APolynomial (application_bulk S rs V r), application r c, past.1))
      go (inl cs) (inl bs) (inr (r, c, past)) = inr (past.0, (APolynomial (reduction_bulk rs (applied_prolongation S rs V r)), reduction r c, past.1))

pub actions_are_within_or_past : ActionsAreWithinOrPast
actions_are_within_or_past S rs V = told S rs V

pub actions_are_not_within_and_past : ActionsAreNotWithinAndPast
actions_are_not_within_and_past S rs V kind within past = work_apart (CheckMakes S rs V) (limit_of kind) within past
