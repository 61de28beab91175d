-- Numbers that actions make: they are within the limit or one is past it, and where a part is past it the whole is.
use Rattle.std.specs.Prelude.{ℕ, ◌<◌, ◌≤◌, ◌⊎◌, List, map}
use Rattle.std.proofs.Common.{inl, inr}
use Rattle.std.specs.List.{Any, Contains, AllByRecursion as Every}
use Rattle.lie_math.specs.Limits.{number_limit}
use Rattle.lie_math.proofs.Decisions.{at_most_or_greater, every_or_any, any_with}
use Rattle.lie_math.proofs.EveryElement.{every-map, every_mapped, every_contained, every_of_contained}
use Rattle.lie_systems.specs.Works.{Made, ANumber, OnCoefficients, IsMadeWithin, IsWorkWithin, IsWorkPast}
use Rattle.lie_systems.proofs.WorkLimits.{not_within_and_past}
use Rattle.lie_ring.specs.declared.failures.PastKind.TheVariants.{Coefficient, Exponent, Terms, Order, Unknowns, Width}
use Rattle.lie_ring.specs.declared.failures.PolyFail.{PolyFail}
use Rattle.lie_ring.specs.declared.failures.PolyFail.TheVariants.{Past, NoMemory}
use Rattle.lie_spans.specs.Bulks.{NumbersMade}
use Rattle.lie_rows.specs.Causes.{AreWithin, IsWorkCause}

pub work_within : (bs : List ℕ) → AreWithin bs → IsWorkWithin (NumbersMade bs)
work_within bs w b c = every_contained IsMadeWithin (map ANumber bs) b (every-map IsMadeWithin ANumber bs w) c

told : (bs : List ℕ) → AreWithin bs ⊎ IsWorkPast (NumbersMade bs) OnCoefficients
told bs = go (every_or_any (λ b. b < number_limit) (λ b. number_limit ≤ b) (λ b. turn (at_most_or_greater number_limit b)) bs)
  where
    turn : {A B : Type 0} → A ⊎ B → B ⊎ A
    turn (inl a) = inr a
    turn (inr b) = inl b

    go : AreWithin bs ⊎ Any (λ b. number_limit ≤ b) bs → AreWithin bs ⊎ IsWorkPast (NumbersMade bs) OnCoefficients
    go (inl w) = inl w
    go (inr a) =
        let made : Every (λ b. NumbersMade bs (ANumber b)) bs = every_mapped (NumbersMade bs) ANumber bs (every_of_contained (NumbersMade bs) (map ANumber bs) (λ b c. c)) in
        let p = any_with (λ b. number_limit ≤ b) (λ b. NumbersMade bs (ANumber b)) bs made a in
        inr (ANumber p.0, p.1, p.2)

pub work_past : (bs : List ℕ) → ¬ (AreWithin bs) → IsWorkPast (NumbersMade bs) OnCoefficients
work_past bs n = go (told bs)
  where
    go : AreWithin bs ⊎ IsWorkPast (NumbersMade bs) OnCoefficients → IsWorkPast (NumbersMade bs) OnCoefficients
    go (inl w) = absurd (n w)
    go (inr p) = p

-- where a part is within the limit if the whole is, what stops the part stops the whole
pub cause_of : (fail : PolyFail) (part whole : List ℕ) → (AreWithin whole → AreWithin part) → IsWorkCause fail (NumbersMade part) → IsWorkCause fail (NumbersMade whole)
cause_of (Past Coefficient) part whole f p = work_past whole (λ w. not_within_and_past OnCoefficients p.0 (work_within part (f w) p.0 p.1) p.2)
cause_of (Past Exponent) part whole f p = p
cause_of (Past Terms) part whole f p = p
cause_of (Past Order) part whole f p = p
cause_of (Past Unknowns) part whole f p = p
cause_of (Past Width) part whole f p = p
cause_of NoMemory part whole f p = tt
