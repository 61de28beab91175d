-- A work is past the limit of some kind, or within all.
use Rattle.std.specs.Prelude.{◌≡◌, ◌⊎◌}
use Rattle.std.proofs.Common.{refl, sym, subst, inl, inr}
use Rattle.lie_systems.specs.Works.{Limit, OnCoefficients, OnExponents, OnTerms, OnOrders, OnUnknowns, OnWidth, Made, IsMadeWithin, IsMadePast, IsWorkWithin, IsWorkPast}
use Rattle.lie_systems.proofs.WorkLimits.{within_or_past, not_within_and_past}
use Rattle.lie_ring.specs.declared.failures.PastKind.{PastKind}
use Rattle.lie_ring.specs.declared.failures.PastKind.TheVariants.{Coefficient, Exponent, Terms, Order, Unknowns, Width}
use Rattle.lie_reduce.specs.Kinds.{limit_of}

-- each limit is that of a kind
kind_of : (limit : Limit) → (kind : PastKind) × (limit_of kind ≡ limit)
kind_of OnCoefficients = (Coefficient, refl)
kind_of OnExponents = (Exponent, refl)
kind_of OnTerms = (Terms, refl)
kind_of OnOrders = (Order, refl)
kind_of OnUnknowns = (Unknowns, refl)
kind_of OnWidth = (Width, refl)

pub made_told : (b : Made) → IsMadeWithin b ⊎ ((kind : PastKind) × IsMadePast (limit_of kind) b)
made_told b = go (within_or_past b)
  where
    go : IsMadeWithin b ⊎ ((limit : Limit) × IsMadePast limit b) → IsMadeWithin b ⊎ ((kind : PastKind) × IsMadePast (limit_of kind) b)
    go (inl w) = inl w
    go (inr (limit, past)) = let k = kind_of limit in inr (k.0, subst (λ l. IsMadePast l b) (sym k.1) past)

module _ (makes : Made → Type 0) where
  pub work_apart : (limit : Limit) → IsWorkWithin makes → ¬ (IsWorkPast makes limit)
  work_apart limit within past = not_within_and_past limit past.0 (within past.0 past.1) past.2

  pub past_none_is_within : ((kind : PastKind) → ¬ (IsWorkPast makes (limit_of kind))) → IsWorkWithin makes
  past_none_is_within none b action = go (made_told b)
    where
      go : IsMadeWithin b ⊎ ((kind : PastKind) × IsMadePast (limit_of kind) b) → IsMadeWithin b
      go (inl w) = w
      go (inr (kind, past)) = absurd (none kind (b, action, past))
