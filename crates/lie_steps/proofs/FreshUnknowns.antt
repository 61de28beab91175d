-- The unknowns after a replacement: those without f, and the fresh ones, rise in number.
use Rattle.std.specs.Prelude.{◌≡◌, ℕ, ◌<◌, ◌≤◌, List, [], ◌∷◌, ◌++◌}
use Rattle.std.proofs.Common.{sym, arith, Less}
use Rattle.std.specs.Cmp.{nat_cmp_is}
use Rattle.std.specs.List.{AllByRecursion as Every}
use Rattle.std.specs.List.Sorted.{IsStrictlySortedBy}
use Rattle.std.specs.Ordering.{nat_cmp, on}
use Rattle.std.proofs.lemmas.List.Kept.{IsStrictlySortedBy-filter}
use Rattle.lie_math.specs.LinearSystem.{LinearSystem, Unknown}
use Rattle.lie_steps.specs.Replacement.{without, unknowns_after}
use Rattle.lie_math.proofs.EveryElement.{every-append, every-filter, every-weaken}
use Rattle.lie_steps.proofs.Derived.{IsRising}

pub less_numbers : (m k : ℕ) → m < k → nat_cmp m k ≡ Less
less_numbers m k h = sym (nat_cmp_is m k Less h)

rising-append : (k : ℕ) (us ws : List Unknown) → IsRising us → IsRising ws → Every (λ (u : Unknown). u.number < k) us → Every (λ (w : Unknown). k ≤ w.number) ws → IsRising (us ++ ws)
unfolding IsStrictlySortedBy
rising-append k [] ws r t b a = t
rising-append k (u ∷ us) ws r t b a = (
  every-append (λ (w : Unknown). nat_cmp u.number w.number ≡ Less) us ws r.0 (every-weaken (λ (w : Unknown). k ≤ w.number) _ (λ w h. less_numbers u.number w.number (between u.number k w.number b.0 h)) ws a),
  rising-append k us ws r.1 t b.1 a,
)
  where
    between : (a b c : ℕ) → a < b → b ≤ c → a < c
    between a b c h g = omega arith

pub rising-after : (S : LinearSystem) (f : ℕ) (fresh : List Unknown) → IsRising S.unknowns → Every (λ (u : Unknown). u.number < S.next) S.unknowns → IsRising fresh → Every (λ (u : Unknown). S.next ≤ u.number) fresh → IsRising (unknowns_after S f fresh)
rising-after S f fresh r b t a = rising-append S.next (without f S.unknowns) fresh (IsStrictlySortedBy-filter (on (λ (u : Unknown). u.number) nat_cmp) _ S.unknowns r) t (every-filter (λ (u : Unknown). u.number < S.next) _ S.unknowns b) a

pub nothing_rises : IsRising []
unfolding IsStrictlySortedBy
nothing_rises = tt
