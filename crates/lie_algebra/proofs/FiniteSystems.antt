-- A valid finite system is one of constants.
use Rattle.std.specs.Prelude.{◌≡◌, ℕ, zero, suc, eqb, ltb, cond, List, [], ◌∷◌, get_or}
use Rattle.std.proofs.Common.{refl, sym, ap, ◌∙◌, arith, true≢false, Less, is_lt}
use Rattle.std.specs.List.{AllByRecursion as Every, list_any}
use Rattle.std.specs.List.Sorted.{IsStrictlySortedBy}
use Rattle.std.specs.Ordering.{nat_cmp, on}
use Rattle.std.specs.Cmp.{nat_cmp_total, tied_itself}
use Rattle.lie_math.specs.Counts.{Derivative, trimmed, before_counts}
use Rattle.lie_math.specs.LinearSystem.{Unknown, LinearSystem}
use Rattle.lie_math.specs.Polynomial.{WholePolynomial}
use Rattle.lie_math.specs.Variables.{IsIn}
use Rattle.lie_math.proofs.EveryElement.{every-weaken, every_contained}
use Rattle.lie_systems.specs.ValidSystems.{IsValid, IsOwned, IsFormOf, count}
use Rattle.lie_steps.specs.Runs.{IsFinite}
use Rattle.lie_spans.specs.ConstantSystems.{IsConstantSystem, IsListedUnknown}
use Rattle.lie_spans.specs.Spans.{EveryTwo}

zero_counts : (J : List ℕ) → ((v : ℕ) → get_or J v 0 ≡ 0) → trimmed J ≡ []
zero_counts [] h = refl
zero_counts (c ∷ J) h = ap (before_counts c) (zero_counts J (λ v. h (suc v))) ∙ ap (λ x. cond (eqb x 0) [] (x ∷ [])) (h 0)

abbrev AreConstants : List Unknown → Type 0
AreConstants fs = Every (λ (f : Unknown). f.variables ≡ []) fs

-- a constant is not derived
no_counts : (fs : List Unknown) → AreConstants fs → (d : Derivative) → IsOwned fs d → d.counts ≡ []
no_counts fs h d o =
    sym o.short
    ∙ zero_counts d.counts (λ v. zero_of (count d v) (λ n. true≢false
    (sym (o.own v n) ∙ ap (list_any (eqb v)) (every_contained (λ (f : Unknown). f.variables ≡ []) fs o.unknown h o.listed))))
  where
    zero_of : (c : ℕ) → ¬ (¬ (c ≡ 0)) → c ≡ 0
    zero_of zero n = refl
    zero_of (suc c) n = absurd (n (λ e. absurd (omega arith)))

owned_listed : (fs : List Unknown) → AreConstants fs → (d : Derivative) → IsOwned fs d → IsListedUnknown fs d
owned_listed fs h d o =
    (no_counts fs h d o, λ n. every_contained (λ (f : Unknown). ¬ (f.number ≡ d.unknown)) fs o.unknown n o.listed o.number)

rising_distinct : (fs : List Unknown) → IsStrictlySortedBy (on (λ (f : Unknown). f.number) nat_cmp) fs
    → EveryTwo (λ (f g : Unknown). ¬ (f.number ≡ g.number)) fs
unfolding IsStrictlySortedBy
rising_distinct [] h = tt
rising_distinct (f ∷ fs) h = (
  every-weaken (λ (g : Unknown). nat_cmp f.number g.number ≡ Less) (λ (g : Unknown). ¬ (f.number ≡ g.number))
      (λ g l e. true≢false (sym (ap is_lt (ap (nat_cmp f.number) e ∙ l)) ∙ ap is_lt (tied_itself nat_cmp_total f.number))) fs h.0,
  rising_distinct fs h.1,
)

pub finite_is_constant : (n : ℕ) (S : LinearSystem) → IsValid n S → IsFinite S → IsConstantSystem S
finite_is_constant n S h f = record {
  nothing = f.solved;
  constants = f.constants;
  distinct = rising_distinct S.unknowns h.rising;
  listed = every-weaken (IsFormOf n S.unknowns) (λ E. Every (λ (e : Derivative × WholePolynomial). IsListedUnknown S.unknowns e.0) E.list)
      (λ E o. every-weaken (λ (e : Derivative × WholePolynomial). IsOwned S.unknowns e.0 × IsIn (λ v. ltb v n) e.1)
      (λ (e : Derivative × WholePolynomial). IsListedUnknown S.unknowns e.0) (λ e p. owned_listed S.unknowns f.constants e.0 p.0) E.list o)
      S.general h.general;
}
