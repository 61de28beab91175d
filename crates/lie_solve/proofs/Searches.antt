-- The search for the first rule that applies: what is known when it has come to a rule and a place.
use Rattle.std.specs.Prelude.{◌≡◌, ℕ, suc, ◌<◌, ◌≤◌, ◌⊎◌, Bool, true, false, List, length}
use Rattle.std.proofs.Common.{refl, sym, subst, ◌∙◌, arith, inl, inr}
use Rattle.lie_math.specs.LinearForm.{LinearForm}
use Rattle.lie_math.specs.LinearSystem.{LinearSystem}
use Rattle.lie_systems.specs.Works.{Made, IsMadeWithin, IsWorkWithin}
use Rattle.lie_ring.specs.declared.failures.PolyFail.{PolyFail}
use Rattle.lie_steps.specs.Rules.{Rule, rank, Place}
use Rattle.lie_steps.specs.Rules.{Applies, After, Makes, Tries, IsBefore, IsEarlier, Next, SearchMakes, NextMakes}
use Rattle.lie_steps.specs.Bulks.{system_made}
use Rattle.lie_steps.proofs.Stepping.{trichotomy, same_rank}
use Rattle.lie_lin.specs.Systems.{SpaceSystem}
use Rattle.lie_normal.specs.WorkCauses.{IsWorkCause}
use Rattle.lie_normal.proofs.WorkSteps.{work_weaken}
use Rattle.lie_change.specs.Tried.{at, TryMakes}
use Rattle.lie_solve.specs.declared.attempts.Attempt.{Attempt}
use Rattle.lie_solve.specs.declared.attempts.Attempt.TheVariants.{Step, Test}
use Rattle.lie_solve.specs.Attempts.{IsAttempted, AttemptMakes, IsPassed, IsFound, FindMakes, IsFoundOrPassed}
use Rattle.lie_solve.specs.Places.{IsPlaceOf}
use Rattle.lie_solve.proofs.Places.{applies_inside, tries_inside, after_applies, before_or_behind, Follows, IsNoneBetween, all_before}

-- no rule applies before the rule r at the place p, and the tests before are within the limits
pub record IsReached (S : LinearSystem) (r : Rule) (p : Place) : Type 0 where
  pub none : (s : Rule) (q : Place) → IsBefore s q r p → ¬ (Applies s S q)
  pub within : (s : Rule) (q : Place) → IsBefore s q r p → IsWorkWithin (Tries s S q)

-- ---- from place to place
pub reached_first : (S : LinearSystem) (r : Rule) → IsPassed S (rank r) → IsReached S r (at 0)
reached_first S r h = record { none = none; within = within }
  where
    none : (s : Rule) (q : Place) → IsBefore s q r (at 0) → ¬ (Applies s S q)
    none s q (inl lt) = h.none s q lt
    none s q (inr (e, inl k)) = absurd (omega arith)
    none s q (inr (e, inr k)) = absurd (let l = k.1 in omega arith)

    within : (s : Rule) (q : Place) → IsBefore s q r (at 0) → IsWorkWithin (Tries s S q)
    within s q (inl lt) = h.within s q lt
    within s q (inr (e, inl k)) = absurd (omega arith)
    within s q (inr (e, inr k)) = absurd (let l = k.1 in omega arith)

-- the rule applies nowhere before the place, and its tests there are within the limits
module _ (S : LinearSystem) (r : Rule) (p q : Place) (h : IsReached S r p)
    (here : (x : Place) → IsPlaceOf r S x → IsEarlier x q → ¬ (Applies r S x))
    (tests : (x : Place) → IsPlaceOf r S x → IsEarlier x q → IsWorkWithin (Tries r S x)) where
  pub reached_by : IsReached S r q
  reached_by = record { none = none; within = within }
    where
      none : (s : Rule) (x : Place) → IsBefore s x r q → ¬ (Applies s S x)
      none s x (inl lt) a = h.none s x (inl lt) a
      none s x (inr (e, k)) a = let b = subst (λ t. Applies t S x) e a in here x (applies_inside r S x b) k b

      within : (s : Rule) (x : Place) → IsBefore s x r q → IsWorkWithin (Tries s S x)
      within s x (inl lt) b t = h.within s x (inl lt) b t
      within s x (inr (e, k)) b t = let u = subst (λ w. Tries w S x b) e t in tests x (tries_inside r S x b u) k b u

pub reached_between : (S : LinearSystem) (r : Rule) (p q : Place) → IsReached S r p → IsNoneBetween r S p q → IsReached S r q
reached_between S r p q h f = reached_by S r p q h (λ x i k. h.none r x (inr (refl, f x i k))) (λ x i k. h.within r x (inr (refl, f x i k)))

pub reached_next : (S : LinearSystem) (r : Rule) (p q : Place) → IsReached S r p → ¬ (Applies r S p) → IsWorkWithin (Tries r S p)
    → Follows r S p q → IsReached S r q
reached_next S r p q h n w f = reached_by S r p q h (λ x i k. none x (f x i k)) (λ x i k. within x (f x i k))
  where
    none : (x : Place) → IsEarlier x p ⊎ (x ≡ p) → ¬ (Applies r S x)
    none x (inl k) a = h.none r x (inr (refl, k)) a
    none x (inr e) a = n (subst (λ y. Applies r S y) e a)

    within : (x : Place) → IsEarlier x p ⊎ (x ≡ p) → IsWorkWithin (Tries r S x)
    within x (inl k) b t = h.within r x (inr (refl, k)) b t
    within x (inr e) b t = w b (subst (λ y. Tries r S y b) e t)

pub reached_end : (S : LinearSystem) (r : Rule) (i : ℕ) → IsReached S r (at i) → length S.equations ≤ i → IsPassed S (suc (rank r))
reached_end S r i h end = record { none = λ s x lt a. none s x (turn s lt) a; within = λ s x lt. within s x (turn s lt) }
  where
    turn : (s : Rule) → rank s < suc (rank r) → (rank s < rank r) ⊎ (s ≡ r)
    turn s lt = by (trichotomy (rank s) (rank r))
      where
        by : (rank s < rank r) ⊎ (rank r < rank s) ⊎ (rank s ≡ rank r) → (rank s < rank r) ⊎ (s ≡ r)
        by (inl k) = inl k
        by (inr (inl k)) = absurd (omega arith)
        by (inr (inr e)) = inr (same_rank s r e)

    none : (s : Rule) (x : Place) → (rank s < rank r) ⊎ (s ≡ r) → ¬ (Applies s S x)
    none s x (inl lt) a = h.none s x (inl lt) a
    none s x (inr e) a =
        let b = subst (λ t. Applies t S x) e a in h.none r x (inr (refl, all_before r S i end x (applies_inside r S x b))) b

    within : (s : Rule) (x : Place) → (rank s < rank r) ⊎ (s ≡ r) → IsWorkWithin (Tries s S x)
    within s x (inl lt) b t = h.within s x (inl lt) b t
    within s x (inr e) b t =
        let u = subst (λ w. Tries w S x b) e t in h.within r x (inr (refl, all_before r S i end x (tries_inside r S x b u))) b u

-- ---- where the rule applies, or fails
module _ (S : LinearSystem) (r : Rule) (p : Place) (h : IsReached S r p) where
  -- the tests of the search are those before and this one
  search_within : Applies r S p → IsWorkWithin (Tries r S p) → IsWorkWithin (SearchMakes S)
  search_within a w b (s, q, t, f) = by (before_or_behind s q r p)
    where
      by : IsBefore s q r p ⊎ IsBefore r p s q ⊎ ((s ≡ r) × (q ≡ p)) → IsMadeWithin b
      by (inl k) = h.within s q k b t
      by (inr (inl k)) = absurd (f r p k a)
      by (inr (inr e)) = w b (subst (λ x. Tries r S x b) e.1 (subst (λ u. Tries u S q b) e.0 t))

  -- the next step is that of the rule at the place
  next_is : Applies r S p → (T : LinearSystem) (n : Next S T) → (n.rule ≡ r) × (n.place ≡ p)
  next_is a T n = by (before_or_behind n.rule n.place r p)
    where
      by : IsBefore n.rule n.place r p ⊎ IsBefore r p n.rule n.place ⊎ ((n.rule ≡ r) × (n.place ≡ p)) → (n.rule ≡ r) × (n.place ≡ p)
      by (inl k) = absurd (h.none n.rule n.place k n.applies)
      by (inr (inl k)) = absurd (n.first r p k a)
      by (inr (inr e)) = e

  step_within : Applies r S p → IsWorkWithin (TryMakes r S p) → IsWorkWithin (NextMakes S)
  step_within a w b (inl m) = search_within a (λ c t. w c (inl t)) b m
  step_within a w b (inr (T, n, m)) = by (next_is a T n)
    where
      made : (s : Rule) (q : Place) → s ≡ r → q ≡ p → After s S q T → Makes s S q b ⊎ (b ≡ system_made T) → TryMakes r S p b
      made s q e k after m =
          let E : Place → Type 0 = λ x. After r S x T × (Makes r S x b ⊎ (b ≡ system_made T)) in
          let D : Rule → Type 0 = λ u. After u S q T × (Makes u S q b ⊎ (b ≡ system_made T)) in
          let c = subst E k (subst D e (after, m)) in
          inr (T, c.0, c.1)

      by : (n.rule ≡ r) × (n.place ≡ p) → IsMadeWithin b
      by e = w b (made n.rule n.place e.0 e.1 n.after m)

  abbrev next_by : (T : LinearSystem) → IsPlaceOf r S p → After r S p T → Next S T
  next_by T i a = record { rule = r; place = p; applies = after_applies r S T p i a; first = h.none; after = a }

  -- what the attempt makes is made by the search
  find_makes : (attempt : Attempt) → IsPlaceOf r S p → (b : Made) → AttemptMakes attempt r S p b → FindMakes attempt S b
  find_makes Step i b (inl t) = inl (r, p, t, h.none)
  find_makes Step i b (inr (T, a, m)) = inr (T, next_by T i a, m)
  find_makes Test i b t = (r, p, t, h.none)

  pub find_cause : (attempt : Attempt) (fail : PolyFail) → IsPlaceOf r S p → IsWorkCause fail (AttemptMakes attempt r S p)
      → IsWorkCause fail (FindMakes attempt S)
  find_cause attempt fail i c = work_weaken fail (find_makes attempt i) c

  -- the test alone is within the limits where the attempt is
  pub test_within : (attempt : Attempt) → IsWorkWithin (AttemptMakes attempt r S p) → IsWorkWithin (Tries r S p)
  test_within Step w b t = w b (inl t)
  test_within Test w b t = w b t

-- ---- what the search finds
pub attempt_found : (attempt : Attempt) (r : Rule) (p : Place) (old new : SpaceSystem) → IsReached old.system r p → IsPlaceOf r old.system p
    → IsAttempted attempt r p old new true → IsWorkWithin (AttemptMakes attempt r old.system p)
    → IsFound attempt r old new × IsWorkWithin (FindMakes attempt old.system)
attempt_found Step r p old new h i a w = (
  (a.0, (next_by old.system r p h new.system i a.1, refl)),
  step_within old.system r p h
      (after_applies r old.system new.system p i a.1) w,
)
attempt_found Test r p old new h i a w = ((a.0, (p, a.1)), search_within old.system r p h a.1 w)

-- the rule does not apply, and nothing has changed
pub attempt_none : (attempt : Attempt) (r : Rule) (p : Place) (old new : SpaceSystem) → IsAttempted attempt r p old new false
    → (¬ (Applies r old.system p)) × (new ≡ old)
attempt_none Step r p old new a = (a.1.0, λ i. record { space = a.0 i; system = a.1.1 i })
attempt_none Test r p old new a = (a.1, a.0)

-- ---- the turns of a search, in which the system is still the old one
module _ (attempt : Attempt) (r : Rule) (old now : SpaceSystem) (same : now ≡ old) where
  pub turn_inside : (i : ℕ) (equations : List LinearForm) → equations ≡ old.system.equations → i < length equations
      → i < length now.system.equations
  turn_inside i equations e lt = subst (λ s. i < length s.system.equations) (sym same) (subst (λ es. i < length es) e lt)

  pub turn_found : (p : Place) (new : SpaceSystem) (told : Bool) → told ≡ true → IsReached now.system r p → IsPlaceOf r now.system p
      → IsAttempted attempt r p now new told → IsWorkWithin (AttemptMakes attempt r now.system p) → IsFoundOrPassed attempt r old new true
  turn_found p new told e h i a w =
      subst (λ s. IsFound attempt r s new × IsWorkWithin (FindMakes attempt s.system)) same
      (attempt_found attempt r p now new h i (subst (IsAttempted attempt r p now new) e a) w)

  pub turn_next : (p q : Place) (new : SpaceSystem) (told : Bool) → told ≡ false → IsReached now.system r p → Follows r now.system p q
      → IsAttempted attempt r p now new told → IsWorkWithin (AttemptMakes attempt r now.system p) → (new ≡ old) × IsReached new.system r q
  turn_next p q new told e h f a w =
      let n = attempt_none attempt r p now new (subst (IsAttempted attempt r p now new) e a) in (
        n.1 ∙ same,
        subst (λ s. IsReached s.system r q) (sym n.1)
            (reached_next now.system r p q h n.0 (test_within now.system r p h attempt w) f),
      )

  pub turn_cause : (p : Place) (fail : PolyFail) → IsReached now.system r p → IsPlaceOf r now.system p
      → IsWorkCause fail (AttemptMakes attempt r now.system p) → IsWorkCause fail (FindMakes attempt old.system)
  turn_cause p fail h i c = subst (λ s. IsWorkCause fail (FindMakes attempt s.system)) same (find_cause now.system r p h attempt fail i c)

  pub turns_end : (i : ℕ) (equations : List LinearForm) → equations ≡ old.system.equations → length equations ≤ i
      → IsReached now.system r (at i) → IsFoundOrPassed attempt r old now false
  turns_end i equations e n h =
      let end = subst (λ s. length s.system.equations ≤ i) (sym same) (subst (λ es. length es ≤ i) e n) in
      (same, subst (λ s. IsPassed s.system (suc (rank r))) same (reached_end now.system r i h end))
