-- Runs step by step: the actions of the steps so far, and what a run comes to.
use Rattle.std.specs.Prelude.{◌≡◌, ℕ, zero, suc, ◌+◌, ◌<◌, ◌≤◌, ◌⊎◌}
use Rattle.std.proofs.Common.{refl, sym, subst, ◌∙◌, arith, inl, inr}
use Rattle.lie_math.specs.LinearSystem.{LinearSystem}
use Rattle.lie_systems.specs.ValidSystems.{IsValid}
use Rattle.lie_systems.specs.Works.{Limit, IsMadeWithin, IsWorkWithin, IsWorkPast, IsFirstPast}
use Rattle.lie_systems.proofs.WorkLimits.{work_not_within_and_past}
use Rattle.lie_ring.specs.declared.failures.PolyFail.{PolyFail}
use Rattle.lie_ring.specs.declared.failures.PolyFail.TheVariants.{Past, NoMemory}
use Rattle.lie_steps.specs.Rules.{Rule, Next, IsStuck, SearchMakes, NextMakes}
use Rattle.lie_steps.specs.Runs.{Run, start, onward}
use Rattle.lie_steps.proofs.Stepping.{trichotomy, next_keeps, next_unique, run_keeps}
use Rattle.lie_lin.specs.Systems.{SpaceSystem}
use Rattle.lie_normal.specs.WorkCauses.{limit_of, IsWorkCause}
use Rattle.lie_solve.specs.declared.attempts.Attempt.TheVariants.{Test}
use Rattle.lie_solve.specs.Attempts.{IsFound}
use Rattle.lie_solve.specs.Runs.{StepMakes, IsRunWithin, EndsWithin, IsSpent, IsKept, IsStopped, stop_at, OutcomesDiffer}

-- ---- runs
run_onward : {S T U : LinearSystem} {n : ℕ} → Run S n T → Next T U → Run S (suc n) U
run_onward start s = onward s start
run_onward (onward t r) s = onward t (run_onward r s)

module _ (m : ℕ) where
  -- after so many steps there is one system
  run_unique : {S T U : LinearSystem} {n k : ℕ} → IsValid m S → Run S n T → Run S k U → n ≡ k → T ≡ U
  run_unique v start start e = refl
  run_unique v start (onward s r) e = absurd (omega arith)
  run_unique v (onward s r) start e = absurd (omega arith)
  run_unique {S = S} {U = V} v (onward {T = T} s r) (onward {T = R} {n = k} t q) e =
      let same : R ≡ T = next_unique m S R T v t s in
      run_unique (next_keeps m S T v s).0 r (subst (λ x. Run x k V) same q) (omega arith)

  -- behind a system to which no rule applies there is none
  pub run_ends : {S T U : LinearSystem} {n k : ℕ} → IsValid m S → Run S n T → IsStuck T → Run S k U → k ≤ n
  run_ends v start e start = omega arith
  run_ends v start e (onward s r) = absurd (e s.rule s.place s.applies)
  run_ends v (onward s r) e start = omega arith
  run_ends {S = S} {U = V} v (onward {T = T} s r) e (onward {T = R} {n = k} t q) =
      let same : R ≡ T = next_unique m S R T v t s in
      let h = run_ends (next_keeps m S T v s).0 r e (subst (λ x. Run x k V) same q) in
      omega arith

-- ---- the run so far
-- n steps lead from S to T, and their actions are within the limits
pub record IsRunning (S : LinearSystem) (budget n : ℕ) (T : LinearSystem) : Type 0 where
  pub run : Run S n T
  pub within : (step : ℕ) → step ≤ n → IsWorkWithin (StepMakes S budget step)

pub running_first : (S : LinearSystem) (budget : ℕ) → IsRunning S budget 0 S
running_first S budget = record { run = start; within = within }
  where
    within : (step : ℕ) → step ≤ 0 → IsWorkWithin (StepMakes S budget step)
    within zero h b m = absurd m
    within (suc k) h b m = absurd (omega arith)

-- the failure is for want of memory, or this step is the first that is past the limit that it tells
abbrev pub IsStoppedAt : LinearSystem → ℕ → ℕ → PolyFail → Type 0
IsStoppedAt S budget step (Past kind) = IsFirstPast (StepMakes S budget) step (limit_of kind)
IsStoppedAt S budget step NoMemory = Unit {0}

pub stopped : (old : SpaceSystem) (budget step : ℕ) (fail : PolyFail) → IsStoppedAt old.system budget step fail
    → IsStopped old budget (stop_at step fail)
stopped old budget step (Past kind) h = h
stopped old budget step NoMemory h = h

module _ (m : ℕ) (S : LinearSystem) (v : IsValid m S) (budget n : ℕ) (T : LinearSystem) (h : IsRunning S budget n T) where
  at_turn : (k : ℕ) → (k < n) ⊎ (n < k) ⊎ (k ≡ n)
  at_turn k = trichotomy k n

  pub running_next : (U : LinearSystem) (next : ℕ) → next ≡ n + 1 → n < budget → Next T U → IsWorkWithin (NextMakes T)
      → IsRunning S budget next U
  running_next U next is lt s w =
      let e : suc n ≡ next = omega arith in subst (λ k. IsRunning S budget k U) e (record { run = run_onward h.run s; within = within })
    where
      within : (step : ℕ) → step ≤ suc n → IsWorkWithin (StepMakes S budget step)
      within zero k b made = absurd made
      within (suc j) k b made = by (at_turn j) made
        where
          by : (j < n) ⊎ (n < j) ⊎ (j ≡ n) → StepMakes S budget (suc j) b → IsMadeWithin b
          by (inl less) made = h.within (suc j) (omega arith) b made
          by (inr (inl more)) made = absurd (omega arith)
          by (inr (inr e)) (inl (below, (V, r, x))) = w b (subst (λ Y. NextMakes Y b) (run_unique m v r h.run e) x)
          by (inr (inr e)) (inr (same, x)) = absurd (omega arith)

  pub running_ends : n < budget → IsStuck T → IsWorkWithin (NextMakes T) → EndsWithin S budget n T
  running_ends lt stuck w = record { ends = record { run = h.run; stuck = stuck }; affordable = omega arith; within = within }
    where
      within : (step : ℕ) → IsWorkWithin (StepMakes S budget step)
      within zero b made = absurd made
      within (suc j) b (inr (same, (V, r, x))) = absurd (let k = run_ends m v h.run stuck r in omega arith)
      within (suc j) b (inl (below, (V, r, x))) = by (at_turn j)
        where
          by : (j < n) ⊎ (n < j) ⊎ (j ≡ n) → IsMadeWithin b
          by (inl less) = h.within (suc j) (omega arith) b (inl (below, (V, r, x)))
          by (inr (inl more)) = absurd (let k = run_ends m v h.run stuck r in omega arith)
          by (inr (inr e)) = w b (subst (λ Y. NextMakes Y b) (run_unique m v r h.run e) x)

  first_past : (limit : Limit) → IsWorkPast (StepMakes S budget (suc n)) limit → IsFirstPast (StepMakes S budget) (suc n) limit
  first_past limit p = record { before = λ k less. h.within k (omega arith); past = p }

  pub running_past : n < budget → (fail : PolyFail) (step : ℕ) → step ≡ n + 1 → IsWorkCause fail (NextMakes T)
      → IsStoppedAt S budget step fail
  running_past lt NoMemory step is c = tt
  running_past lt (Past kind) step is c =
      let e : suc n ≡ step = omega arith in
      subst (λ k. IsFirstPast (StepMakes S budget) k (limit_of kind)) e (first_past (limit_of kind) (c.0, inl (lt, (T, h.run, c.1)), c.2))

  -- ---- at the end of the budget
  module _ (spent : n ≡ budget) where
    run_within : IsWorkWithin (SearchMakes T) → IsRunWithin S budget
    run_within w zero b made = absurd made
    run_within w (suc j) b (inl (below, x)) = h.within (suc j) (omega arith) b (inl (below, x))
    run_within w (suc j) b (inr (same, (V, r, x))) = w b (subst (λ Y. SearchMakes Y b) (run_unique m v r h.run (same ∙ sym spent)) x)

    pub budget_ends : IsStuck T → IsWorkWithin (SearchMakes T) → EndsWithin S budget budget T
    budget_ends stuck w =
        subst (λ k. EndsWithin S budget k T) spent
        (record { ends = record { run = h.run; stuck = stuck }; affordable = omega arith; within = run_within w })

    pub budget_spent : ¬ (IsStuck T) → IsWorkWithin (SearchMakes T) → IsSpent S budget T
    budget_spent more w = record { run = subst (λ k. Run S k T) spent h.run; more = more; within = run_within w }

    pub budget_past : (fail : PolyFail) (step : ℕ) → step ≡ n + 1 → IsWorkCause fail (SearchMakes T) → IsStoppedAt S budget step fail
    budget_past NoMemory step is c = tt
    budget_past (Past kind) step is c =
        let e : suc n ≡ step = omega arith in
        subst (λ k. IsFirstPast (StepMakes S budget) k (limit_of kind)) e
        (first_past (limit_of kind) (c.0, inr (spent, (T, h.run, c.1)), c.2))

pub running_keeps : (m budget n : ℕ) (old new : SpaceSystem) → IsValid m old.system → IsRunning old.system budget n new.system
    → new.space ≡ old.space → IsKept old new
running_keeps m budget n old new v h e = (e, (run_keeps m v h.run).1)

-- ---- the outcomes
pub outcomes_differ : OutcomesDiffer
outcomes_differ = record {
  ended_or_spent = λ m budget n S T U v e s.
      (let k = run_ends m v (e.ends).run (e.ends).stuck s.run in
      let a = e.affordable in
      s.more (subst IsStuck (run_unique m v (e.ends).run s.run (omega arith)) (e.ends).stuck));
  ended_or_past = λ budget n step S T limit e p. work_not_within_and_past (StepMakes S budget step) limit (e.within step) p.past;
  spent_or_past = λ budget step S T limit s p. work_not_within_and_past (StepMakes S budget step) limit (s.within step) p.past;
}

-- ---- the run of a system over variables, where a call has made `new` of `now`
module _ (m : ℕ) (old now : SpaceSystem) (v : IsValid m old.system) (budget n : ℕ) (h : IsRunning old.system budget n now.system)
    (space : now.space ≡ old.space) where
  pub step_ends : (new : SpaceSystem) → n < budget → (new ≡ now) × IsStuck now.system → IsWorkWithin (NextMakes now.system)
      → EndsWithin old.system budget n new.system × IsKept old new
  step_ends new lt e w =
      subst (λ s. EndsWithin old.system budget n s.system × IsKept old s) (sym e.0)
      (running_ends m old.system v budget n now.system h lt e.1 w, running_keeps m budget n old now v h space)

  module _ (new : SpaceSystem) (reached : n ≡ budget) (w : IsWorkWithin (SearchMakes now.system)) where
    pub search_ends : (new ≡ now) × IsStuck now.system → EndsWithin old.system budget budget new.system × IsKept old new
    search_ends e =
        subst (λ s. EndsWithin old.system budget budget s.system × IsKept old s) (sym e.0)
        (budget_ends m old.system v budget n now.system h reached e.1 w, running_keeps m budget n old now v h space)

    pub search_finds : (r : Rule) → IsFound Test r now new → IsSpent old.system budget new.system × IsKept old new
    search_finds r e =
        subst (λ s. IsSpent old.system budget s.system × IsKept old s) (sym e.0) (
          budget_spent m old.system v budget n now.system h reached
              (λ stuck. stuck r e.1.0 e.1.1) w,
          running_keeps m budget n old now v h space,
        )
