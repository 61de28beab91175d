-- At which calls a fake fails.
use Rattle.std.specs.Prelude.{ℕ, ◌≡◌, List, Contains}
use Rattle.lie_outer.specs.Causes.{next_count}
use Rattle.lie_outer.specs.declared.plan.Plan.{Plan}

-- the number of the next call; past the end of its type it stays the last
abbrev pub next_call : Plan → ℕ
next_call plan = next_count plan.calls

-- the next call is one of those that are to fail
abbrev pub FailsNext : Plan → Type 0
FailsNext plan = Contains plan.fails.items (next_call plan)

-- a call was counted, and the plan is the same
abbrev pub CountsCall : Plan → Plan → Type 0
CountsCall old new = (new.calls ≡ next_call old) × (new.fails.items ≡ old.fails.items)

-- no call was counted, and these are to fail
abbrev pub IsNewPlan : Plan → List ℕ → Type 0
IsNewPlan plan fails = (plan.fails.items ≡ fails) × (plan.calls ≡ 0)
