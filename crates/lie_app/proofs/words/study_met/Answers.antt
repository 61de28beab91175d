-- Each value is the one that was found for its argument or option.
use Rattle.std.specs.Prelude.{ℕ, Some, None}
use Rattle.std.specs.Option.{option_map}
use Rattle.std.specs.declared.option.Option.{Option}
use Rattle.std.proofs.Common.{refl, sym, ap, codes, ◌≡◌, ◌∙◌}
use Rattle.clap.specs.Walk.{Text}
use Rattle.clap.specs.Words.{found_of}
use Rattle.clap.proofs.WalkLemmas.{first_value-rows}
use Rattle.lie_app.specs.Words.{AnyCommand, budget_of, ◌>>=◌}
use Rattle.lie_app.specs.declared.words.Command.TheVariants.{OnDesk}
use Rattle.lie_app.specs.declared.words.DeskCommand.TheVariants.{Study}
use Rattle.lie_app.proofs.words.study_met.Goals as goal

-- the study of a name, a path and a budget, where there are all three
abbrev study_from : Option Text → Option Text → Option ℕ → Option AnyCommand
study_from name path budget = name >>= λ x. path >>= λ p. option_map (λ n. OnDesk (Study x p n)) budget

no_path : (name path : Option Text) (budget : Option ℕ) → path ≡ None → study_from name path budget ≡ None
no_path None path budget e = refl
no_path (Some name) path budget e = rw e refl

no_budget : (name path : Option Text) (budget : Option ℕ) → budget ≡ None → study_from name path budget ≡ None
no_budget None path budget e = refl
no_budget (Some name) None budget e = refl
no_budget (Some name) (Some path) budget e = rw e refl

all_found : (name path : Option Text) (budget : Option ℕ) (x p : Text) (n : ℕ) → name ≡ Some x → path ≡ Some p → budget ≡ Some n
    → study_from name path budget ≡ Some (OnDesk (Study x p n))
all_found name path budget x p n e f g = rw (e, f, g) refl

pub returns-in_err-path-clause-met : goal.returns-in_err-path-clause-met
returns-in_err-path-clause-met c =
    let found = found_of c.args.arguments.now in
    rw c.from_residual-in_err-path.ensures (sym (no_path _ _ _ (sym (first_value-rows found (codes "path")) ∙ sym c.in_err-path.ensures)))

pub returns-in_err-budget-clause-met : goal.returns-in_err-budget-clause-met
returns-in_err-budget-clause-met c =
    let found = found_of c.args.arguments.now in
    let steps = sym (first_value-rows found (codes "steps")) ∙ sym c.get_str-2.ensures in
    rw c.from_residual-in_err-budget.ensures (sym (no_budget _ _ _ (ap budget_of steps ∙ sym c.in_err-budget.ensures.steps)))

pub returns-clause-met : goal.returns-clause-met
returns-clause-met c =
    let found = found_of c.args.arguments.now in
    let path = sym (first_value-rows found (codes "path")) ∙ sym c.in_ok-path.ensures in
    let steps = sym (first_value-rows found (codes "steps")) ∙ sym c.get_str-2.ensures in
    sym (all_found _ _ _ c.in_ok-name.name.now c.in_ok-path.path.now c.in_ok-budget.budget (sym c.in_ok-name.ensures.name) path (ap budget_of steps ∙ sym c.in_ok-budget.ensures.steps))
