-- Each value is the one that was found for its argument or option.
use Rattle.std.specs.Prelude.{ℕ, Some, None}
use Rattle.std.specs.Option.{option_map}
use Rattle.std.specs.declared.option.Option.{Option}
use Rattle.std.proofs.Common.{refl, sym, ap, codes, ◌≡◌, ◌∙◌}
use Rattle.clap.specs.Walk.{Text, first_of}
use Rattle.clap.specs.Words.{found_of, rows_of}
use Rattle.clap.proofs.WalkLemmas.{first_value-rows}
use Rattle.lie_app.specs.Words.{AnyCommand, budget_of, member_in, ◌>>=◌}
use Rattle.lie_app.specs.declared.words.Command.TheVariants.{Sample}
use Rattle.lie_app.proofs.words.sample_met.Goals as goal

-- the sample up to the member of a text, by a budget, where there are both
abbrev sample_from : Option Text → Option ℕ → Option AnyCommand
sample_from text budget = text >>= λ t. member_in t >>= λ k. option_map (λ n. Sample k n) budget

no_text : (text : Option Text) (budget : Option ℕ) → text ≡ None → sample_from text budget ≡ None
no_text text budget e = rw e refl

no_member : (text : Option Text) (budget : Option ℕ) (t : Text) → text ≡ Some t → member_in t ≡ None → sample_from text budget ≡ None
no_member text budget t e f = rw (e, f) refl

none_behind : (o : Option ℕ) → ◌≡◌ {A = Option AnyCommand} (o >>= λ k. None) None
none_behind None = refl
none_behind (Some k) = refl

no_budget : (text : Option Text) (budget : Option ℕ) → budget ≡ None → sample_from text budget ≡ None
no_budget None budget e = refl
no_budget (Some t) budget e = rw e (none_behind (member_in t))

all_found : (text : Option Text) (budget : Option ℕ) (t : Text) (k n : ℕ) → text ≡ Some t → member_in t ≡ Some k → budget ≡ Some n
    → sample_from text budget ≡ Some (Sample k n)
all_found text budget t k n e f g = rw (e, f, g) refl

pub returns-in_err-text-clause-met : goal.returns-in_err-text-clause-met
returns-in_err-text-clause-met c =
    let found = found_of c.args.arguments.now in
    let text = sym (first_value-rows found (codes "last")) ∙ sym c.in_err-text.ensures in
    rw c.from_residual.ensures (sym (no_text (first_of (codes "last") (rows_of found)) _ text))

pub returns-in_err-last-clause-met : goal.returns-in_err-last-clause-met
returns-in_err-last-clause-met c =
    let found = found_of c.args.arguments.now in
    rw c.from_residual-in_err-last.ensures (sym (no_member (first_of (codes "last") (rows_of found)) _ c.in_ok-text.text.now
    (sym (first_value-rows found (codes "last")) ∙ sym c.in_ok-text.ensures) (sym c.in_err-last.ensures.member)))

pub returns-in_err-budget-clause-met : goal.returns-in_err-budget-clause-met
returns-in_err-budget-clause-met c =
    let found = found_of c.args.arguments.now in
    let steps = sym (first_value-rows found (codes "steps")) ∙ sym c.get_str-2.ensures in
    let none = ap budget_of steps ∙ sym c.in_err-budget.ensures.steps in
    rw c.from_residual-in_err-budget.ensures (sym (no_budget (first_of (codes "last") (rows_of found)) _ none))

pub returns-clause-met : goal.returns-clause-met
returns-clause-met c =
    let found = found_of c.args.arguments.now in
    let text = sym (first_value-rows found (codes "last")) ∙ sym c.in_ok-text.ensures in
    let steps = sym (first_value-rows found (codes "steps")) ∙ sym c.get_str-2.ensures in
    let many = ap budget_of steps ∙ sym c.in_ok-budget.ensures.steps in
    sym (all_found (first_of (codes "last") (rows_of found)) _ c.in_ok-text.text.now c.in_ok-last.last c.in_ok-budget.budget text
    (sym c.in_ok-last.ensures.member) many)
