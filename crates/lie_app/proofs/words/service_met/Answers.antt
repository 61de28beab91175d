-- Each value is the one that was found for its argument or option.
use Rattle.std.specs.Prelude.{ℕ, Some, None}
use Rattle.std.specs.Option.{option_map}
use Rattle.std.specs.declared.option.Option.{Option}
use Rattle.std.proofs.Common.{refl, sym, ap, codes, ◌≡◌, ◌∙◌}
use Rattle.clap.specs.Walk.{Text, first_of}
use Rattle.clap.specs.Words.{found_of, rows_of}
use Rattle.clap.proofs.WalkLemmas.{first_value-rows}
use Rattle.lie_app.specs.Words.{AnyCommand, budget_of, count_in, ◌>>=◌}
use Rattle.lie_app.specs.declared.words.Command.TheVariants.{OnLink}
use Rattle.lie_app.proofs.words.service_met.Goals as goal

-- the service at an address, of as many connections as a text says, by a budget, where there are all three
abbrev service_from : Option Text → Option Text → Option ℕ → Option AnyCommand
service_from address text budget = address >>= λ a. (text >>= count_in) >>= λ n. option_map (λ b. OnLink a n b) budget

no_address : (address text : Option Text) (budget : Option ℕ) → address ≡ None → service_from address text budget ≡ None
no_address address text budget e = rw e refl

no_text : (address text : Option Text) (budget : Option ℕ) → text ≡ None → service_from address text budget ≡ None
no_text None text budget e = refl
no_text (Some a) text budget e = rw e refl

no_count : (address text : Option Text) (budget : Option ℕ) (t : Text) → text ≡ Some t → count_in t ≡ None → service_from address text budget ≡ None
no_count None text budget t e f = refl
no_count (Some a) text budget t e f = rw (e, f) refl

none_behind : (o : Option ℕ) → ◌≡◌ {A = Option AnyCommand} (o >>= λ n. None) None
none_behind None = refl
none_behind (Some n) = refl

no_budget : (address text : Option Text) (budget : Option ℕ) → budget ≡ None → service_from address text budget ≡ None
no_budget None text budget e = refl
no_budget (Some a) text budget e = rw e (none_behind (text >>= count_in))

all_found : (address text : Option Text) (budget : Option ℕ) (a t : Text) (n b : ℕ) → address ≡ Some a → text ≡ Some t → count_in t ≡ Some n → budget ≡ Some b
    → service_from address text budget ≡ Some (OnLink a n b)
all_found address text budget a t n b e f g h = rw (e, f, g, h) refl

pub returns-in_err-address-clause-met : goal.returns-in_err-address-clause-met
returns-in_err-address-clause-met c =
    let found = found_of c.args.arguments.now in
    let address = sym (first_value-rows found (codes "address")) ∙ sym c.in_err-address.ensures in
    rw c.from_residual.ensures (sym (no_address (first_of (codes "address") (rows_of found)) (first_of (codes "count") (rows_of found)) _ address))

pub returns-in_err-get_str-clause-met : goal.returns-in_err-get_str-clause-met
returns-in_err-get_str-clause-met c =
    let found = found_of c.args.arguments.now in
    let text = sym (first_value-rows found (codes "count")) ∙ sym c.in_err-get_str.ensures in
    rw c.from_residual-in_err-get_str.ensures (sym (no_text (first_of (codes "address") (rows_of found)) (first_of (codes "count") (rows_of found)) _ text))

pub returns-in_err-count-clause-met : goal.returns-in_err-count-clause-met
returns-in_err-count-clause-met c =
    let found = found_of c.args.arguments.now in
    let text = sym (first_value-rows found (codes "count")) ∙ sym c.in_ok-get_str.ensures in
    rw c.from_residual-in_err-count.ensures (sym (no_count (first_of (codes "address") (rows_of found)) (first_of (codes "count") (rows_of found)) _ c.in_ok-get_str.field-0.now
    text (sym c.in_err-count.ensures)))

pub returns-in_err-budget-clause-met : goal.returns-in_err-budget-clause-met
returns-in_err-budget-clause-met c =
    let found = found_of c.args.arguments.now in
    let steps = sym (first_value-rows found (codes "steps")) ∙ sym c.get_str-3.ensures in
    let none = ap budget_of steps ∙ sym c.in_err-budget.ensures.steps in
    rw c.from_residual-in_err-budget.ensures (sym (no_budget (first_of (codes "address") (rows_of found)) (first_of (codes "count") (rows_of found)) _ none))

pub returns-clause-met : goal.returns-clause-met
returns-clause-met c =
    let found = found_of c.args.arguments.now in
    let address = sym (first_value-rows found (codes "address")) ∙ sym c.in_ok-address.ensures in
    let text = sym (first_value-rows found (codes "count")) ∙ sym c.in_ok-get_str.ensures in
    let steps = sym (first_value-rows found (codes "steps")) ∙ sym c.get_str-3.ensures in
    let many = ap budget_of steps ∙ sym c.in_ok-budget.ensures.steps in
    sym (all_found (first_of (codes "address") (rows_of found)) (first_of (codes "count") (rows_of found)) _ c.in_ok-address.address.now c.in_ok-get_str.field-0.now
    c.in_ok-count.count c.in_ok-budget.budget address text (sym c.in_ok-count.ensures) many)
