-- Each value is the one that was found for its argument or option.
use Rattle.std.specs.Prelude.{ℕ, ◌≢◌, Bool, true, false, List, find, if◌then◌else◌}
use Rattle.std.specs.Option.{option_map}
use Rattle.std.specs.Str.{bytes_eq}
use Rattle.std.specs.declared.option.Option.{Option}
use Rattle.std.proofs.lemmas.Slice.Eq.{bytes_eq-Decides}
use Rattle.std.proofs.Common.{refl, sym, ap, codes, ◌≡◌, ◌∙◌, Some, None}
use Rattle.clap.specs.Walk.{Row, Text, first_of}
use Rattle.clap.specs.Words.{found_of, rows_of}
use Rattle.clap.proofs.WalkLemmas.{first_value-rows}
use Rattle.lie_app.specs.Words.{AnyCommand, IsNoOtherWord, Lookup, Signature, budget_of, degree_in, other_signatures, ◌>>=◌}
use Rattle.lie_app.specs.Interface.{named_met}
use Rattle.lie_app.specs.declared.words.Command.TheVariants.{OnFile}
use Rattle.lie_work.specs.declared.command.FileCommand.TheVariants.{Determine, Check, Analyse, Degree}
use Rattle.lie_app.proofs.words.file_met.Goals as goal

first_made : (b : Bool) (s : Signature) (o : Option Signature) (value : Lookup) → s.made value ≡ None → (o >>= λ t. t.made value) ≡ None → ((if b then Some s else o) >>= λ t. t.made value) ≡ None
first_made true s o value here rest = here
first_made false s o value here rest = rest

-- a name that is no other's
other_name : (name word : Text) → (name ≢ word) → bytes_eq word name ≡ false
other_name name word differ = go (bytes_eq word name) refl
  where
    go : (b : Bool) → bytes_eq word name ≡ b → b ≡ false
    go true e = absurd (differ (sym ((bytes_eq-Decides word name).0 e)))
    go false e = refl

none_of : (b : Bool) (s : Signature) (o : Option AnyCommand) (rest : Option Signature) (value : Lookup) → b ≡ false → (rest >>= λ t. t.made value) ≡ o
    → ((if b then Some s else rest) >>= λ t. t.made value) ≡ o
none_of true s o rest value e h = absurd (cc)
none_of false s o rest value e h = h

no_other : (name : Text) (value : Lookup) → IsNoOtherWord name → (find (λ (s : Signature). bytes_eq s.name name) other_signatures >>= λ s. s.made value) ≡ None
no_other name value other =
    let is_word : Text → Bool = λ w. bytes_eq w name in
    none_of (is_word (codes "sample")) _ _ _ value (other_name name (codes "sample") other.4)
    (none_of (is_word (codes "serve")) _ _ _ value (other_name name (codes "serve") other.5)
    (none_of (is_word (codes "study")) _ _ _ value (other_name name (codes "study") other.0)
    (none_of (is_word (codes "list")) _ _ _ value (other_name name (codes "list") other.1)
    (none_of (is_word (codes "show")) _ _ _ value (other_name name (codes "show") other.2)
    (none_of (is_word (codes "drop")) _ _ _ value (other_name name (codes "drop") other.3) refl)))))

no_path : (name : Text) (rows : List Row) → IsNoOtherWord name → first_of (codes "path") rows ≡ None → named_met name rows ≡ None
no_path name rows other none =
    let value : Lookup = λ id. first_of id rows in
    let is_word : Text → Bool = λ w. bytes_eq w name in
    first_made (is_word (codes "determine")) _ _ value (rw none refl)
    (first_made (is_word (codes "check")) _ _ value (rw none refl)
    (first_made (is_word (codes "analyse")) _ _ value (rw none refl)
    (first_made (is_word (codes "degree")) _ _ value (rw none refl) (no_other name value other))))

no_command : (name : Text) (rows : List Row) → IsNoOtherWord name → (name ≢ codes "determine") → (name ≢ codes "check") → (name ≢ codes "analyse")
    → (name ≢ codes "degree") → None ≡ named_met name rows
no_command name rows other determine check analyse degree =
    let value : Lookup = λ id. first_of id rows in
    let is_word : Text → Bool = λ w. bytes_eq w name in
    sym (none_of (is_word (codes "determine")) _ _ _ value (other_name name (codes "determine") determine)
    (none_of (is_word (codes "check")) _ _ _ value (other_name name (codes "check") check)
    (none_of (is_word (codes "analyse")) _ _ _ value (other_name name (codes "analyse") analyse)
    (none_of (is_word (codes "degree")) _ _ _ value (other_name name (codes "degree") degree) (no_other name value other)))))

none_behind : {A B : Type 0} (o : Option A) → ◌≡◌ {A = Option B} (o >>= λ _. None) None
none_behind None = refl
none_behind (Some x) = refl

no_field : (rows : List Row) → first_of (codes "field") rows ≡ None → named_met (codes "check") rows ≡ None
no_field rows none = ap (λ (o : Option Text). first_of (codes "path") rows >>= λ path. option_map (λ field. OnFile path (Check field)) o) none ∙ none_behind (first_of (codes "path") rows)

no_budget : (rows : List Row) → budget_of (first_of (codes "steps") rows) ≡ None → named_met (codes "analyse") rows ≡ None
no_budget rows none = ap (λ (o : Option ℕ). first_of (codes "path") rows >>= λ path. option_map (λ n. OnFile path (Analyse n)) o) none ∙ none_behind (first_of (codes "path") rows)

determine_met : (rows : List Row) (path : Text) → first_of (codes "path") rows ≡ Some path → named_met (codes "determine") rows ≡ Some (OnFile path Determine)
determine_met rows path found = rw found refl

check_met : (rows : List Row) (path field : Text) → first_of (codes "path") rows ≡ Some path → first_of (codes "field") rows ≡ Some field
    → named_met (codes "check") rows ≡ Some (OnFile path (Check field))
check_met rows path field found other = rw (found, other) refl

analyse_met : (rows : List Row) (path : Text) (n : ℕ) → first_of (codes "path") rows ≡ Some path → budget_of (first_of (codes "steps") rows) ≡ Some n
    → named_met (codes "analyse") rows ≡ Some (OnFile path (Analyse n))
analyse_met rows path n found many =
    ap (λ (o : Option Text). o >>= λ path. option_map (λ n. OnFile path (Analyse n)) (budget_of (first_of (codes "steps") rows))) found ∙ ap (option_map (λ n. OnFile path (Analyse n))) many

no_degree : (rows : List Row) → first_of (codes "degree") rows ≡ None → named_met (codes "degree") rows ≡ None
no_degree rows none = ap (λ (o : Option Text). first_of (codes "path") rows >>= λ path. o >>= λ text. option_map (λ d. OnFile path (Degree d)) (degree_in text)) none ∙ none_behind (first_of (codes "path") rows)

high_degree : (rows : List Row) (text : Text) → first_of (codes "degree") rows ≡ Some text → degree_in text ≡ None → named_met (codes "degree") rows ≡ None
high_degree rows text found none =
    ap (λ (o : Option Text). first_of (codes "path") rows >>= λ path. o >>= λ text. option_map (λ d. OnFile path (Degree d)) (degree_in text)) found
    ∙ ap (λ (o : Option ℕ). first_of (codes "path") rows >>= λ path. option_map (λ d. OnFile path (Degree d)) o) none ∙ none_behind (first_of (codes "path") rows)

degree_met : (rows : List Row) (path text : Text) (d : ℕ) → first_of (codes "path") rows ≡ Some path → first_of (codes "degree") rows ≡ Some text → degree_in text ≡ Some d
    → named_met (codes "degree") rows ≡ Some (OnFile path (Degree d))
degree_met rows path text d found other low =
    ap (λ (o : Option Text). o >>= λ path. first_of (codes "degree") rows >>= λ text. option_map (λ d. OnFile path (Degree d)) (degree_in text)) found
    ∙ ap (λ (o : Option Text). o >>= λ text. option_map (λ d. OnFile path (Degree d)) (degree_in text)) other ∙ ap (option_map (λ d. OnFile path (Degree d))) low

pub returns-in_err-path-clause-met : goal.returns-in_err-path-clause-met
returns-in_err-path-clause-met c =
    let found = found_of c.args.arguments.now in
    rw c.from_residual.ensures (sym (no_path c.args.name.now (rows_of found) c.requires (sym (first_value-rows found (codes "path")) ∙ sym c.in_err-path.ensures)))

pub returns-in-determine-clause-met : goal.returns-in-determine-clause-met
returns-in-determine-clause-met c =
    let found = found_of c.args.arguments.now in
    rw c.in-determine.is (sym (determine_met (rows_of found) c.in_ok-path.path.now (sym (first_value-rows found (codes "path")) ∙ sym c.in_ok-path.ensures)))

pub returns-in_err-get_str-in-check-clause-met : goal.returns-in_err-get_str-in-check-clause-met
returns-in_err-get_str-in-check-clause-met c =
    let found = found_of c.args.arguments.now in
    rw (c.from_residual-in_err-get_str-in-check.ensures, c.in-check.is) (sym (no_field (rows_of found) (sym (first_value-rows found (codes "field")) ∙ sym c.in_err-get_str-in-check.ensures)))

pub returns-in_ok-get_str-in-check-clause-met : goal.returns-in_ok-get_str-in-check-clause-met
returns-in_ok-get_str-in-check-clause-met c =
    let found = found_of c.args.arguments.now in
    rw c.in-check.is (sym (check_met (rows_of found) c.in_ok-path.path.now c.in_ok-get_str-in-check.field-0.now
    (sym (first_value-rows found (codes "path")) ∙ sym c.in_ok-path.ensures) (sym (first_value-rows found (codes "field")) ∙ sym c.in_ok-get_str-in-check.ensures)))

pub returns-in_err-budget_of-in-analyse-clause-met : goal.returns-in_err-budget_of-in-analyse-clause-met
returns-in_err-budget_of-in-analyse-clause-met c =
    let found = found_of c.args.arguments.now in
    let steps = sym (first_value-rows found (codes "steps")) ∙ sym c.get_str-in-analyse.ensures in
    rw (c.from_residual-in_err-budget_of-in-analyse.ensures, c.in-analyse.is) (sym (no_budget (rows_of found) (ap budget_of steps ∙ sym c.in_err-budget_of-in-analyse.ensures.steps)))

pub returns-in_ok-budget_of-in-analyse-clause-met : goal.returns-in_ok-budget_of-in-analyse-clause-met
returns-in_ok-budget_of-in-analyse-clause-met c =
    let found = found_of c.args.arguments.now in
    let steps = sym (first_value-rows found (codes "steps")) ∙ sym c.get_str-in-analyse.ensures in
    rw c.in-analyse.is (sym (analyse_met (rows_of found) c.in_ok-path.path.now c.in_ok-budget_of-in-analyse.field-0 (sym (first_value-rows found (codes "path")) ∙ sym c.in_ok-path.ensures)
    (ap budget_of steps ∙ sym c.in_ok-budget_of-in-analyse.ensures.steps)))

pub returns-in_err-text-in-degree-clause-met : goal.returns-in_err-text-in-degree-clause-met
returns-in_err-text-in-degree-clause-met c =
    let found = found_of c.args.arguments.now in
    rw (c.from_residual-in_err-text-in-degree.ensures, c.in-degree.is) (sym (no_degree (rows_of found) (sym (first_value-rows found (codes "degree")) ∙ sym c.in_err-text-in-degree.ensures)))

pub returns-in_err-degree_in-in-degree-clause-met : goal.returns-in_err-degree_in-in-degree-clause-met
returns-in_err-degree_in-in-degree-clause-met c =
    let found = found_of c.args.arguments.now in
    rw (c.from_residual-in_err-degree_in-in-degree.ensures, c.in-degree.is) (sym (high_degree (rows_of found) c.in_ok-text-in-degree.text.now
    (sym (first_value-rows found (codes "degree")) ∙ sym c.in_ok-text-in-degree.ensures) (sym c.in_err-degree_in-in-degree.ensures.degree)))

pub returns-in_ok-degree_in-in-degree-clause-met : goal.returns-in_ok-degree_in-in-degree-clause-met
returns-in_ok-degree_in-in-degree-clause-met c =
    let found = found_of c.args.arguments.now in
    rw c.in-degree.is (sym (degree_met (rows_of found) c.in_ok-path.path.now c.in_ok-text-in-degree.text.now c.in_ok-degree_in-in-degree.field-0
    (sym (first_value-rows found (codes "path")) ∙ sym c.in_ok-path.ensures) (sym (first_value-rows found (codes "degree")) ∙ sym c.in_ok-text-in-degree.ensures)
    (sym c.in_ok-degree_in-in-degree.ensures.degree)))

pub returns-in_default-clause-met : goal.returns-in_default-clause-met
returns-in_default-clause-met c =
    let found = found_of c.args.arguments.now in
    no_command c.args.name.now (rows_of found) c.requires c.in_default.not-determine c.in_default.not-check c.in_default.not-analyse c.in_default.not-degree
