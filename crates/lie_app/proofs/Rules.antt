-- The rules that clap has of the arguments and options of a command, and what it finds among them.
use Rattle.std.specs.Prelude.{ℕ, Bool, true, false, ◌≡◌, ◌+◌, ◌||◌, ◌&&◌, List, [], ◌∷◌, ◌++◌, map, min, Some, None, fold, not, if◌then◌else◌}
use Rattle.std.proofs.Common.{refl, ap, ap₂, ◌∙◌}
use Rattle.std.specs.List.{list_any}
use Rattle.std.specs.Str.{bytes_eq}
use Rattle.std.specs.declared.option.Option.{Option}
use Rattle.std.proofs.Math.Bool.{or-false}
use Rattle.std.proofs.lemmas.Slice.Eq.{bytes_eq-Decides}
use Rattle.clap.specs.Lexer.{usize_max}
use Rattle.clap.specs.Walk.{Row, Rule, Text, arg_by_id, arg_by_long, arg_by_short, has_row, with_default}
use Rattle.clap.specs.Simple.{filled, filled_from, with_index}
use Rattle.clap.specs.Kinds.{Kinds, or_else}
use Rattle.clap.specs.Faults.{defaults_fault}
use Rattle.clap.specs.Takes.{is_given}
use Rattle.lie_app.specs.Words.{is_among}
use Rattle.lie_app.specs.Interface.{argument, option}

-- the rules of arguments from this place on, and of options
abbrev pub rules_from : ℕ → List Text → List Text → List Rule
rules_from k arguments options = filled_from k (map argument arguments ++ map option options)

-- the rule of the argument at this place, and that of an option
abbrev pub placed_rule : ℕ → Text → Rule
placed_rule k name = with_index k (filled (argument name))

abbrev pub option_rule : Text → Rule
option_rule name = with_index 0 (filled (option name))

abbrev pub next_place : ℕ → ℕ
next_place k = min (k + 1) usize_max

-- ---- what is found by a name
rule_first : (b : Bool) (name n : Text) (o : Option Rule) (has : Bool) → bytes_eq n name ≡ b → (has ≡ true → o ≡ Some (option_rule name)) → (b || has) ≡ true
    → (if b then Some (option_rule n) else o) ≡ Some (option_rule name)
rule_first true name n o has e rest h = ap (λ m. Some (option_rule m)) ((bytes_eq-Decides n name).0 e)
rule_first false name n o has e rest h = rest h

pub option_by_long : (k : ℕ) (arguments options : List Text) (name : Text) → is_among name options ≡ true → arg_by_long (rules_from k arguments options) name ≡ Some (option_rule name)
option_by_long k [] [] name h = absurd (cc)
option_by_long k [] (o ∷ rest) name h =
    ap (λ (b : Bool). if b then Some (option_rule o) else arg_by_long (rules_from k [] rest) name) (or-false (bytes_eq o name))
    ∙ rule_first (bytes_eq o name) name o _ (is_among name rest) refl (option_by_long k [] rest name) h
option_by_long k (a ∷ rest) options name h = option_by_long (next_place k) rest options name h

none_first : (b : Bool) (n : Text) (o : Option Rule) (has : Bool) → (has ≡ false → o ≡ None) → (b || has) ≡ false → (if b || false then Some (option_rule n) else o) ≡ None
none_first true n o has rest h = absurd (cc)
none_first false n o has rest h = rest h

pub no_long : (k : ℕ) (arguments options : List Text) (name : Text) → is_among name options ≡ false → arg_by_long (rules_from k arguments options) name ≡ None
no_long k [] [] name h = refl
no_long k [] (o ∷ rest) name h = none_first (bytes_eq o name) o _ (is_among name rest) (no_long k [] rest name) h
no_long k (a ∷ rest) options name h = no_long (next_place k) rest options name h

argument_first : (b : Bool) (a : Rule) (o : Option Rule) (has : Bool) (name : Text) → (has ≡ false → o ≡ Some (option_rule name)) → (b || has) ≡ false → (if b then Some a else o) ≡ Some (option_rule name)
argument_first true a o has name rest h = absurd (cc)
argument_first false a o has name rest h = rest h

-- the name is none of the arguments'
pub option_by_id : (k : ℕ) (arguments options : List Text) (name : Text) → is_among name arguments ≡ false → is_among name options ≡ true
    → arg_by_id (rules_from k arguments options) name ≡ Some (option_rule name)
option_by_id k [] [] name apart h = absurd (cc)
option_by_id k [] (o ∷ rest) name apart h = rule_first (bytes_eq o name) name o _ (is_among name rest) refl (option_by_id k [] rest name apart) h
option_by_id k (a ∷ rest) options name apart h =
    argument_first (bytes_eq a name) (placed_rule k a) _ (is_among name rest) name (λ e. option_by_id (next_place k) rest options name e h) apart

pub no_short : (k : ℕ) (arguments options : List Text) (c : ℕ) → arg_by_short (rules_from k arguments options) c ≡ None
no_short k [] [] c = refl
no_short k [] (o ∷ rest) c = no_short k [] rest c
no_short k (a ∷ rest) options c = no_short (next_place k) rest options c

-- ---- defaults: there are none
no_default : (has : Bool) (f : Kinds) → (if has || true then [] else f) ≡ []
no_default true f = refl
no_default false f = refl

same_rows : (has : Bool) (rows : List Row) → (if has then rows else rows) ≡ rows
same_rows true rows = refl
same_rows false rows = refl

pub no_defaults : (k : ℕ) (arguments options : List Text) (rows : List Row) → defaults_fault rows (rules_from k arguments options) ≡ []
unfolding defaults_fault
no_defaults k [] [] rows = refl
no_defaults k [] (o ∷ rest) rows =
    ap₂ (λ (f : Kinds) (r : List Row). or_else f (defaults_fault r (rules_from k [] rest))) (no_default (has_row o rows) _) (same_rows (has_row o rows) rows) ∙ no_defaults k [] rest rows
no_defaults k (a ∷ rest) options rows =
    ap₂ (λ (f : Kinds) (r : List Row). or_else f (defaults_fault r (rules_from (next_place k) rest options))) (no_default (has_row a rows) _) (same_rows (has_row a rows) rows)
    ∙ no_defaults (next_place k) rest options rows

pub still_rows : (k : ℕ) (arguments options : List Text) (rows : List Row) → fold with_default rows (rules_from k arguments options) ≡ rows
still_rows k [] [] rows = refl
still_rows k [] (o ∷ rest) rows = ap (λ (r : List Row). fold with_default r (rules_from k [] rest)) (same_rows (has_row o rows) rows) ∙ still_rows k [] rest rows
still_rows k (a ∷ rest) options rows =
    ap (λ (r : List Row). fold with_default r (rules_from (next_place k) rest options)) (same_rows (has_row a rows) rows) ∙ still_rows (next_place k) rest options rows

-- ---- what is required
pub required_missing : (k : ℕ) (arguments options : List Text) (rows : List Row)
    → list_any (λ (a : Rule). a.required && not (is_given a.id rows)) (rules_from k arguments options) ≡ list_any (λ a. not (is_given a rows)) arguments
required_missing k [] [] rows = refl
required_missing k [] (o ∷ rest) rows = required_missing k [] rest rows
required_missing k (a ∷ rest) options rows = ap (λ (b : Bool). not (is_given a rows) || b) (required_missing (next_place k) rest options rows)
