-- What clap makes of the words of one command.
use Rattle.std.specs.Prelude.{ℕ, Bool, true, false, ◌≡◌, ◌&&◌, List, [], ◌∷◌, ◌++◌, Some, None, fold, if◌then◌else◌}
use Rattle.std.proofs.Common.{refl, ap, ap₂, ◌∙◌}
use Rattle.std.specs.Option.{option_map_or}
use Rattle.std.specs.declared.option.Option.{Option}
use Rattle.clap.specs.Walk.{Held, Row, Rule, Text, Walk, arg_by_id, finished, has_row, idle, reacted, settled, used, used_by_id, walked, with_values, without}
use Rattle.clap.specs.Simple.{Shape, built_leaf, inherited}
use Rattle.clap.specs.Kinds.{Kinds, or_else}
use Rattle.clap.specs.Faults.{check_fault, defaults_fault, react_fault, repeat_fault, settle_fault, turn_fault, use_fault, walk_fault}
use Rattle.clap.specs.declared.builder.value_parser.Reading.TheVariants.{AsWritten}
use Rattle.clap.specs.declared.parser.matches.ValueSource.TheVariants.{CommandLine}
use Rattle.clap.specs.declared.error.kind.ErrorKind.{ErrorKind}
use Rattle.clap.specs.declared.error.kind.ErrorKind.TheVariants.{ArgumentConflict}
use Rattle.lie_app.specs.Words.{Values}
use Rattle.lie_app.specs.Interface.{interface}
use Rattle.lie_app.proofs.Rules.{placed_rule, option_rule}
use Rattle.lie_app.proofs.Rows.{found_rows, value_added}

-- what is read where no fault comes
abbrev pub unless : {X : Type 0} → Kinds → Option X → Option X
unless [] x = x
unless (k ∷ ks) x = None

-- a command as clap builds it
abbrev pub as_built : Shape → Shape
as_built s = built_leaf (inherited interface.top s)

-- where the walk stands: what is held, the place of the next argument, and whether the two dashes were met
abbrev pub stands : Held → ℕ → Bool → Walk
stands h k met = record { held = h; waiting = idle; position = k; is_trailing = met; stopped = None }

-- the faults behind the last word
abbrev pub end_fault : Shape → Held → Kinds
end_fault s end =
    or_else (settle_fault s.rules s.args_override_self end) (or_else (defaults_fault (settled s.rules end).rows s.rules) (check_fault s (finished s.rules end) false))

module _ {X : Type 0} (s : Shape) (read : List Row → Option X) where
  -- what is read of the words from where the walk stands
  abbrev pub read_from : Walk → List Text → Option X
  read_from w words =
      let end = (fold (walked s.rules []) w words).held in unless (or_else (walk_fault s [] w words) (end_fault s end)) (read (finished s.rules end))

  -- the same, with the faults of the words and where the walk ends
  abbrev read_at : Kinds → Walk → Option X
  read_at faults end = unless (or_else faults (end_fault s end.held)) (read (finished s.rules end.held))

  pub goes : (w after : Walk) (word : Text) (words : List Text) → turn_fault s [] w word ≡ [] → walked s.rules [] w word ≡ after → read_from w (word ∷ words) ≡ read_from after words
  unfolding walk_fault
  goes w after word words none next =
      ap₂ (λ (f : Kinds) (v : Walk). read_at (or_else f (walk_fault s [] v words)) (fold (walked s.rules []) v words)) none next

  pub stops : (w : Walk) (word : Text) (words : List Text) (k : ErrorKind) (ks : Kinds) → turn_fault s [] w word ≡ k ∷ ks → read_from w (word ∷ words) ≡ None
  unfolding walk_fault
  stops w word words k ks fault =
      ap (λ (f : Kinds). read_at (or_else f (walk_fault s [] (walked s.rules [] w word) words)) (fold (walked s.rules []) (walked s.rules [] w word) words)) fault

-- ---- what is held
-- the values that were found, the last of which may wait for its use
pub record Holds (rules : List Rule) (h : Held) (given : Values) : Type 0 where
  pub rows : (settled rules h).rows ≡ found_rows given
  pub clean : settle_fault rules false h ≡ []
  pub whole : h.skip ≡ 0

-- the use of what waits is refused
pub record IsFaulty (rules : List Rule) (h : Held) : Type 0 where
  pub kind : ErrorKind
  pub kinds : Kinds
  pub fault : settle_fault rules false h ≡ kind ∷ kinds
  pub whole : h.skip ≡ 0

-- with one more value that waits
abbrev pub waits : List Rule → Held → Text → Text → Held
waits rules h name text = record (settled rules h) { pending = Some (name, text ∷ []) }

-- the rule of an argument or an option: it takes one word, once
pub record TakesOne (a : Rule) (name : Text) : Type 0 where
  pub rows : (text : Text) (rows : List Row) → used a (text ∷ []) rows ≡ with_values name AsWritten CommandLine (text ∷ []) (without name rows)
  pub faults : (text : Text) (rows : List Row) → use_fault false a (text ∷ []) rows ≡ or_else (repeat_fault false name rows) []

pub argument_takes : (k : ℕ) (name : Text) → TakesOne (placed_rule k name) name
argument_takes k name = record { rows = λ text rows. refl; faults = λ text rows. refl }

pub option_takes : (name : Text) → TakesOne (option_rule name) name
option_takes name = record { rows = λ text rows. refl; faults = λ text rows. refl }

module _ (rules : List Rule) (h : Held) (given : Values) (holds : Holds rules h given) (a : Rule) (name text : Text) (takes : TakesOne a name) where
  use_is : (has : Bool) → has_row name (found_rows given) ≡ has
      → use_fault false a (text ∷ []) (settled rules h).rows ≡ (if has && true then ArgumentConflict ∷ [] else [])
  use_is has e = takes.faults text (settled rules h).rows ∙ ap (λ (b : Bool). or_else (if b && true then ArgumentConflict ∷ [] else []) []) (ap (has_row name) holds.rows ∙ e) ∙ either has
    where
      either : (b : Bool) → or_else (if b && true then ArgumentConflict ∷ [] else []) [] ≡ (if b && true then ArgumentConflict ∷ [] else [])
      either true = refl
      either false = refl

  module _ (found : arg_by_id rules name ≡ Some a) where
    waits_fault : settle_fault rules false (waits rules h name text) ≡ use_fault false a (text ∷ []) (settled rules h).rows
    waits_fault = ap (λ (o : Option Rule). option_map_or (λ b. use_fault false b (text ∷ []) (settled rules h).rows) o []) found

    pub waits_holds : has_row name (found_rows given) ≡ false → Holds rules (waits rules h name text) (given ++ (name, text) ∷ [])
    waits_holds new = record {
      rows = ap (λ (o : Option Rule). used_by_id o (text ∷ []) (settled rules h).rows) found
          ∙ (takes.rows text (settled rules h).rows ∙ value_added given name text (settled rules h).rows holds.rows new);
      clean = waits_fault ∙ use_is false new;
      whole = holds.whole;
    }

    pub waits_again : has_row name (found_rows given) ≡ true → IsFaulty rules (waits rules h name text)
    waits_again old = record { kind = ArgumentConflict; kinds = []; fault = waits_fault ∙ use_is true old; whole = holds.whole }

  -- the value stands in the word of its option
  pub reacted_holds : has_row name (found_rows given) ≡ false → Holds rules (reacted rules a (text ∷ []) h) (given ++ (name, text) ∷ [])
  reacted_holds new = record { rows = takes.rows text (settled rules h).rows ∙ value_added given name text (settled rules h).rows holds.rows new; clean = refl; whole = holds.whole }

  pub reacts_clean : has_row name (found_rows given) ≡ false → react_fault rules false a (text ∷ []) h ≡ []
  reacts_clean new = ap₂ or_else holds.clean (use_is false new)

  pub reacts_refused : has_row name (found_rows given) ≡ true → react_fault rules false a (text ∷ []) h ≡ ArgumentConflict ∷ []
  reacts_refused old = ap₂ or_else holds.clean (use_is true old)
