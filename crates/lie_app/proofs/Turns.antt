-- What clap makes of one more word of a command.
use Rattle.std.specs.Prelude.{ℕ, Bool, true, false, ◌≡◌, List, [], ◌∷◌, codes, Some, None, nat_lt, if◌then◌else◌}
use Rattle.std.proofs.Common.{refl, sym, ap, ap₂, ◌∙◌}
use Rattle.std.specs.Option.{option_map_or}
use Rattle.std.specs.Str.{IsUtf8, bytes_eq}
use Rattle.std.specs.declared.option.Option.{Option}
use Rattle.std.proofs.Math.Bool.{and-false, or-false}
use Rattle.std.proofs.lemmas.Slice.Eq.{bytes_eq-Decides}
use Rattle.clap.specs.Lexer.{long_of}
use Rattle.clap.specs.Walk.{Held, Row, Rule, Step, Text, Waiting, Walk, after_flag, after_step, arg_by_id, arg_by_index, arg_by_long, idle, is_pending, long_met, long_or_other, next, option as awaits, option_met, option_word, positional, pushed, reacted, settled, subcommand_met, subcommand_or_other, to_positional, trailing, value, walked, word_met}
use Rattle.clap.specs.Simple.{Shape}
use Rattle.clap.specs.Kinds.{Kinds, or_else}
use Rattle.clap.specs.Faults.{flag_word_fault, long_fault, option_fault, other_fault, positional_fault, react_fault, settle_fault, step_fault, turn_fault, use_fault, walk_fault, word_fault}
use Rattle.clap.specs.declared.error.kind.ErrorKind.{ErrorKind}
use Rattle.clap.specs.declared.error.kind.ErrorKind.TheVariants.{InvalidValue, UnknownArgument}
use Rattle.lie_app.specs.Words.{is_among, is_dashed, option_in}
use Rattle.lie_app.specs.Interface.{subcommand}
use Rattle.lie_app.proofs.Dashes.{is_no_flag, long_is, refuses_dashed}
use Rattle.lie_app.proofs.Rules.{rules_from, placed_rule, option_rule, next_place, option_by_long, no_long, no_short}
use Rattle.lie_app.proofs.Walks.{IsFaulty, as_built, goes, read_from, stands, stops, waits}

module _ {X : Type 0} (title : Text) (arguments options : List Text) (read : List Row → Option X) where
  abbrev shape : Shape
  shape = as_built (subcommand title arguments options)

  abbrev rules : List Rule
  rules = rules_from 1 arguments options

  abbrev from : Walk → List Text → Option X
  from = read_from shape read

  -- where the walk stands, with what the next word is awaited for
  abbrev pub awaiting : Held → Waiting → ℕ → Bool → Walk
  awaiting h w k met = record { held = h; waiting = w; position = k; is_trailing = met; stopped = None }

  -- ---- a word that goes to the argument at its place
  pub record IsTaken (h : Held) (k : ℕ) (met : Bool) (word : Text) : Type 0 where
    pub step : word_met rules [] met idle k word h ≡ (h, value)
    pub fault : word_fault shape [] met idle word h ≡ []

  pub behind_dashes : (h : Held) (k : ℕ) (word : Text) → IsTaken h k true word
  behind_dashes h k word = record { step = refl; fault = refl }

  pub before_dashes : (h : Held) (k : ℕ) (word : Text) → bytes_eq word (codes "--") ≡ false → is_dashed word ≡ false → IsTaken h k false word
  before_dashes h k word other plain =
      let flag = is_no_flag word plain in
      record { step = rw (other, flag.0, flag.1) refl; fault = rw (other, flag.0, flag.1) refl }

  turn_taken : (h : Held) (k : ℕ) (met : Bool) (word : Text) → IsTaken h k met word → turn_fault shape [] (stands h k met) word ≡ step_fault shape k h value
  turn_taken h k met word taken = ap₂ (λ (f : Kinds) (m : Held × Step). or_else f (step_fault shape k m.0 m.1)) taken.fault taken.step

  walk_taken : (h : Held) (k : ℕ) (met : Bool) (word : Text) → IsTaken h k met word
      → walked rules [] (stands h k met) word ≡ to_positional rules (arg_by_index rules k) word (stands h k met) h
  unfolding walked
  walk_taken h k met word taken = ap (λ (m : Held × Step). after_step rules word (stands h k met) m.0 m.1) taken.step

  module _ (h : Held) (k : ℕ) (met : Bool) (word : Text) (words : List Text) (taken : IsTaken h k met word) where
    place_fault : (o : Option Rule) → arg_by_index rules k ≡ o
        → turn_fault shape [] (stands h k met) word ≡ option_map_or (λ (a : Rule). positional_fault rules false a h) o (UnknownArgument ∷ [])
    place_fault o found = turn_taken h k met word taken ∙ ap (λ (p : Option Rule). option_map_or (λ a. positional_fault rules false a h) p (UnknownArgument ∷ [])) found

    alone : (a : Text) → positional_fault rules false (placed_rule k a) h ≡ settle_fault rules false h
    alone a = ap (λ (b : Bool). if b then [] else settle_fault rules false h) (and-false (is_pending (placed_rule k a) h.pending))

    pub placed_read : (a : Text) → arg_by_index rules k ≡ Some (placed_rule k a) → settle_fault rules false h ≡ []
        → from (stands h k met) (word ∷ words) ≡ from (stands (waits rules h a word) (next_place k) met) words
    placed_read a found clean =
        goes shape read (stands h k met) (stands (waits rules h a word) (next_place k) met) word words (place_fault (Some (placed_rule k a)) found ∙ (alone a ∙ clean))
        (walk_taken h k met word taken ∙ (ap (λ (o : Option Rule). to_positional rules o word (stands h k met) h) found
        ∙ ap₂ (λ (g : Held) (b : Bool). stands (pushed a word g) (next_place k) b)
        (ap (λ (b : Bool). if b then h else settled rules h) (and-false (is_pending (placed_rule k a) h.pending))) (or-false met)))

    pub stray_read : arg_by_index rules k ≡ None → from (stands h k met) (word ∷ words) ≡ None
    stray_read found = stops shape read (stands h k met) word words UnknownArgument [] (place_fault None found)

    pub faulty_placed : (a : Text) → arg_by_index rules k ≡ Some (placed_rule k a) → IsFaulty rules h → from (stands h k met) (word ∷ words) ≡ None
    faulty_placed a found faulty = stops shape read (stands h k met) word words faulty.kind faulty.kinds (place_fault (Some (placed_rule k a)) found ∙ (alone a ∙ faulty.fault))

  -- ---- a word with a dash in front
  no_subcommand : (w : Waiting) (word : Text) → subcommand_met [] w word ≡ None
  no_subcommand idle word = refl
  no_subcommand (awaits name) word = refl
  no_subcommand positional word = refl

  refused_word : (h : Held) (w : Waiting) (k : ℕ) (word : Text) (words : List Text) (f : ErrorKind) (fs : Kinds) → word_fault shape [] false w word h ≡ f ∷ fs
      → from (awaiting h w k false) (word ∷ words) ≡ None
  refused_word h w k word words f fs is =
      let met = word_met rules [] false w k word h in
      stops shape read (awaiting h w k false) word words f fs (ap (λ (g : Kinds). or_else g (step_fault shape k met.0 met.1)) is)

  module _ (h : Held) (w : Waiting) (word : Text) (other : bytes_eq word (codes "--") ≡ false) where
    fault_is : (o : Option (Text × Option Text)) → option_in word ≡ o → word_fault shape [] false w word h ≡ flag_word_fault rules false o word h
    fault_is o named =
        ap (λ (p : Option Text). other_fault shape p word h) (no_subcommand w word)
        ∙ (ap (λ (b : Bool). if b then [] else flag_word_fault rules false (long_of word) word h) other ∙ ap (λ (p : Option (Text × Option Text)). flag_word_fault rules false p word h) (long_is word other ∙ named))

    met_is : (k : ℕ) (o : Option (Text × Option Text)) → option_in word ≡ o → word_met rules [] false w k word h ≡ long_or_other rules w word o h
    met_is k o named =
        ap (λ (p : Option Text). subcommand_or_other rules p w k word h) (no_subcommand w word)
        ∙ (ap (λ (b : Bool). if b then (h, trailing k) else long_or_other rules w word (long_of word) h) other
        ∙ ap (λ (p : Option (Text × Option Text)). long_or_other rules w word p h) (long_is word other ∙ named))

    long_fault_is : (name : Text) (v : Option Text) → option_in word ≡ Some (name, v) → (o : Option Rule) → arg_by_long rules name ≡ o
        → word_fault shape [] false w word h ≡ long_fault rules false o v h
    long_fault_is name v named o found = fault_is (Some (name, v)) named ∙ ap (λ (p : Option Rule). long_fault rules false p v h) found

    -- a word that names no option of the command is refused
    pub unnamed_read : (k : ℕ) (words : List Text) → IsUtf8 word → is_dashed word ≡ true → option_in word ≡ None → h.skip ≡ 0 → from (awaiting h w k false) (word ∷ words) ≡ None
    unnamed_read k words text dashed none whole =
        refused_word h w k word words UnknownArgument []
        (fault_is None none ∙ (ap (λ (p : Option (Text × Option Text)). flag_word_fault rules false p word h) (sym (long_is word other ∙ none))
        ∙ refuses_dashed rules false (no_short 1 arguments options) h whole word text dashed none))

    pub unknown_read : (k : ℕ) (words : List Text) (name : Text) (v : Option Text) → option_in word ≡ Some (name, v) → is_among name options ≡ false
        → from (awaiting h w k false) (word ∷ words) ≡ None
    unknown_read k words name v named unknown =
        refused_word h w k word words UnknownArgument [] (long_fault_is name v named None (no_long 1 arguments options name unknown))

    option_fault_is : (name : Text) (v : Option Text) → option_in word ≡ Some (name, v) → is_among name options ≡ true
        → word_fault shape [] false w word h ≡ option_fault rules false (option_rule name) v h
    option_fault_is name v named is = long_fault_is name v named (Some (option_rule name)) (option_by_long 1 arguments options name is)

    option_met_is : (k : ℕ) (name : Text) (v : Option Text) → option_in word ≡ Some (name, v) → is_among name options ≡ true
        → word_met rules [] false w k word h ≡ after_flag rules w word (option_met rules (option_rule name) v h).0 (option_met rules (option_rule name) v h).1
    option_met_is k name v named is =
        met_is k (Some (name, v)) named
        ∙ ap (λ (p : Option Rule). after_flag rules w word (long_met rules p v h).0 (long_met rules p v h).1) (option_by_long 1 arguments options name is)

    -- an option is refused where what waits is
    faulty_option : (k : ℕ) (words : List Text) (name : Text) (v : Option Text) → option_in word ≡ Some (name, v) → is_among name options ≡ true → IsFaulty rules h
        → from (awaiting h w k false) (word ∷ words) ≡ None
    faulty_option k words name None named is faulty = refused_word h w k word words faulty.kind faulty.kinds (option_fault_is name None named is ∙ faulty.fault)
    faulty_option k words name (Some v) named is faulty =
        refused_word h w k word words faulty.kind faulty.kinds
        (option_fault_is name (Some v) named is ∙ ap (λ (f : Kinds). or_else f (use_fault false (option_rule name) (v ∷ []) (settled rules h).rows)) faulty.fault)

    pub faulty_dashed : (k : ℕ) (words : List Text) → IsUtf8 word → is_dashed word ≡ true → IsFaulty rules h → from (awaiting h w k false) (word ∷ words) ≡ None
    faulty_dashed k words text dashed faulty = by_name (option_in word) refl
      where
        by_options : (t : Bool) (name : Text) (v : Option Text) → option_in word ≡ Some (name, v) → is_among name options ≡ t → from (awaiting h w k false) (word ∷ words) ≡ None
        by_options true name v named is = faulty_option k words name v named is faulty
        by_options false name v named is = unknown_read k words name v named is

        by_name : (o : Option (Text × Option Text)) → option_in word ≡ o → from (awaiting h w k false) (word ∷ words) ≡ None
        by_name None none = unnamed_read k words text dashed none faulty.whole
        by_name (Some p) named = by_options (is_among p.0 options) p.0 p.1 named refl

  -- ---- an option of the command
  -- the option waits for its value
  abbrev pub opened : Held → Text → Held
  opened h name = record (settled rules h) { pending = Some (name, []) }

  module _ (h : Held) (k : ℕ) (word : Text) (words : List Text) (other : bytes_eq word (codes "--") ≡ false) (name : Text) (is : is_among name options ≡ true) where
    steps : (g : Held) (w : Waiting) → word_fault shape [] false idle word h ≡ [] → word_met rules [] false idle k word h ≡ (g, next w)
        → from (stands h k false) (word ∷ words) ≡ from (awaiting g w k false) words
    unfolding walked
    steps g w none met =
        goes shape read (stands h k false) (awaiting g w k false) word words (ap₂ (λ (f : Kinds) (m : Held × Step). or_else f (step_fault shape k m.0 m.1)) none met)
        (ap (λ (m : Held × Step). after_step rules word (stands h k false) m.0 m.1) met)

    pub attached_read : (v : Text) → option_in word ≡ Some (name, Some v) → react_fault rules false (option_rule name) (v ∷ []) h ≡ []
        → from (stands h k false) (word ∷ words) ≡ from (stands (reacted rules (option_rule name) (v ∷ []) h) k false) words
    attached_read v named clean =
        steps (reacted rules (option_rule name) (v ∷ []) h) idle (option_fault_is h idle word other name (Some v) named is ∙ clean) (option_met_is h idle word other k name (Some v) named is)

    pub attached_refused : (v : Text) (f : ErrorKind) (fs : Kinds) → option_in word ≡ Some (name, Some v) → react_fault rules false (option_rule name) (v ∷ []) h ≡ f ∷ fs
        → from (stands h k false) (word ∷ words) ≡ None
    attached_refused v f fs named refused = refused_word h idle k word words f fs (option_fault_is h idle word other name (Some v) named is ∙ refused)

    pub opened_read : option_in word ≡ Some (name, None) → settle_fault rules false h ≡ [] → from (stands h k false) (word ∷ words) ≡ from (awaiting (opened h name) (awaits name) k false) words
    opened_read named clean = steps (opened h name) (awaits name) (option_fault_is h idle word other name None named is ∙ clean) (option_met_is h idle word other k name None named is)

  -- ---- the word behind it
  pub opened_faulty : (h : Held) (name : Text) → arg_by_id rules name ≡ Some (option_rule name) → h.skip ≡ 0 → IsFaulty rules (opened h name)
  opened_faulty h name found whole = record {
    kind = InvalidValue;
    kinds = [];
    fault = ap (λ (o : Option Rule). option_map_or (λ (a : Rule). use_fault false a [] (settled rules h).rows) o []) found;
    whole = whole;
  }

  pub value_read : (h : Held) (k : ℕ) (word : Text) (words : List Text) (name : Text) → is_dashed word ≡ false → bytes_eq word (codes "--") ≡ false → arg_by_id rules name ≡ Some (option_rule name)
      → from (awaiting (opened h name) (awaits name) k false) (word ∷ words) ≡ from (stands (waits rules h name word) k false) words
  unfolding walked
  value_read h k word words name plain other found =
      let flag = is_no_flag word plain in
      let g = opened h name in
      let same : bytes_eq name name ≡ true = (bytes_eq-Decides name name).1 refl in
      let none : word_fault shape [] false (awaits name) word g ≡ [] = rw (other, flag.0, flag.1) refl in
      let met : word_met rules [] false (awaits name) k word g ≡ (waits rules h name word, next idle) =
      rw (other, flag.0, flag.1) (ap (λ (o : Option Rule). ((option_word o name word g).0, next (option_word o name word g).1)) found
      ∙ ap (λ (b : Bool). (waits rules h name word, next (if nat_lt (if b then 1 else 0) 1 then awaits name else idle))) same) in
      goes shape read (awaiting g (awaits name) k false) (stands (waits rules h name word) k false) word words (ap₂ (λ (f : Kinds) (m : Held × Step). or_else f (step_fault shape k m.0 m.1)) none met)
      (ap (λ (m : Held × Step). after_step rules word (awaiting g (awaits name) k false) m.0 m.1) met)

  -- ---- the two dashes
  pub dashes_read : (h : Held) (w : Waiting) (k : ℕ) (word : Text) (words : List Text) → bytes_eq word (codes "--") ≡ true
      → from (awaiting h w k false) (word ∷ words) ≡ from (awaiting h w k true) words
  unfolding walked
  dashes_read h w k word words dashes =
      goes shape read (awaiting h w k false) (awaiting h w k true) word words (rw (no_subcommand w word, dashes) refl) (rw (no_subcommand w word, dashes) refl)

  -- what waits is refused behind them, as at the end of the words
  pub faulty_end : (h : Held) (w : Waiting) (k : ℕ) (met : Bool) → IsFaulty rules h → from (awaiting h w k met) [] ≡ None
  unfolding walk_fault
  faulty_end h w k met faulty = rw faulty.fault refl

  pub faulty_behind : (h : Held) (w : Waiting) (k : ℕ) (word : Text) (words : List Text) (a : Text) → arg_by_index rules k ≡ Some (placed_rule k a) → IsFaulty rules h
      → from (awaiting h w k true) (word ∷ words) ≡ None
  faulty_behind h w k word words a found faulty =
      stops shape read (awaiting h w k true) word words faulty.kind faulty.kinds
      (ap (λ (p : Option Rule). option_map_or (λ b. positional_fault rules false b h) p (UnknownArgument ∷ [])) found
      ∙ (ap (λ (b : Bool). if b then [] else settle_fault rules false h) (and-false (is_pending (placed_rule k a) h.pending)) ∙ faulty.fault))

  pub stray_behind : (h : Held) (w : Waiting) (k : ℕ) (word : Text) (words : List Text) → arg_by_index rules k ≡ None → from (awaiting h w k true) (word ∷ words) ≡ None
  stray_behind h w k word words found =
      stops shape read (awaiting h w k true) word words UnknownArgument [] (ap (λ (p : Option Rule). option_map_or (λ b. positional_fault rules false b h) p (UnknownArgument ∷ [])) found)
