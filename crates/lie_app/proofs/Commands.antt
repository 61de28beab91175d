-- What clap makes of a command line is the command that its words are.
use Rattle.std.specs.Prelude.{Bool, true, false, ◌≡◌, ◌||◌, List, [], ◌∷◌, codes, map, find, Some, None, fold, is_some, if◌then◌else◌}
use Rattle.std.proofs.Common.{refl, sym, ap, ap₂, ◌∙◌, subst, inl, inr}
use Rattle.std.specs.List.{AllByRecursion as Every}
use Rattle.std.specs.Option.{option_map, option_map_or}
use Rattle.std.specs.Str.{IsUtf8, bytes_eq}
use Rattle.std.specs.String.{string_bytes}
use Rattle.std.specs.declared.string.String.{String}
use Rattle.std.specs.declared.option.Option.{Option}
use Rattle.std.specs.declared.alloc.Global.{Global}
use Rattle.std.proofs.Math.Bool.{and-false}
use Rattle.std.proofs.lemmas.Slice.Eq.{bytes_eq-Decides}
use Rattle.std.proofs.lemmas.Str.{IsUtf8-string_bytes}
use Rattle.clap.specs.Lexer.{long_of}
use Rattle.clap.specs.Walk.{Held, Row, Step, Text, Walk, after_step, answers_to, finished, first_of, idle, nothing_held, settled, subcommand_met, subcommand_or_other, value, walk_from, walked, word_met}
use Rattle.clap.specs.Simple.{App, Shape, built, entered, is_simple, label_of, names_of, rows_at, subcommand_of as subcommand_in}
use Rattle.clap.specs.Kinds.{HasKind, IsAmong, Kinds, or_else}
use Rattle.clap.specs.Faults.{check_fault, defaults_fault, entered_fault, fault_of, flag_word_fault, is_simple_and_free, level_fault, other_fault, settle_fault, step_fault, turn_fault, walk_fault, word_fault}
use Rattle.clap.specs.declared.error.kind.ErrorKind.{ErrorKind}
use Rattle.clap.specs.declared.error.kind.ErrorKind.TheVariants.{DisplayHelp, InvalidSubcommand, OutOfMemory, UnknownArgument}
use Rattle.clap.specs.declared.error.Error.{Error}
use Rattle.clap.specs.Values.{kind_of}
use Rattle.clap.proofs.FaultLemmas.{stopped_fault}
use Rattle.clap.proofs.WalkLemmas.{walk_stopped}
use Rattle.clap.proofs.OnLiterals.{clap_on_literals}
use mathlib.Core.Path.{fun_ext}
use Rattle.lie_app.specs.Words.{AnyCommand, Signature, Values, command_of, is_dashed, option_in, signature_of, signatures, texts, value_of, values, ◌>>=◌}
use Rattle.lie_app.specs.Interface.{command_met, interface, named_met, subcommand_of}
use Rattle.lie_app.proofs.Dashes.{is_no_flag, long_is, refuses_dashed}
use Rattle.lie_app.proofs.Rows.{first_found, found_rows}
use Rattle.lie_app.proofs.Walks.{as_built, read_from, stands, unless}
use Rattle.lie_app.proofs.Readings.{Ahead, values_read}

-- ---- one command
-- what clap reads of the words of a command
abbrev read_by : Text → Signature → List Text → Option AnyCommand
read_by name s = read_from (as_built (subcommand_of s)) (named_met name) (stands nothing_held 1 false)

command_read : (name : Text) (s : Signature) → signature_of name ≡ Some s → Ahead s.name s.arguments s.options (named_met name) 1 s.arguments → (ws : List (String Global))
    → read_by name s (texts ws) ≡ (values s.arguments s.options (texts ws) >>= λ given. s.made (value_of given))
command_read name s is places ws =
    values_read s.name s.arguments s.options (named_met name) places ws ∙ each (values s.arguments s.options (texts ws))
  where
    each : (o : Option Values) → (o >>= λ given. named_met name (found_rows given)) ≡ (o >>= λ given. s.made (value_of given))
    each None = refl
    each (Some given) =
        ap (λ (o : Option Signature). o >>= λ t. t.made (λ id. first_of id (found_rows given))) is ∙ ap s.made (fun_ext (first_found given))

-- each command's arguments have places, and names of their own
abbrev HasPlaces : Signature → Type 0
HasPlaces s = (read : List Row → Option AnyCommand) → Ahead s.name s.arguments s.options read 1 s.arguments

all_have_places : Every HasPlaces signatures
all_have_places = (
  λ read. (refl, refl, tt, refl, refl),
  (
    λ read. (refl, refl, (refl, tt), refl, (refl, refl, tt, refl, refl)),
    (
      λ read. (refl, refl, tt, refl, refl),
      (
        λ read. (refl, refl, (refl, tt), refl, (refl, refl, tt, refl, refl)),
        (
          λ read. (refl, refl, tt, refl, refl),
          (
            λ read. (refl, refl, tt, refl, refl),
            (
              λ read. (refl, refl, (refl, tt), refl, (refl, refl, tt, refl, refl)),
              (λ read. refl, (λ read. (refl, refl, tt, refl, refl), (λ read. (refl, refl, tt, refl, refl), tt))),
            ),
          ),
        ),
      ),
    ),
  ),
)

-- ---- the first word
abbrev whole : App
whole = built interface

found_passes : {A : Type 0} (p : A → Bool) (xs : List A) (x : A) → find p xs ≡ Some x → p x ≡ true
found_passes p [] x found = absurd (cc)
found_passes p (y ∷ ys) x found = go (p y) refl found (found_passes p ys x)
  where
    go : (b : Bool) → p y ≡ b → (if b then Some y else find p ys) ≡ Some x → (find p ys ≡ Some x → p x ≡ true) → p x ≡ true
    go true e is rest = let same : y ≡ x = cc in ap p (sym same) ∙ e
    go false e is rest = rest is

name_first : (b : Bool) (s : Signature) (o : Option (Text × List Text)) (r : Option Signature) → option_map (λ (p : Text × List Text). p.0) o ≡ option_map (λ (t : Signature). t.name) r
    → option_map (λ (p : Text × List Text). p.0) (if b || false then Some (s.name, []) else o) ≡ option_map (λ (t : Signature). t.name) (if b then Some s else r)
name_first true s o r e = refl
name_first false s o r e = e

names_found : (sigs : List Signature) (word : Text)
    → option_map (λ (p : Text × List Text). p.0) (find (answers_to word) (map (λ s. (s.name, [])) sigs)) ≡ option_map (λ (s : Signature). s.name) (find (λ s. bytes_eq s.name word) sigs)
names_found [] word = refl
names_found (s ∷ sigs) word = name_first (bytes_eq s.name word) s (find (answers_to word) (map (λ t. (t.name, [])) sigs)) (find (λ t. bytes_eq t.name word) sigs) (names_found sigs word)

shape_first : (b : Bool) (s : Signature) (o : Option Shape) (r : Option Signature) → o ≡ option_map (λ (t : Signature). as_built (subcommand_of t)) r
    → (if b || false then Some (as_built (subcommand_of s)) else o) ≡ option_map (λ (t : Signature). as_built (subcommand_of t)) (if b then Some s else r)
shape_first true s o r e = refl
shape_first false s o r e = e

shapes_found : (sigs : List Signature) (name : Text) → find (λ (t : Shape). answers_to name (label_of t)) (map (λ (s : Signature). as_built (subcommand_of s)) sigs)
    ≡ option_map (λ (s : Signature). as_built (subcommand_of s)) (find (λ s. bytes_eq s.name name) sigs)
shapes_found [] name = refl
shapes_found (s ∷ sigs) name =
    shape_first (bytes_eq s.name name) s (find (λ (t : Shape). answers_to name (label_of t)) (map (λ (t : Signature). as_built (subcommand_of t)) sigs)) (find (λ t. bytes_eq t.name name) sigs)
    (shapes_found sigs name)

-- what is read where the first word is walked over
abbrev read_at : Kinds → Walk → Option AnyCommand
read_at faults w =
    let has = is_some (entered whole w.stopped) in
    unless (or_else faults
    (or_else (entered_fault whole w.stopped) (or_else (settle_fault whole.top.rules whole.top.args_override_self w.held)
    (or_else (defaults_fault (settled whole.top.rules w.held).rows whole.top.rules) (check_fault whole.top (finished whole.top.rules w.held) has)))))
    (command_met (entered whole w.stopped))

-- what is read of the words
abbrev pub read_words : List Text → Option AnyCommand
read_words words = unless (fault_of interface words) (command_met (subcommand_in interface words))

-- the words behind the name of a command are left to it
abbrev enters : Text → List Text → Walk
enters name words = record (walk_from nothing_held) { stopped = Some (name, words) }

left_to : (word name : Text) (words : List Text) → turn_fault whole.top (names_of whole) (walk_from nothing_held) word ≡ []
    → walked whole.top.rules (names_of whole) (walk_from nothing_held) word ≡ enters name [] → read_words (word ∷ words) ≡ read_at [] (enters name words)
unfolding walk_fault
left_to word name words none met =
    ap₂ (λ (f : Kinds) (w : Walk). read_at (or_else f (walk_fault whole.top (names_of whole) w words)) (fold (walked whole.top.rules (names_of whole)) w words)) none met
    ∙ ap₂ read_at (stopped_fault whole.top (names_of whole) (walk_from nothing_held) (name, []) words)
    (sym (walk_stopped whole.top.rules (names_of whole) (walk_from nothing_held) name [] words))

or_else_nil : (faults : Kinds) → or_else faults [] ≡ faults
or_else_nil [] = refl
or_else_nil (f ∷ fs) = refl

-- what a command that is met reads of its words
abbrev read_in : List Text → Option Shape → Option AnyCommand
read_in words o =
    let met = option_map (λ s. rows_at s words) o in
    unless (or_else (option_map_or (λ s. level_fault s [] nothing_held words false []) o []) (check_fault whole.top [] (is_some met))) (command_met met)

module _ (word : Text) (s : Signature) (is : signature_of word ≡ Some s) where
  named_so : s.name ≡ word
  named_so = (bytes_eq-Decides s.name word).0 (found_passes (λ (t : Signature). bytes_eq t.name word) signatures s is)

  met_first : subcommand_met (names_of whole) idle word ≡ Some s.name
  met_first = names_found signatures word ∙ ap (option_map (λ (t : Signature). t.name)) is

  first_read : (words : List Text) → read_words (word ∷ words) ≡ read_at [] (enters s.name words)
  unfolding walked
  first_read words =
      left_to word s.name words
      (ap (λ (o : Option Text). let m = subcommand_or_other [] o idle 1 word nothing_held in or_else (other_fault whole.top o word nothing_held) (step_fault whole.top 1 m.0 m.1)) met_first
      ∙ ap (λ (b : Bool). or_else (if b then DisplayHelp ∷ InvalidSubcommand ∷ [] else []) []) (and-false (bytes_eq s.name (codes "help"))))
      (ap (λ (o : Option Text). let m = subcommand_or_other [] o idle 1 word nothing_held in after_step [] word (walk_from nothing_held) m.0 m.1) met_first)

  entered_read : (words : List Text) → read_at [] (enters s.name words) ≡ read_by s.name s words
  unfolding defaults_fault
  entered_read words =
      ap (read_in words) (shapes_found signatures s.name ∙ ap (λ (o : Option Signature). option_map (λ (t : Signature). as_built (subcommand_of t)) o) (ap signature_of named_so ∙ is))
      ∙ ap (λ (f : Kinds). unless f (named_met s.name (rows_at (as_built (subcommand_of s)) words).1)) (or_else_nil (level_fault (as_built (subcommand_of s)) [] nothing_held words false []))

  pub known_read : HasPlaces s → (ws : List (String Global)) → read_words (word ∷ texts ws) ≡ command_of (word ∷ texts ws)
  known_read places ws =
      first_read (texts ws) ∙ (entered_read (texts ws) ∙ (command_read s.name s (ap signature_of named_so ∙ is) (places (named_met s.name)) ws
      ∙ ap (λ (o : Option Signature). o >>= λ t. values t.arguments t.options (texts ws) >>= λ given. t.made (value_of given)) (sym is)))

-- ---- any other word in front
no_words : read_words [] ≡ None
unfolding clap_on_literals
no_words = refl

dashes_first : (words : List Text) → read_words (codes "--" ∷ words) ≡ None
unfolding clap_on_literals
dashes_first [] = refl
dashes_first (w ∷ ws) = refl

refused_first : (word : Text) (words : List Text) (f : ErrorKind) (fs : Kinds) → turn_fault whole.top (names_of whole) (walk_from nothing_held) word ≡ f ∷ fs → read_words (word ∷ words) ≡ None
unfolding walk_fault
refused_first word words f fs is =
    let after : Walk = walked whole.top.rules (names_of whole) (walk_from nothing_held) word in
    ap (λ (faults : Kinds). read_at (or_else faults (walk_fault whole.top (names_of whole) after words)) (fold (walked whole.top.rules (names_of whole)) after words)) is

module _ (word : Text) (text : IsUtf8 word) (unknown : signature_of word ≡ None) where
  none_met : subcommand_met (names_of whole) idle word ≡ None
  none_met = names_found signatures word ∙ ap (option_map (λ (t : Signature). t.name)) unknown

  module _ (no_dashes : bytes_eq word (codes "--") ≡ false) where
    fault_first : word_fault whole.top (names_of whole) false idle word nothing_held ≡ flag_word_fault [] false (long_of word) word nothing_held
    fault_first =
        ap (λ (o : Option Text). other_fault whole.top o word nothing_held) none_met
        ∙ ap (λ (b : Bool). if b then [] else flag_word_fault [] false (long_of word) word nothing_held) no_dashes

    dashed_fault : is_dashed word ≡ true → (o : Option (Text × Option Text)) → option_in word ≡ o → flag_word_fault [] false (long_of word) word nothing_held ≡ UnknownArgument ∷ []
    dashed_fault dashed None named = refuses_dashed [] false (λ c. refl) nothing_held refl word text dashed named
    dashed_fault dashed (Some p) named = ap (λ (o : Option (Text × Option Text)). flag_word_fault [] false o word nothing_held) (long_is word no_dashes ∙ named)

    dashed_first : (words : List Text) → is_dashed word ≡ true → read_words (word ∷ words) ≡ None
    dashed_first words dashed =
        let met = word_met whole.top.rules (names_of whole) false idle 1 word nothing_held in
        refused_first word words UnknownArgument [] (ap (λ (f : Kinds). or_else f (step_fault whole.top 1 met.0 met.1)) (fault_first ∙ dashed_fault dashed (option_in word) refl))

    plain_first : (words : List Text) → is_dashed word ≡ false → read_words (word ∷ words) ≡ None
    plain_first words plain =
        let flag = is_no_flag word plain in
        let met : word_met whole.top.rules (names_of whole) false idle 1 word nothing_held ≡ (nothing_held, value) =
        ap (λ (o : Option Text). subcommand_or_other [] o idle 1 word nothing_held) none_met ∙ rw (no_dashes, flag.0, flag.1) refl in
        let fault : word_fault whole.top (names_of whole) false idle word nothing_held ≡ [] = fault_first ∙ rw (flag.0, flag.1) refl in
        refused_first word words UnknownArgument (InvalidSubcommand ∷ []) (ap₂ (λ (f : Kinds) (m : Held × Step). or_else f (step_fault whole.top 1 m.0 m.1)) fault met)

  unknown_read : (words : List Text) → read_words (word ∷ words) ≡ None
  unknown_read words = by_dashes (bytes_eq word (codes "--")) refl
    where
      by_dash : (t : Bool) → is_dashed word ≡ t → bytes_eq word (codes "--") ≡ false → read_words (word ∷ words) ≡ None
      by_dash true dashed no_dashes = dashed_first no_dashes words dashed
      by_dash false plain no_dashes = plain_first no_dashes words plain

      by_dashes : (t : Bool) → bytes_eq word (codes "--") ≡ t → read_words (word ∷ words) ≡ None
      by_dashes true dashes = let is = (bytes_eq-Decides word (codes "--")).0 dashes in rw is (dashes_first words)
      by_dashes false no_dashes = by_dash (is_dashed word) refl no_dashes

-- ---- all words
every_found : {A : Type 0} (P : A → Type 0) (p : A → Bool) (xs : List A) (x : A) → Every P xs → find p xs ≡ Some x → P x
every_found P p [] x all found = absurd (cc)
every_found P p (y ∷ ys) x all found = go (p y) found (λ e. every_found P p ys x all.1 e)
  where
    go : (b : Bool) → (if b then Some y else find p ys) ≡ Some x → (find p ys ≡ Some x → P x) → P x
    go true is rest = let same : y ≡ x = cc in subst P same all.0
    go false is rest = rest is

-- clap meets the command that the words are
pub words_read : (ws : List (String Global)) → read_words (texts ws) ≡ command_of (texts ws)
words_read [] = no_words
words_read (w ∷ ws) = by_name (signature_of (string_bytes w)) refl
  where
    by_name : (o : Option Signature) → signature_of (string_bytes w) ≡ o → read_words (texts (w ∷ ws)) ≡ command_of (texts (w ∷ ws))
    by_name None unknown =
        unknown_read (string_bytes w) (IsUtf8-string_bytes w) unknown (texts ws)
        ∙ ap (λ (o : Option Signature). o >>= λ t. values t.arguments t.options (texts ws) >>= λ given. t.made (value_of given)) (sym unknown)
    by_name (Some s) is = known_read (string_bytes w) s is (every_found HasPlaces (λ t. bytes_eq t.name (string_bytes w)) signatures s all_have_places is) ws

among_none : {X : Type 0} (kind : ErrorKind) (faults : Kinds) (x : Option X) → IsAmong kind faults → unless faults x ≡ None
among_none kind [] x among = absurd among
among_none kind (f ∷ fs) x among = refl

-- what a parse gives where it gives matches, and where it gives a fault of the words
module _ (a : App) (is_interface : a ≡ interface) (ws : List (String Global)) where
  pub met_read : (is_simple_and_free a ≡ true → fault_of a (texts ws) ≡ []) → (met : Option (Text × List Row)) → (is_simple a ≡ true → met ≡ subcommand_in a (texts ws))
      → command_met met ≡ command_of (texts ws)
  met_read passes met found =
      let none : fault_of interface (texts ws) ≡ [] = rw is_interface at (passes (ap is_simple_and_free is_interface)) in
      ap command_met (found (ap is_simple is_interface)) ∙ (ap (λ (b : App). command_met (subcommand_in b (texts ws))) is_interface
      ∙ (ap (λ (f : Kinds). unless f (command_met (subcommand_in interface (texts ws)))) (sym none) ∙ words_read ws))

  pub fault_read : (e : Error) → (is_simple_and_free a ≡ true → HasKind (fault_of a (texts ws)) e) → (kind_of e ≡ OutOfMemory → ⊥) → None ≡ command_of (texts ws)
  fault_read e fails other = elim (fails (ap is_simple_and_free is_interface)) [
    | inl memory ↦ absurd (other memory)
    | inr among ↦
        sym (among_none (kind_of e) (fault_of a (texts ws)) (command_met (subcommand_in interface (texts ws))) among)
        ∙ (ap (λ (b : App). unless (fault_of b (texts ws)) (command_met (subcommand_in interface (texts ws)))) is_interface ∙ words_read ws)
  ]
