-- What clap makes of all the words of a command is what its arguments and options get.
use Rattle.std.specs.Prelude.{ℕ, Bool, true, false, ◌≡◌, ◌==◌, ◌||◌, ◌&&◌, List, [], ◌∷◌, ◌++◌, codes, Some, None, not, if◌then◌else◌}
use Rattle.std.proofs.Common.{refl, sym, ap, ap₂, ◌∙◌, append_assoc}
use Rattle.std.specs.List.{AllByRecursion as Every, list_any}
use Rattle.std.specs.Option.{option_map_or}
use Rattle.std.specs.Str.{IsUtf8, bytes_eq}
use Rattle.std.specs.String.{string_bytes}
use Rattle.std.specs.declared.string.String.{String}
use Rattle.std.specs.declared.option.Option.{Option}
use Rattle.std.specs.declared.alloc.Global.{Global}
use Rattle.std.proofs.Math.Bool.{and-false, and-true}
use Rattle.std.proofs.lemmas.List.{append-nil}
use Rattle.std.proofs.lemmas.Map.Views.{any-filter_same}
use Rattle.std.proofs.lemmas.Slice.Eq.{bytes_eq-Decides}
use Rattle.std.proofs.lemmas.Str.{IsUtf8-string_bytes}
use Rattle.clap.specs.Walk.{Held, Row, Rule, Text, Waiting, Walk, arg_by_id, arg_by_index, finished, has_row, idle, nothing_held, option as awaits, reacted, settled}
use Rattle.clap.specs.Kinds.{Kinds, or_else}
use Rattle.clap.specs.Faults.{walk_fault}
use Rattle.clap.specs.Takes.{is_given}
use Rattle.clap.specs.declared.error.kind.ErrorKind.TheVariants.{ArgumentConflict, MissingRequiredArgument}
use Rattle.lie_app.specs.Words.{Values, texts, is_among, others, is_dashed, option_in, in_places, parted, values, awaited, with_value, ◌>>=◌}
use Rattle.lie_app.specs.Interface.{subcommand}
use Rattle.lie_app.proofs.Rules.{rules_from, placed_rule, option_rule, next_place, no_defaults, option_by_id, required_missing, still_rows}
use Rattle.lie_app.proofs.Rows.{found_rows, given_found, has_added}
use Rattle.lie_app.proofs.Walks.{Holds, IsFaulty, argument_takes, as_built, option_takes, reacted_holds, reacts_clean, reacts_refused, read_from, stands, unless, waits, waits_holds, waits_again}
use Rattle.lie_app.proofs.Turns.{attached_read, attached_refused, awaiting, before_dashes, behind_dashes, dashes_read, faulty_behind, faulty_dashed, faulty_end, faulty_placed, opened, opened_faulty, opened_read, placed_read, stray_behind, stray_read, unknown_read, unnamed_read, value_read}

-- ---- names
same_names : (a b : Text) (t : Bool) → bytes_eq a b ≡ t → bytes_eq b a ≡ t
same_names a b true e = (bytes_eq-Decides b a).1 (sym ((bytes_eq-Decides a b).0 e))
same_names a b false e = go (bytes_eq b a) refl
  where
    go : (t : Bool) → bytes_eq b a ≡ t → t ≡ false
    go false is = refl
    go true is = let same : bytes_eq a b ≡ true = (bytes_eq-Decides a b).1 (sym ((bytes_eq-Decides b a).0 is)) in cc

-- a name that is none of the options is not equal to one of them
unequal : (options : List Text) (a name : Text) → is_among a options ≡ false → is_among name options ≡ true → bytes_eq name a ≡ false
unequal options a name no_option is = go (bytes_eq name a) refl
  where
    go : (t : Bool) → bytes_eq name a ≡ t → t ≡ false
    go false e = refl
    go true e = let same : name ≡ a = (bytes_eq-Decides name a).0 e in absurd (let has : is_among a options ≡ true = ap (λ (n : Text). is_among n options) (sym same) ∙ is in cc)

among_others : (names : List Text) (name x : Text) → is_among x (others name names) ≡ (not (bytes_eq x name) && is_among x names)
among_others names name x = any-filter_same (λ n. bytes_eq n x) (λ n. not (bytes_eq n name)) (not (bytes_eq x name)) (λ k is. ap (λ n. not (bytes_eq n name)) ((bytes_eq-Decides k x).0 is)) names

or_met : (r t : Bool) → t ≡ true → (r || (t || false)) ≡ true
or_met true t e = refl
or_met false true e = refl
or_met false false e = absurd (cc)

no_change : (m r t : Bool) → (t ≡ true → m ≡ false) → (m && not r) ≡ (m && not (r || (t || false)))
no_change false r t e = refl
no_change true true t e = refl
no_change true false true e = absurd (let bad : true ≡ false = e refl in cc)
no_change true false false e = refl

taken_out : (m r p q : Bool) → p ≡ q → (not p && (m && not r)) ≡ (m && not (r || (q || false)))
taken_out m r p q e = ap (λ b. not b && (m && not r)) e ∙ go m r q
  where
    go : (m r q : Bool) → (not q && (m && not r)) ≡ (m && not (r || (q || false)))
    go false r true = refl
    go false r false = refl
    go true true true = refl
    go true true false = refl
    go true false true = refl
    go true false false = refl

module _ {X : Type 0} (title : Text) (arguments options : List Text) (read : List Row → Option X) where
  abbrev rules : List Rule
  rules = rules_from 1 arguments options

  abbrev from : Walk → List Text → Option X
  from = read_from (as_built (subcommand title arguments options)) read

  -- the arguments that are to come have their places, and names of their own
  abbrev pub Ahead : ℕ → List Text → Type 0
  Ahead k [] = arg_by_index rules k ≡ None
  Ahead k (a ∷ rest) =
      (arg_by_index rules k ≡ Some (placed_rule k a)) × (arg_by_id rules a ≡ Some (placed_rule k a)) × Every (λ b. bytes_eq a b ≡ false) rest
      × (is_among a options ≡ false) × Ahead (next_place k) rest

  -- what was found of the words before: values of the arguments before these, and of all options but those that are open
  pub record At (h : Held) (given : Values) (k : ℕ) (left still : List Text) : Type 0 where
    pub holds : Holds rules h given
    pub ahead : Ahead k left
    pub free : Every (λ a. has_row a (found_rows given) ≡ false) left
    pub are_open : (x : Text) → is_among x still ≡ (is_among x options && not (has_row x (found_rows given)))
    pub done : List Text
    pub split : arguments ≡ done ++ left
    pub met : Every (λ a. has_row a (found_rows given) ≡ true) done

  -- ---- one value more
  still_met : (given : Values) (name text : Text) (done : List Text) → Every (λ a. has_row a (found_rows given) ≡ true) done → Every (λ a. has_row a (found_rows (given ++ (name, text) ∷ [])) ≡ true) done
  still_met given name text [] met = tt
  still_met given name text (a ∷ rest) met = (has_added given name text a ∙ rw met.0 refl, still_met given name text rest met.1)

  met_too : (given : Values) (name text : Text) (done : List Text) → Every (λ a. has_row a (found_rows given) ≡ true) done
      → Every (λ a. has_row a (found_rows (given ++ (name, text) ∷ [])) ≡ true) (done ++ name ∷ [])
  met_too given name text [] met = (has_added given name text name ∙ or_met (has_row name (found_rows given)) (bytes_eq name name) ((bytes_eq-Decides name name).1 refl), tt)
  met_too given name text (a ∷ rest) met = (has_added given name text a ∙ rw met.0 refl, met_too given name text rest met.1)

  still_free : (given : Values) (name text : Text) (left : List Text) → Every (λ b. bytes_eq name b ≡ false) left → Every (λ a. has_row a (found_rows given) ≡ false) left
      → Every (λ a. has_row a (found_rows (given ++ (name, text) ∷ [])) ≡ false) left
  still_free given name text [] other free = tt
  still_free given name text (a ∷ rest) other free = (has_added given name text a ∙ rw (free.0, other.0) refl, still_free given name text rest other.1 free.1)

  -- an option is none of the arguments
  apart : (k : ℕ) (left : List Text) → Ahead k left → (name : Text) → is_among name options ≡ true → Every (λ b. bytes_eq name b ≡ false) left
  apart k [] ahead name is = tt
  apart k (a ∷ rest) ahead name is = (unequal options a name ahead.3 is, apart (next_place k) rest ahead.4 name is)

  argument_open : (given : Values) (a text : Text) (still : List Text) → is_among a options ≡ false → ((x : Text) → is_among x still ≡ (is_among x options && not (has_row x (found_rows given))))
      → (x : Text) → is_among x still ≡ (is_among x options && not (has_row x (found_rows (given ++ (a, text) ∷ []))))
  argument_open given a text still no_option are x = are x ∙ (go (bytes_eq a x) refl ∙ ap (λ (b : Bool). is_among x options && not b) (sym (has_added given a text x)))
    where
      go : (t : Bool) → bytes_eq a x ≡ t → (is_among x options && not (has_row x (found_rows given))) ≡ (is_among x options && not (has_row x (found_rows given) || (t || false)))
      go t e = no_change (is_among x options) (has_row x (found_rows given)) t (λ is. ap (λ (n : Text). is_among n options) (sym ((bytes_eq-Decides a x).0 (e ∙ is))) ∙ no_option)

  option_open : (given : Values) (name text : Text) (still : List Text) → ((x : Text) → is_among x still ≡ (is_among x options && not (has_row x (found_rows given))))
      → (x : Text) → is_among x (others name still) ≡ (is_among x options && not (has_row x (found_rows (given ++ (name, text) ∷ []))))
  option_open given name text still are x =
      among_others still name x
      ∙ (ap (λ (b : Bool). not (bytes_eq x name) && b) (are x)
      ∙ (taken_out (is_among x options) (has_row x (found_rows given)) (bytes_eq x name) (bytes_eq name x) (sym (same_names x name (bytes_eq x name) refl))
      ∙ ap (λ (b : Bool). is_among x options && not b) (sym (has_added given name text x))))

  argument_at : (h : Held) (given : Values) (k : ℕ) (a : Text) (rest still : List Text) (word : Text) → At h given k (a ∷ rest) still
      → At (waits rules h a word) (given ++ (a, word) ∷ []) (next_place k) rest still
  argument_at h given k a rest still word at = record {
    holds = waits_holds rules h given at.holds (placed_rule k a) a word (argument_takes k a) at.ahead.1 at.free.0;
    ahead = at.ahead.4;
    free = still_free given a word rest at.ahead.2 at.free.1;
    are_open = argument_open given a word still at.ahead.3 at.are_open;
    done = at.done ++ a ∷ [];
    split = at.split ∙ sym (append_assoc at.done (a ∷ []) rest);
    met = met_too given a word at.done at.met;
  }

  option_at : (h g : Held) (given : Values) (k : ℕ) (left still : List Text) (name text : Text) → is_among name options ≡ true → At h given k left still → Holds rules g (given ++ (name, text) ∷ [])
      → At g (given ++ (name, text) ∷ []) k left (others name still)
  option_at h g given k left still name text is at holds = record {
    holds = holds;
    ahead = at.ahead;
    free = still_free given name text left (apart k left at.ahead name is) at.free;
    are_open = option_open given name text still at.are_open;
    done = at.done;
    split = at.split;
    met = still_met given name text at.done at.met;
  }

  -- ---- the end of the words
  abbrev pub read_of : Values → Values → Option X
  read_of given more = read (found_rows (given ++ more))

  is_some_left : List Text → Bool
  is_some_left [] = false
  is_some_left (a ∷ rest) = true

  missing_behind : (given : Values) (done left : List Text) → Every (λ a. has_row a (found_rows given) ≡ true) done → Every (λ a. has_row a (found_rows given) ≡ false) left
      → list_any (λ a. not (is_given a (found_rows given))) (done ++ left) ≡ is_some_left left
  unfolding is_some_left
  missing_behind given [] [] met free = refl
  missing_behind given [] (a ∷ rest) met free = ap (λ (b : Bool). not b || list_any (λ a. not (is_given a (found_rows given))) rest) (given_found given a ∙ free.0)
  missing_behind given (a ∷ done) left met free =
      ap (λ (b : Bool). not b || list_any (λ a. not (is_given a (found_rows given))) (done ++ left)) (given_found given a ∙ met.0) ∙ missing_behind given done left met.1 free

  -- the fault of an argument that is missing
  abbrev lacking : List Row → Kinds
  lacking rows = if list_any (λ (a : Rule). a.required && not (is_given a.id rows)) rules then MissingRequiredArgument ∷ [] else []

  end_read : (h : Held) (given : Values) (k : ℕ) (left still : List Text) (met : Bool) → At h given k left still → from (stands h k met) [] ≡ (in_places left [] >>= read_of given)
  unfolding walk_fault is_some_left
  end_read h given k left still met at =
      let rows : finished rules h ≡ found_rows given = still_rows 1 arguments options (settled rules h).rows ∙ at.holds.rows in
      ap₂ (λ (f g : Kinds). unless (or_else f (or_else g (lacking (finished rules h)))) (read (finished rules h))) at.holds.clean (no_defaults 1 arguments options (settled rules h).rows)
      ∙ (ap (λ (rs : List Row). unless (lacking rs) (read rs)) rows
      ∙ (ap (λ (b : Bool). unless (if b then MissingRequiredArgument ∷ [] else []) (read (found_rows given))) (required_missing 1 arguments options (found_rows given)
      ∙ (ap (list_any (λ a. not (is_given a (found_rows given)))) at.split ∙ missing_behind given at.done left at.met at.free)) ∙ go left))
    where
      go : (left : List Text) → unless (if is_some_left left then MissingRequiredArgument ∷ [] else []) (read (found_rows given)) ≡ (in_places left [] >>= read_of given)
      go [] = ap (λ (vs : Values). read (found_rows vs)) (sym (append-nil given))
      go (a ∷ rest) = refl

  -- ---- behind the two dashes all words are arguments
  shifted : (given : Values) (name text : Text) (o : Option Values) → (o >>= read_of (given ++ (name, text) ∷ [])) ≡ (with_value name text o >>= read_of given)
  shifted given name text None = refl
  shifted given name text (Some more) = ap (λ (vs : Values). read (found_rows vs)) (append_assoc given ((name, text) ∷ []) more)

  behind_read : (words : List Text) (h : Held) (given : Values) (k : ℕ) (left still : List Text) → At h given k left still
      → from (stands h k true) words ≡ (in_places left words >>= read_of given)
  behind_read [] h given k left still at = end_read h given k left still true at
  behind_read (word ∷ words) h given k [] still at = stray_read title arguments options read h k true word words (behind_dashes title arguments options read h k word) at.ahead
  behind_read (word ∷ words) h given k (a ∷ rest) still at =
      placed_read title arguments options read h k true word words (behind_dashes title arguments options read h k word) a at.ahead.0 at.holds.clean
      ∙ (behind_read words (waits rules h a word) (given ++ (a, word) ∷ []) (next_place k) rest still (argument_at h given k a rest still word at) ∙ shifted given a word (in_places rest words))

  -- ---- what waits is refused
  faulty_words_behind : (words : List Text) (h : Held) (w : Waiting) (k : ℕ) (left : List Text) → Ahead k left → IsFaulty rules h → from (awaiting title arguments options read h w k true) words ≡ None
  faulty_words_behind [] h w k left ahead faulty = faulty_end title arguments options read h w k true faulty
  faulty_words_behind (word ∷ words) h w k [] ahead faulty = stray_behind title arguments options read h w k word words ahead
  faulty_words_behind (word ∷ words) h w k (a ∷ rest) ahead faulty = faulty_behind title arguments options read h w k word words a ahead.0 faulty

  -- a word with a dash, the two dashes too
  faulty_dash : (h : Held) (w : Waiting) (k : ℕ) (left : List Text) (word : Text) (words : List Text) → IsUtf8 word → Ahead k left → IsFaulty rules h → is_dashed word ≡ true
      → from (awaiting title arguments options read h w k false) (word ∷ words) ≡ None
  faulty_dash h w k left word words text ahead faulty dashed = go (bytes_eq word (codes "--")) refl
    where
      go : (t : Bool) → bytes_eq word (codes "--") ≡ t → from (awaiting title arguments options read h w k false) (word ∷ words) ≡ None
      go true e = dashes_read title arguments options read h w k word words e ∙ faulty_words_behind words h w k left ahead faulty
      go false e = faulty_dashed title arguments options read h w word e k words text dashed faulty

  plain_not_dashes : (word : Text) → is_dashed word ≡ false → bytes_eq word (codes "--") ≡ false
  plain_not_dashes [] plain = refl
  plain_not_dashes (c ∷ []) plain = and-false (c == 45)
  plain_not_dashes (c ∷ d ∷ ds) plain = ap (λ (b : Bool). b && bytes_eq (d ∷ ds) (45 ∷ [])) plain

  faulty_words : (words : List (String Global)) (h : Held) (k : ℕ) (left : List Text) → Ahead k left → IsFaulty rules h → from (stands h k false) (texts words) ≡ None
  faulty_words [] h k left ahead faulty = faulty_end title arguments options read h idle k false faulty
  faulty_words (w ∷ ws) h k left ahead faulty = by_dash (is_dashed (string_bytes w)) refl left ahead
    where
      by_dash : (t : Bool) → is_dashed (string_bytes w) ≡ t → (left : List Text) → Ahead k left → from (stands h k false) (texts (w ∷ ws)) ≡ None
      by_dash true dashed left ahead = faulty_dash h idle k left (string_bytes w) (texts ws) (IsUtf8-string_bytes w) ahead faulty dashed
      by_dash false plain [] ahead =
          stray_read title arguments options read h k false (string_bytes w) (texts ws) (before_dashes title arguments options read h k (string_bytes w) (plain_not_dashes (string_bytes w) plain) plain) ahead
      by_dash false plain (a ∷ rest) ahead =
          faulty_placed title arguments options read h k false (string_bytes w) (texts ws) (before_dashes title arguments options read h k (string_bytes w) (plain_not_dashes (string_bytes w) plain) plain) a
          ahead.0 faulty

  -- ---- all words
  not_among : (name : Text) (names : List Text) → Every (λ b. bytes_eq name b ≡ false) names → is_among name names ≡ false
  not_among name [] other = refl
  not_among name (n ∷ ns) other = ap (λ (b : Bool). b || is_among name ns) (same_names name n false other.0) ∙ not_among name ns other.1

  module _ (places : Ahead 1 arguments) where
    found_by_id : (name : Text) → is_among name options ≡ true → arg_by_id rules name ≡ Some (option_rule name)
    found_by_id name is = option_by_id 1 arguments options name (not_among name arguments (apart 1 arguments places name is)) is

    -- an option that was found before is refused
    again_read : (ws : List (String Global)) (h : Held) (given : Values) (k : ℕ) (left : List Text) (name : Text) → Holds rules h given → Ahead k left
        → is_among name options ≡ true → has_row name (found_rows given) ≡ true → from (awaiting title arguments options read (opened title arguments options read h name) (awaits name) k false) (texts ws) ≡ None
    again_read ws h given k left name holds ahead is old = go ws
      where
        g : Held
        g = opened title arguments options read h name

        faulty : IsFaulty rules g
        faulty = opened_faulty title arguments options read h name (found_by_id name is) holds.whole

        go : (ws : List (String Global)) → from (awaiting title arguments options read g (awaits name) k false) (texts ws) ≡ None
        go [] = faulty_end title arguments options read g (awaits name) k false faulty
        go (w ∷ ws) = by_dash (is_dashed (string_bytes w)) refl
          where
            by_dash : (t : Bool) → is_dashed (string_bytes w) ≡ t → from (awaiting title arguments options read g (awaits name) k false) (texts (w ∷ ws)) ≡ None
            by_dash true dashed = faulty_dash g (awaits name) k left (string_bytes w) (texts ws) (IsUtf8-string_bytes w) ahead faulty dashed
            by_dash false plain =
                value_read title arguments options read h k (string_bytes w) (texts ws) name plain (plain_not_dashes (string_bytes w) plain) (found_by_id name is)
                ∙ faulty_words ws (waits rules h name (string_bytes w)) k left ahead (waits_again rules h given holds (option_rule name) name (string_bytes w) (option_takes name) (found_by_id name is) old)

    -- what is read of words, and of words in front of which an option waits for its value
    pub record AreRead (ws : List (String Global)) : Type 0 where
      pub words : (h : Held) (given : Values) (k : ℕ) (left still : List Text) → At h given k left still → from (stands h k false) (texts ws) ≡ (values left still (texts ws) >>= read_of given)
      pub behind : (h : Held) (given : Values) (k : ℕ) (left still : List Text) (name : Text) → At h given k left still → is_among name options ≡ true → has_row name (found_rows given) ≡ false
          → from (awaiting title arguments options read (opened title arguments options read h name) (awaits name) k false) (texts ws) ≡ (awaited name left (others name still) (texts ws) >>= read_of given)

    no_words : AreRead []
    no_words = record {
      words = λ h given k left still at. end_read h given k left still false at;
      behind = λ h given k left still name at is new.
          faulty_end title arguments options read (opened title arguments options read h name) (awaits name) k false
          (opened_faulty title arguments options read h name (found_by_id name is) at.holds.whole);
    }

    module _ (w : String Global) (ws : List (String Global)) (rest : AreRead ws) where
      abbrev word : Text
      word = string_bytes w

      value_behind : (h : Held) (given : Values) (k : ℕ) (left still : List Text) (name : Text) → At h given k left still → is_among name options ≡ true → has_row name (found_rows given) ≡ false
          → from (awaiting title arguments options read (opened title arguments options read h name) (awaits name) k false) (word ∷ texts ws) ≡ (awaited name left (others name still) (word ∷ texts ws) >>= read_of given)
      value_behind h given k left still name at is new = by_dash (is_dashed word) refl
        where
          by_dash : (t : Bool) → is_dashed word ≡ t
              → from (awaiting title arguments options read (opened title arguments options read h name) (awaits name) k false) (word ∷ texts ws)
              ≡ ((if t then None else with_value name word (values left (others name still) (texts ws))) >>= read_of given)
          by_dash true dashed =
              faulty_dash (opened title arguments options read h name) (awaits name) k left word (texts ws) (IsUtf8-string_bytes w) at.ahead
              (opened_faulty title arguments options read h name (found_by_id name is) at.holds.whole) dashed
          by_dash false plain =
              let holds = waits_holds rules h given at.holds (option_rule name) name word (option_takes name) (found_by_id name is) new in
              value_read title arguments options read h k word (texts ws) name plain (plain_not_dashes word plain) (found_by_id name is)
              ∙ (rest.words (waits rules h name word) (given ++ (name, word) ∷ []) k left (others name still) (option_at h (waits rules h name word) given k left still name word is at holds)
              ∙ shifted given name word (values left (others name still) (texts ws)))

      module _ (h : Held) (given : Values) (k : ℕ) (left still : List Text) (at : At h given k left still) where
        -- an option that is open
        open_read : (name : Text) (v : Option Text) → bytes_eq word (codes "--") ≡ false → option_in word ≡ Some (name, v) → is_among name options ≡ true → has_row name (found_rows given) ≡ false
            → from (stands h k false) (word ∷ texts ws)
            ≡ (option_map_or (λ u. with_value name u (values left (others name still) (texts ws))) v (awaited name left (others name still) (texts ws)) >>= read_of given)
        open_read name None other named is new =
            opened_read title arguments options read h k word (texts ws) other name is named at.holds.clean ∙ rest.behind h given k left still name at is new
        open_read name (Some u) other named is new =
            let holds = reacted_holds rules h given at.holds (option_rule name) name u (option_takes name) new in
            let g = reacted rules (option_rule name) (u ∷ []) h in
            attached_read title arguments options read h k word (texts ws) other name is u named (reacts_clean rules h given at.holds (option_rule name) name u (option_takes name) new)
            ∙ (rest.words g (given ++ (name, u) ∷ []) k left (others name still) (option_at h g given k left still name u is at holds) ∙ shifted given name u (values left (others name still) (texts ws)))

        -- an option that was found before
        closed_read : (name : Text) (v : Option Text) → bytes_eq word (codes "--") ≡ false → option_in word ≡ Some (name, v) → is_among name options ≡ true → has_row name (found_rows given) ≡ true
            → from (stands h k false) (word ∷ texts ws) ≡ None
        closed_read name None other named is old =
            opened_read title arguments options read h k word (texts ws) other name is named at.holds.clean ∙ again_read ws h given k left name at.holds at.ahead is old
        closed_read name (Some u) other named is old =
            attached_refused title arguments options read h k word (texts ws) other name is u ArgumentConflict [] named
            (reacts_refused rules h given at.holds (option_rule name) name u (option_takes name) old)

        option_words : (name : Text) (v : Option Text) → bytes_eq word (codes "--") ≡ false → option_in word ≡ Some (name, v) → from (stands h k false) (word ∷ texts ws)
            ≡ ((if is_among name still then option_map_or (λ u. with_value name u (values left (others name still) (texts ws))) v (awaited name left (others name still) (texts ws)) else None) >>= read_of given)
        option_words name v other named = by_cases (is_among name options) (has_row name (found_rows given)) refl refl
          where
            by_cases : (t r : Bool) → is_among name options ≡ t → has_row name (found_rows given) ≡ r → from (stands h k false) (word ∷ texts ws)
                ≡ ((if is_among name still then option_map_or (λ u. with_value name u (values left (others name still) (texts ws))) v (awaited name left (others name still) (texts ws)) else None) >>= read_of given)
            by_cases true false is new = open_read name v other named is new ∙ sym (rw (at.are_open name, is, new) refl)
            by_cases true true is old = closed_read name v other named is old ∙ sym (rw (at.are_open name, is, old) refl)
            by_cases false r not_one e = unknown_read title arguments options read h idle word other k (texts ws) name v named not_one ∙ sym (rw (at.are_open name, not_one) refl)

        dashed_read : bytes_eq word (codes "--") ≡ false → is_dashed word ≡ true → from (stands h k false) (word ∷ texts ws) ≡ (values left still (word ∷ texts ws) >>= read_of given)
        dashed_read other dashed = by_name (option_in word) refl ∙ sym (rw (other, dashed) refl)
          where
            by_name : (o : Option (Text × Option Text)) → option_in word ≡ o → from (stands h k false) (word ∷ texts ws)
                ≡ ((o >>= λ o. if is_among o.0 still then option_map_or (λ u. with_value o.0 u (values left (others o.0 still) (texts ws))) o.1 (awaited o.0 left (others o.0 still) (texts ws)) else None) >>= read_of given)
            by_name None none = unnamed_read title arguments options read h idle word other k (texts ws) (IsUtf8-string_bytes w) dashed none at.holds.whole
            by_name (Some p) named = option_words p.0 p.1 other named

        argument_read : bytes_eq word (codes "--") ≡ false → is_dashed word ≡ false → from (stands h k false) (word ∷ texts ws) ≡ (values left still (word ∷ texts ws) >>= read_of given)
        argument_read other plain = by_place left at ∙ sym (rw (other, plain) refl)
          where
            by_place : (left : List Text) → At h given k left still
                → from (stands h k false) (word ∷ texts ws) ≡ ((parted left >>= λ a. with_value a.0 word (values a.1 still (texts ws))) >>= read_of given)
            by_place [] at = stray_read title arguments options read h k false word (texts ws) (before_dashes title arguments options read h k word other plain) at.ahead
            by_place (a ∷ behind) at =
                placed_read title arguments options read h k false word (texts ws) (before_dashes title arguments options read h k word other plain) a at.ahead.0 at.holds.clean
                ∙ (rest.words (waits rules h a word) (given ++ (a, word) ∷ []) (next_place k) behind still (argument_at h given k a behind still word at) ∙ shifted given a word (values behind still (texts ws)))

        word_read : from (stands h k false) (word ∷ texts ws) ≡ (values left still (word ∷ texts ws) >>= read_of given)
        word_read = by_dashes (bytes_eq word (codes "--")) refl
          where
            by_dash : (t : Bool) → is_dashed word ≡ t → bytes_eq word (codes "--") ≡ false → from (stands h k false) (word ∷ texts ws) ≡ (values left still (word ∷ texts ws) >>= read_of given)
            by_dash true dashed other = dashed_read other dashed
            by_dash false plain other = argument_read other plain

            by_dashes : (t : Bool) → bytes_eq word (codes "--") ≡ t → from (stands h k false) (word ∷ texts ws) ≡ (values left still (word ∷ texts ws) >>= read_of given)
            by_dashes true e = dashes_read title arguments options read h idle k word (texts ws) e ∙ (behind_read (texts ws) h given k left still at ∙ sym (rw e refl))
            by_dashes false e = by_dash (is_dashed word) refl e

    are_read : (ws : List (String Global)) → AreRead ws
    are_read [] = no_words
    are_read (w ∷ ws) = let rest = are_read ws in record {
      words = λ h given k left still at. word_read w ws rest h given k left still at;
      behind = λ h given k left still name at is new. value_behind w ws rest h given k left still name at is new;
    }

    pub values_read : (ws : List (String Global)) → from (stands nothing_held 1 false) (texts ws) ≡ (values arguments options (texts ws) >>= λ given. read (found_rows given))
    values_read ws = (are_read ws).words nothing_held [] 1 arguments options (record {
      holds = record { rows = refl; clean = refl; whole = refl };
      ahead = places;
      free = none_found arguments;
      are_open = λ x. sym (and-true (is_among x options));
      done = [];
      split = refl;
      met = tt;
    })
      where
        none_found : (names : List Text) → Every (λ a. has_row a (found_rows []) ≡ false) names
        none_found [] = tt
        none_found (n ∷ ns) = (refl, none_found ns)
