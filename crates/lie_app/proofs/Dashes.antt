-- Words with a dash in front: which of them clap refuses, and which it takes as they are.
use Rattle.std.specs.Prelude.{ℕ, Bool, true, false, ◌≡◌, ◌==◌, ◌&&◌, List, [], ◌∷◌, slice_get, codes, if◌then◌else◌, Some, None, option_and_then}
use Rattle.std.proofs.Common.{refl, sym, ap, ◌∙◌, subst}
use Rattle.std.specs.Option.{option_map_or}
use Rattle.std.specs.Char.{encode_utf8}
use Rattle.std.specs.Str.{IsUtf8, bytes_eq, chars, encode_utf8_all}
use Rattle.std.specs.declared.option.Option.{Option}
use Rattle.std.proofs.lemmas.Bool.{eqb-true}
use Rattle.std.proofs.lemmas.Str.{encodes-chars}
use Rattle.clap.specs.Lexer.{long_of, long_of_rest, name_and_value, short_of, strip_byte}
use Rattle.clap.specs.Walk.{Held, Rule, Text, arg_by_short}
use Rattle.clap.specs.Faults.{bundle_fault, flag_word_fault, flags_fault}
use Rattle.clap.specs.declared.error.kind.ErrorKind.TheVariants.{UnknownArgument}
use Rattle.lie_app.specs.Words.{is_dashed, option_in}

-- a word other than the two dashes names an option to clap as it does here
pub long_is : (word : Text) → bytes_eq word (codes "--") ≡ false → long_of word ≡ option_in word
long_is [] other = refl
long_is (c ∷ []) other = go (c == 45)
  where
    go : (t : Bool) → option_and_then long_of_rest (option_and_then (strip_byte 45) (if t then Some [] else None)) ≡ None
    go true = refl
    go false = refl
long_is (c ∷ d ∷ rest) other = first (c == 45) other
  where
    second : (t : Bool) (rest : Text) → (t && bytes_eq rest []) ≡ false → option_and_then long_of_rest (if t then Some rest else None) ≡ (if t then Some (name_and_value rest) else None)
    second true [] e = absurd (cc)
    second true (x ∷ xs) e = refl
    second false rest e = refl

    first : (t : Bool) → (t && ((d == 45) && bytes_eq rest [])) ≡ false
        → option_and_then long_of_rest (option_and_then (strip_byte 45) (if t then Some (d ∷ rest) else None)) ≡ (if t && (d == 45) then Some (name_and_value rest) else None)
    first true e = second (d == 45) rest e
    first false e = refl

-- behind the dash of a text stands a character
has_char : (d : ℕ) (ds : Text) → IsUtf8 (45 ∷ d ∷ ds) → (x : ℕ) × (slice_get (chars (d ∷ ds)) 0 ≡ Some x)
unfolding chars encode_utf8
has_char d ds text = go (chars (d ∷ ds)) (encodes-chars (45 ∷ d ∷ ds) text)
  where
    go : (cs : List ℕ) → encode_utf8_all (45 ∷ cs) ≡ 45 ∷ d ∷ ds → (x : ℕ) × (slice_get cs 0 ≡ Some x)
    go [] e = absurd (cc)
    go (x ∷ cs) e = (x, refl)

-- where no argument has a short name, a word with a dash that names no option is refused
module _ (rules : List Rule) (again : Bool) (short : (x : ℕ) → arg_by_short rules x ≡ None) (h : Held) (whole : h.skip ≡ 0) where
  abbrev refuses : Text → Type 0
  refuses word = flag_word_fault rules again (long_of word) word h ≡ UnknownArgument ∷ []

  refuses_short : (d : ℕ) (ds : Text) → IsUtf8 (45 ∷ d ∷ ds) → (d == 45) ≡ false → refuses (45 ∷ d ∷ ds)
  unfolding flags_fault
  refuses_short d ds text other =
      let word : Text = 45 ∷ d ∷ ds in
      let c = has_char d ds text in
      let no_long : long_of word ≡ None = ap (λ (b : Bool). option_and_then long_of_rest (if b then Some ds else None)) other in
      let flags : short_of word ≡ Some (d ∷ ds) = ap (λ (b : Bool). if b then None else Some (d ∷ ds)) other in
      let refused : bundle_fault rules again (d ∷ ds) h ≡ UnknownArgument ∷ [] = rw (whole, c.1, short) refl in
      ap (λ (o : Option (Text × Option Text)). flag_word_fault rules again o word h) no_long
      ∙ (ap (λ (o : Option Text). option_map_or (λ f. bundle_fault rules again f h) o []) flags ∙ refused)

  refuses_dash : (d : ℕ) (ds : Text) → IsUtf8 (45 ∷ d ∷ ds) → option_in (45 ∷ d ∷ ds) ≡ None → refuses (45 ∷ d ∷ ds)
  refuses_dash d ds text none = go (d == 45) refl none
    where
      go : (t : Bool) → (d == 45) ≡ t → (if t then Some (name_and_value ds) else None) ≡ None → refuses (45 ∷ d ∷ ds)
      go true e is = absurd (cc)
      go false e is = refuses_short d ds text e

  pub refuses_dashed : (word : Text) → IsUtf8 word → is_dashed word ≡ true → option_in word ≡ None → refuses word
  refuses_dashed [] text dashed none = absurd (cc)
  refuses_dashed (c ∷ []) text dashed none = absurd (cc)
  refuses_dashed (c ∷ d ∷ ds) text dashed none =
      let is : c ≡ 45 = eqb-true c 45 dashed in subst (λ b. IsUtf8 (b ∷ d ∷ ds) → option_in (b ∷ d ∷ ds) ≡ None → refuses (b ∷ d ∷ ds)) (sym is) (refuses_dash d ds) text none

-- any other word is no flag
pub is_no_flag : (word : Text) → is_dashed word ≡ false → (long_of word ≡ None) × (short_of word ≡ None)
is_no_flag [] plain = (refl, refl)
is_no_flag (c ∷ []) plain = go (c == 45) refl
  where
    go : (t : Bool) → (c == 45) ≡ t → (long_of (c ∷ []) ≡ None) × (short_of (c ∷ []) ≡ None)
    go true e = let is : c ≡ 45 = eqb-true c 45 e in rw is (refl, refl)
    go false e = (
      ap (λ (b : Bool). option_and_then long_of_rest (option_and_then (strip_byte 45) (if b then Some [] else None))) e,
      rw e refl,
    )
is_no_flag (c ∷ d ∷ ds) plain = (
  ap (λ (b : Bool). option_and_then long_of_rest (option_and_then (strip_byte 45) (if b then Some (d ∷ ds) else None))) plain,
  rw plain refl,
)
