-- Words, the header and names: what is read is of the grammar, and what is of the grammar is read.
use Rattle.std.specs.Prelude.{ℕ, zero, suc, ◌≡◌, ◌≢◌, ◌+◌, ◌-◌, ◌<◌, ◌≤◌, Bool, true, false, ◌&&◌, ◌||◌, ◌==◌, nat_le, nat_eq, List, [], ◌∷◌, ◌++◌, length, if◌then◌else◌, Ok, Err, codes, refl}
use Rattle.std.specs.declared.result.Result.{Result}
use Rattle.std.specs.List.{list_any}
use Rattle.std.specs.Cmp.Lexicographic.{pointwise, same_text}
use Rattle.std.proofs.Common.{append_assoc, length-append, sym, ap, ◌∙◌, subst, arith}
use Rattle.std.proofs.lemmas.Bool.Decides.{nat_tests}
use Rattle.std.proofs.lemmas.List.{append-nil, nil_from_length}
use Rattle.lie_scan.specs.declared.fault.BadKind.TheVariants.{NameBad, NameTwice, TooManyNames, Syntax}
use Rattle.lie_scan.specs.declared.runs.Class.TheVariants.{Blank, Letter, Word}
use Rattle.lie_scan.specs.declared.stop.Stop.{Stop}
use Rattle.lie_scan.specs.Runs.{run, behind, after_blanks, is_in}
use Rattle.lie_scan.specs.Stops.{stop, ◌>>=◌}
use Rattle.lie_scan.specs.Turns.{Turn, goes_on, after, turns, all_turns}
use Rattle.lie_file.specs.FileLines.{is_word, behind_word, is_header, name_of, name_by, name_turn, some_names, names_at}
use Rattle.lie_scan.specs.TokenGrammar.{AreIn, AreBlanks, IsBehindBlanks, BeginsOutside}
use Rattle.lie_file.specs.FileGrammar.{EndsWord, IsWord, IsHeader, AreNames}
use Rattle.lie_scan.proofs.Blanks.{bind_then, guard_then, guard_else, ok_is, and_true, run_is, run_front, behind_front, behind_none, behind_outside, blanks_off, after_outside, blanks_only, only_blanks, letter_range, no_blank_above}
use Rattle.lie_scan.proofs.TurnSteps.{turns_on, turns_end}
use Rattle.lie_file.proofs.NameSteps.{name_turn_takes}

-- ---- words
blank_word : (b : ℕ) → is_in Word b ≡ false → is_in Blank b ≡ true
blank_word b h = go (b == 32 || b == 9) h
  where
    go : (t : Bool) → (if t then false else true) ≡ false → t ≡ true
    go true e = refl
    go false e = cc

word_blank : (b : ℕ) → is_in Blank b ≡ true → is_in Word b ≡ false
word_blank b h = rw h refl

pub word_other : (b : ℕ) → is_in Blank b ≡ false → is_in Word b ≡ true
word_other b h = rw h refl

ends_word : (bs : List ℕ) → BeginsOutside Word bs → EndsWord bs
ends_word [] h = tt
ends_word (b ∷ bs) h = blank_word b h

word_ended : (bs : List ℕ) → EndsWord bs → BeginsOutside Word bs
word_ended [] h = tt
word_ended (b ∷ bs) h = word_blank b h

-- the word in front of a text and what is behind it
pub word_off : (text : List ℕ) → IsWord (run Word (after_blanks text)) text (behind_word text)
word_off text = record {
  front = subst (IsBehindBlanks text) (run_is Word (after_blanks text)) (blanks_off text);
  ends = ends_word (behind_word text) (behind_outside Word (after_blanks text));
}

pub is_word-is : (keyword text : List ℕ) → is_word keyword text ≡ true → IsWord keyword text (behind_word text)
is_word-is keyword text h = subst (λ w. IsWord w text (behind_word text)) (same_text (run Word (after_blanks text)) keyword (sym h)) (word_off text)

-- a word has bytes, and none is a blank
abbrev pub IsPlain : List ℕ → Type 0
IsPlain [] = ⊥
IsPlain (b ∷ bs) = AreIn Word (b ∷ bs)

pub plain_front : (word rest : List ℕ) → IsPlain word → BeginsOutside Blank (word ++ rest)
plain_front [] rest h = absurd h
plain_front (b ∷ bs) rest h = go (is_in Blank b) refl h.0
  where
    go : (t : Bool) → is_in Blank b ≡ t → is_in Word b ≡ true → t ≡ false
    go false e w = refl
    go true e w = let clash : true ≡ false = sym w ∙ word_blank b e in cc

pub plain_in : (word : List ℕ) → IsPlain word → AreIn Word word
plain_in [] h = absurd h
plain_in (b ∷ bs) h = h

pub word_is : (word text rest : List ℕ) → IsPlain word → IsWord word text rest → (run Word (after_blanks text) ≡ word) × (behind_word text ≡ rest)
word_is word text rest plain h =
    let whole : after_blanks text ≡ word ++ rest = after_outside text (word ++ rest) h.front (plain_front word rest plain) in
    let out = word_ended rest h.ends in
    (ap (run Word) whole ∙ run_front Word word rest (plain_in word plain) out, ap (behind Word) whole ∙ behind_front Word word rest (plain_in word plain) ∙ behind_none Word rest out)

same_is : (keyword : List ℕ) → pointwise nat_eq keyword keyword ≡ true
same_is [] = refl
same_is (b ∷ bs) = let here : nat_eq b b ≡ true = grind (arith, nat_tests) in rw here (same_is bs)

pub is-is_word : (keyword text rest : List ℕ) → IsPlain keyword → IsWord keyword text rest → is_word keyword text ≡ true
is-is_word keyword text rest plain h = ap (λ w. pointwise nat_eq w keyword) (word_is keyword text rest plain h).0 ∙ same_is keyword

pub is-other_word : (keyword other text rest : List ℕ) → IsPlain other → IsWord other text rest → is_word keyword text ≡ pointwise nat_eq other keyword
is-other_word keyword other text rest plain h = ap (λ w. pointwise nat_eq w keyword) (word_is other text rest plain h).0

pub nothing_left : (text : List ℕ) → (length (after_blanks text) == 0) ≡ true → AreBlanks text
nothing_left text h = blanks_only text (nil_from_length (after_blanks text) (grind (arith, nat_tests, h)))

pub nothing_more : (text : List ℕ) → AreBlanks text → (length (after_blanks text) == 0) ≡ true
nothing_more text h = rw (only_blanks text h) refl

-- ---- the header
pub is_header-is : (content : List ℕ) → is_header content ≡ true → IsHeader content
is_header-is content h =
    let first = and_true (is_word (codes "lie") content && is_word (codes "1") (behind_word content)) _ h in
    let words = and_true (is_word (codes "lie") content) (is_word (codes "1") (behind_word content)) first.0 in
    record {
      behind_name = behind_word content;
      behind = behind_word (behind_word content);
      name = is_word-is (codes "lie") content words.0;
      version = is_word-is (codes "1") (behind_word content) words.1;
      ends = nothing_left (behind_word (behind_word content)) first.1;
    }

pub is-is_header : (content : List ℕ) → IsHeader content → is_header content ≡ true
is-is_header content h =
    let plain_name : IsPlain (codes "lie") = (refl, (refl, (refl, tt))) in
    let plain_version : IsPlain (codes "1") = (refl, tt) in
    let name = is-is_word (codes "lie") content h.behind_name plain_name h.name in
    let rest = (word_is (codes "lie") content h.behind_name plain_name h.name).1 in
    let version = is-is_word (codes "1") h.behind_name h.behind plain_version h.version in
    let last = (word_is (codes "1") h.behind_name h.behind plain_version h.version).1 in
    rw (name, rest, version, last, nothing_more h.behind h.ends) refl

-- ---- names
pub record IsNameRead (given : List ℕ) (count : ℕ) (word : List ℕ) (n : ℕ) : Type 0 where
  pub spelled : word ≡ n ∷ []
  pub is_letter : is_in Letter n ≡ true
  pub few : count < 4
  pub fresh : list_any (λ m. m == n) given ≡ false

pub name_then : (given : List ℕ) (count : ℕ) (word text : List ℕ) (n : ℕ) → name_of given count word text ≡ Ok n → IsNameRead given count word n
name_then given count [] text n h = cc
name_then given count (c ∷ []) text n h =
    let letter = guard_else (is_in Letter c) (stop NameBad text) (if nat_le 4 count then Err (stop TooManyNames text) else if list_any (λ m. m == c) given then Err (stop NameTwice text) else Ok c) n h in
    let few = guard_then (nat_le 4 count) (stop TooManyNames text) (if list_any (λ m. m == c) given then Err (stop NameTwice text) else Ok c) n letter.1 in
    let fresh = guard_then (list_any (λ m. m == c) given) (stop NameTwice text) (Ok c) n few.1 in
    let same : c ≡ n = ok_is c n fresh.1 in
    subst (IsNameRead given count (c ∷ [])) same (record { spelled = refl; is_letter = letter.0; few = grind (arith, nat_tests, few.0); fresh = fresh.0 })
name_then given count (c ∷ d ∷ cs) text n h = cc

is-name_of : (given : List ℕ) (count n : ℕ) (text : List ℕ) → is_in Letter n ≡ true → count < 4 → list_any (λ m. m == n) given ≡ false → name_of given count (n ∷ []) text ≡ Ok n
is-name_of given count n text letter few fresh = let low : nat_le 4 count ≡ false = grind (arith, nat_tests, few) in rw (letter, low, fresh) refl

pub record AreNamesRead (b : ℕ) (given text : List ℕ) (x : List ℕ × List ℕ) : Type 0 where
  pub names : List ℕ
  pub rest : List ℕ
  pub are : AreNames given text names rest
  pub ends : AreBlanks rest
  pub put : x.0 ≡ given ++ names
  pub left : x.1 ≡ []
  pub few : b ≤ length given → length given ≤ b + 4 → length x.0 ≤ b + 4

no_name : (b : ℕ) (given text : List ℕ) (x : List ℕ × List ℕ) → after_blanks text ≡ [] → ◌≡◌ {A = List ℕ × List ℕ} (given, []) x → AreNamesRead b given text x
no_name b given text x at same = subst (AreNamesRead b given text) same (record { names = []; rest = text; are = refl; ends = blanks_only text at; put = sym (append-nil given); left = refl; few = λ low high. high })

a_name : (b : ℕ) (given text : List ℕ) (x : List ℕ × List ℕ) (c n : ℕ) (cs : List ℕ) → after_blanks text ≡ c ∷ cs → IsNameRead given (length given - b) (run Word (c ∷ cs)) n
    → AreNamesRead b (given ++ n ∷ []) (behind Word (c ∷ cs)) x → AreNamesRead b given text x
a_name b given text x c n cs at name more =
    let word : IsWord (run Word (c ∷ cs)) text (behind Word (c ∷ cs)) = subst (λ (bs : List ℕ). IsWord (run Word bs) text (behind Word bs)) at (word_off text) in
    let count = name.few in
    let longer : length (given ++ n ∷ []) ≡ length given + 1 = length-append given (n ∷ []) in
    record {
      names = n ∷ more.names;
      rest = more.rest;
      ends = more.ends;
      left = more.left;
      are = (behind Word (c ∷ cs), subst (λ w. IsWord w text (behind Word (c ∷ cs))) name.spelled word, name.is_letter, name.fresh, more.are);
      put = more.put ∙ append_assoc given (n ∷ []) more.names;
      few = λ low high. more.few (omega arith) (omega arith);
    }

name_step : (b : ℕ) (f : List ℕ → List ℕ → Result (List ℕ × List ℕ) Stop) (given text : List ℕ) (x : List ℕ × List ℕ) → ((g t : List ℕ) → f g t ≡ Ok x → AreNamesRead b g t x)
    → (name_turn b given text >>= after f) ≡ Ok x → AreNamesRead b given text x
name_step b f given text x again h = go (after_blanks text) refl h
  where
    go : (bs : List ℕ) → after_blanks text ≡ bs → (name_by b given bs >>= after f) ≡ Ok x → AreNamesRead b given text x
    go [] at e = no_name b given text x at (ok_is (given, []) x e)
    go (c ∷ cs) at e =
        let turn : ℕ → Result (Turn (List ℕ) (List ℕ × List ℕ)) Stop = λ n. Ok (goes_on (given ++ n ∷ []) (behind Word (c ∷ cs))) in
        bind_then (name_of given (length given - b) (run Word (c ∷ cs)) (c ∷ cs) >>= turn) (after f) x e (λ z is_z next.
        bind_then (name_of given (length given - b) (run Word (c ∷ cs)) (c ∷ cs)) turn z is_z (λ n is_n made.
        a_name b given text x c n cs at (name_then given (length given - b) (run Word (c ∷ cs)) (c ∷ cs) n is_n)
        (again (given ++ n ∷ []) (behind Word (c ∷ cs)) (subst (λ w. after f w ≡ Ok x) (sym (ok_is (goes_on (given ++ n ∷ []) (behind Word (c ∷ cs))) z made)) next))))

name_turns-is : (b n : ℕ) (given text : List ℕ) (x : List ℕ × List ℕ) → turns (name_turn b) n given text ≡ Ok x → AreNamesRead b given text x
name_turns-is b zero given text x h = cc
name_turns-is b (suc n) given text x h = name_step b (turns (name_turn b) n) given text x (λ g t. name_turns-is b n g t x) h

pub all_names-is : (b : ℕ) (given text : List ℕ) (x : List ℕ × List ℕ) → all_turns (name_turn b) given text ≡ Ok x → AreNamesRead b given text x
unfolding all_turns
all_names-is b given text x h = name_turns-is b (suc (length text)) given text x h

pub letter_plain : (n : ℕ) → is_in Letter n ≡ true → IsPlain (n ∷ [])
letter_plain n h = let range = letter_range n h in let low = range.0 in (word_other n (no_blank_above n (omega arith)), tt)

-- the names in front are read, and then what is behind
pub names_pass : (b : ℕ) (given text names rest : List ℕ) → AreNames given text names rest → b ≤ length given → length (given ++ names) ≤ b + 4
    → all_turns (name_turn b) given text ≡ all_turns (name_turn b) (given ++ names) rest
names_pass b given text [] rest h low high = ap (all_turns (name_turn b) given) h ∙ ap (λ g. all_turns (name_turn b) g rest) (sym (append-nil given))
names_pass b given text (n ∷ ns) rest h low high =
    let back = h.0 in
    let plain : IsPlain (n ∷ []) = letter_plain n h.2 in
    let parts = word_is (n ∷ []) text back plain h.1 in
    let whole : after_blanks text ≡ n ∷ back = run_is Word (after_blanks text) ∙ ap (λ w. w ++ behind_word text) parts.0 ∙ ap (λ r. n ∷ r) parts.1 in
    let all : given ++ (n ∷ ns) ≡ (given ++ n ∷ []) ++ ns = sym (append_assoc given (n ∷ []) ns) in
    let longer : length (given ++ n ∷ []) ≡ length given + 1 = length-append given (n ∷ []) in
    let sum : length (given ++ (n ∷ ns)) ≡ length given + length (n ∷ ns) = length-append given (n ∷ ns) in
    let higher : length ((given ++ n ∷ []) ++ ns) ≤ b + 4 = subst (λ (l : List ℕ). length l ≤ b + 4) all high in
    let front : run Word (n ∷ back) ≡ n ∷ [] = ap (run Word) (sym whole) ∙ parts.0 in
    let tail : behind Word (n ∷ back) ≡ back = ap (behind Word) (sym whole) ∙ parts.1 in
    let name : name_of given (length given - b) (n ∷ []) (n ∷ back) ≡ Ok n = is-name_of given (length given - b) n (n ∷ back) h.2 (omega arith) h.3 in
    turns_on (name_turn b) (name_turn_takes b) given text (given ++ n ∷ []) back (ap (name_by b given) whole ∙ rw (front, tail, name) refl)
    ∙ names_pass b (given ++ n ∷ []) back ns rest h.4 (omega arith) higher ∙ ap (λ l. all_turns (name_turn b) l rest) (sym all)

pub is-all_names : (b : ℕ) (given text names rest : List ℕ) → AreNames given text names rest → AreBlanks rest → b ≤ length given → length (given ++ names) ≤ b + 4 → all_turns (name_turn b) given text ≡ Ok (given ++ names, [])
is-all_names b given text names rest h blanks low high =
    names_pass b given text names rest h low high ∙ turns_end (name_turn b) (name_turn_takes b) (given ++ names) rest (given ++ names, []) (ap (name_by b (given ++ names)) (only_blanks rest blanks))

pub record AreLineNames (before text all : List ℕ) : Type 0 where
  pub names : List ℕ
  pub rest : List ℕ
  pub are : AreNames before text names rest
  pub ends : AreBlanks rest
  pub put : all ≡ before ++ names
  pub some : 1 ≤ length names
  pub few : length names ≤ 4

pub names_at-is : (before text all : List ℕ) → names_at before text ≡ Ok all → AreLineNames before text all
unfolding names_at
names_at-is before text all h = bind_then (all_turns (name_turn (length before)) before text) (some_names (length before)) all h (λ x is_x rest.
    let read = all_names-is (length before) before text x is_x in
    let g = guard_then (length x.0 == length before) (stop Syntax x.1) (Ok x.0) all rest in
    let more : length x.0 ≢ length before = grind (arith, nat_tests, g.0) in
    let sum : length x.0 ≡ length before + length read.names = ap length read.put ∙ length-append before read.names in
    let high : length x.0 ≤ length before + 4 = read.few (omega arith) (omega arith) in
    record { names = read.names; rest = read.rest; are = read.are; ends = read.ends; put = sym (ok_is x.0 all g.1) ∙ read.put; some = omega arith; few = omega arith })

pub is-names_at : (before text names rest : List ℕ) → AreNames before text names rest → AreBlanks rest → 1 ≤ length names → length names ≤ 4 → names_at before text ≡ Ok (before ++ names)
unfolding names_at
is-names_at before text names rest h blanks some few =
    let sum : length (before ++ names) ≡ length before + length names = length-append before names in
    let more : (length (before ++ names) == length before) ≡ false = grind (arith, nat_tests, sum, some) in
    rw (is-all_names (length before) before text names rest h blanks (omega arith) (omega arith), more) refl
