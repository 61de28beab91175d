-- Faults of lines of names: what stops the reader is a fault of the grammar, and each such fault stops it.
use Rattle.std.specs.Prelude.{ℕ, zero, suc, ◌≡◌, ◌+◌, ◌-◌, ◌<◌, ◌≤◌, Bool, true, false, ◌==◌, nat_le, List, [], ◌∷◌, ◌++◌, length, if◌then◌else◌, Option, Some, None, Ok, Err, refl}
use Rattle.std.specs.declared.result.Result.{Result}
use Rattle.std.specs.List.{list_any}
use Rattle.std.proofs.Common.{append_assoc, length-append, sym, ap, ◌∙◌, subst, arith}
use Rattle.std.proofs.lemmas.Bool.Decides.{nat_tests}
use Rattle.std.proofs.lemmas.List.{append-nil}
use Rattle.std.proofs.lemmas.Bool.{false_from_ne_true}
use Rattle.lie_scan.specs.declared.fault.BadKind.TheVariants.{UnknownWord, NameBad, NameTwice, TooManyNames, Syntax}
use Rattle.lie_scan.specs.declared.runs.Class.TheVariants.{Blank, Letter, Word}
use Rattle.lie_scan.specs.declared.stop.Stop.{Stop}
use Rattle.lie_file.specs.declared.lines.FileFail.{FileFail}
use Rattle.lie_file.specs.declared.lines.FileFail.TheVariants as fails
use Rattle.lie_scan.specs.Runs.{run, behind, after_blanks, is_in}
use Rattle.lie_scan.specs.Stops.{stop, ◌>>=◌}
use Rattle.lie_scan.specs.Turns.{Turn, goes_on, after, turns, all_turns}
use Rattle.lie_file.specs.Places.{next_line, fault_at, placed}
use Rattle.lie_file.specs.FileLines.{in_line, is_word, behind_word, name_of, name_by, name_turn, some_names, names_at, names_by, names_of}
use Rattle.lie_scan.specs.TokenGrammar.{AreIn, BeginsOutside, AreBlanks}
use Rattle.lie_file.specs.FileGrammar.{IsWord, AreNames}
use Rattle.lie_file.specs.FileFaults.{IsLetter, IsOther, IsNamesFault, no_names, bad_name, fifth_name, second_name, IsNamesLineFault, no_line, other_keyword, in_names}
use Rattle.lie_scan.proofs.Blanks.{bind_then, ok_is, run_in, behind_outside}
use Rattle.lie_scan.proofs.TurnSteps.{turns_stop, turn_less}
use Rattle.lie_file.proofs.NameSteps.{name_turn_takes}
use Rattle.lie_file.proofs.WordLaws.{word_other, word_off, is_word-is, IsPlain, plain_in, word_is, is-is_word, letter_plain, IsNameRead, name_then, names_pass, AreNamesRead, all_names-is, is-all_names}
use Rattle.lie_scan.proofs.CoordinateFaults.{err_is, bind_fails, test_fails, other_fails}

-- ---- one name
-- what is wrong with a word behind names
pub data IsNameFault (given : List ℕ) (count : ℕ) (word text : List ℕ) : Stop → Type 0 where
  no_letter : (IsLetter word → ⊥) → IsNameFault given count word text (stop NameBad text)
  past_four : IsLetter word → 4 ≤ count → IsNameFault given count word text (stop TooManyNames text)
  given_before : (l : ℕ) → word ≡ l ∷ [] → is_in Letter l ≡ true → count < 4 → list_any (λ m. m == l) given ≡ true → IsNameFault given count word text (stop NameTwice text)

name_of-fails : (given : List ℕ) (count : ℕ) (word text : List ℕ) (s : Stop) → name_of given count word text ≡ Err s → IsNameFault given count word text s
name_of-fails given count [] text s h = subst (IsNameFault given count [] text) (err_is (stop NameBad text) s h) (no_letter (λ l. differ l.0 l.1))
  where
    differ : (l : ℕ) → ◌≡◌ {A = List ℕ} [] (l ∷ []) → ⊥
    differ l e = cc
name_of-fails given count (c ∷ []) text s h =
    other_fails (is_in Letter c) (stop NameBad text) s (if nat_le 4 count then Err (stop TooManyNames text) else if list_any (λ m. m == c) given then Err (stop NameTwice text) else Ok c) h
    (λ none same. subst (IsNameFault given count (c ∷ []) text) same (no_letter (λ l. differ l.0 none l.1 l.2)))
    (λ letter more. test_fails (nat_le 4 count) (stop TooManyNames text) s (if list_any (λ m. m == c) given then Err (stop NameTwice text) else Ok c) more
    (λ high same. subst (IsNameFault given count (c ∷ []) text) same (past_four (c, refl, letter) (grind (arith, nat_tests, high))))
    (λ low rest. test_fails (list_any (λ m. m == c) given) (stop NameTwice text) s (Ok c) rest
    (λ twice same. subst (IsNameFault given count (c ∷ []) text) same (given_before c refl letter (grind (arith, nat_tests, low)) twice))
    (λ fresh k. cc)))
  where
    differ : (l : ℕ) → is_in Letter c ≡ false → ◌≡◌ {A = List ℕ} (c ∷ []) (l ∷ []) → is_in Letter l ≡ true → ⊥
    differ l none same letter = let e : c ≡ l = cc in let clash : true ≡ false = sym letter ∙ ap (is_in Letter) (sym e) ∙ none in clash_is clash
      where
        clash_is : true ≡ false → ⊥
        clash_is k = cc
name_of-fails given count (c ∷ d ∷ cs) text s h = subst (IsNameFault given count (c ∷ d ∷ cs) text) (err_is (stop NameBad text) s h) (no_letter (λ l. differ l.0 l.1))
  where
    differ : (l : ℕ) → ◌≡◌ {A = List ℕ} (c ∷ d ∷ cs) (l ∷ []) → ⊥
    differ l e = let tail : ◌≡◌ {A = List ℕ} (d ∷ cs) [] = cc in tail_is tail
      where
        tail_is : ◌≡◌ {A = List ℕ} (d ∷ cs) [] → ⊥
        tail_is k = cc

is-name_fault : (given : List ℕ) (count : ℕ) (word text : List ℕ) (s : Stop) → IsNameFault given count word text s → name_of given count word text ≡ Err s
is-name_fault given count word text s (no_letter none) = go word none
  where
    go : (w : List ℕ) → (IsLetter w → ⊥) → name_of given count w text ≡ Err (stop NameBad text)
    go [] k = refl
    go (c ∷ []) k = rw (false_from_ne_true (is_in Letter c) (λ e. k (c, refl, e))) refl
    go (c ∷ d ∷ cs) k = refl
is-name_fault given count word text s (past_four letter high) =
    let past : nat_le 4 count ≡ true = grind (arith, nat_tests, high) in
    rw (letter.1) (rw (letter.2, past) refl)
is-name_fault given count word text s (given_before l spelled letter low twice) =
    let few : nat_le 4 count ≡ false = grind (arith, nat_tests, low) in
    rw spelled (rw (letter, few, twice) refl)

-- ---- names one by one
pub record IsNamesStop (b : ℕ) (given text : List ℕ) (s : Stop) : Type 0 where
  pub names : List ℕ
  pub rest : List ℕ
  pub word : List ℕ
  pub back : List ℕ
  pub are : AreNames given text names rest
  pub few : length (given ++ names) ≤ b + 4
  pub is_word : IsWord word rest back
  pub in_word : AreIn Word word
  pub some : 1 ≤ length word
  pub fault : IsNameFault (given ++ names) (length (given ++ names) - b) word (after_blanks rest) s

word_some : (c : ℕ) (cs : List ℕ) → is_in Blank c ≡ false → 1 ≤ length (run Word (c ∷ cs))
word_some c cs h = rw (word_other c h) (omega arith)

module _ (b : ℕ) (s : Stop) where
  stop_here : (given text : List ℕ) (c : ℕ) (cs : List ℕ) → after_blanks text ≡ c ∷ cs → length given ≤ b + 4 → name_of given (length given - b) (run Word (c ∷ cs)) (c ∷ cs) ≡ Err s → IsNamesStop b given text s
  stop_here given text c cs at high h =
      let none : given ++ [] ≡ given = append-nil given in
      let outside : is_in Blank c ≡ false = subst (BeginsOutside Blank) at (behind_outside Blank text) in
      let fault = name_of-fails given (length given - b) (run Word (c ∷ cs)) (c ∷ cs) s h in
      record {
        names = [];
        rest = text;
        word = run Word (c ∷ cs);
        back = behind Word (c ∷ cs);
        are = refl;
        few = subst (λ (g : List ℕ). length g ≤ b + 4) (sym none) high;
        is_word = subst (λ (bs : List ℕ). IsWord (run Word bs) text (behind Word bs)) at (word_off text);
        in_word = run_in Word (c ∷ cs);
        some = word_some c cs outside;
        fault = subst (λ (g : List ℕ). IsNameFault g (length g - b) (run Word (c ∷ cs)) (after_blanks text) s) (sym none) (subst (λ (bs : List ℕ). IsNameFault given (length given - b) (run Word (c ∷ cs)) bs s) (sym at) fault);
      }

  stop_later : (given text : List ℕ) (c n : ℕ) (cs : List ℕ) → after_blanks text ≡ c ∷ cs → IsNameRead given (length given - b) (run Word (c ∷ cs)) n → IsNamesStop b (given ++ n ∷ []) (behind Word (c ∷ cs)) s
      → IsNamesStop b given text s
  stop_later given text c n cs at name more =
      let word : IsWord (run Word (c ∷ cs)) text (behind Word (c ∷ cs)) = subst (λ (bs : List ℕ). IsWord (run Word bs) text (behind Word bs)) at (word_off text) in
      let all : (given ++ n ∷ []) ++ more.names ≡ given ++ (n ∷ more.names) = append_assoc given (n ∷ []) more.names in
      record {
        names = n ∷ more.names;
        rest = more.rest;
        word = more.word;
        back = more.back;
        are = (behind Word (c ∷ cs), subst (λ w. IsWord w text (behind Word (c ∷ cs))) name.spelled word, name.is_letter, name.fresh, more.are);
        few = subst (λ (g : List ℕ). length g ≤ b + 4) all more.few;
        is_word = more.is_word;
        in_word = more.in_word;
        some = more.some;
        fault = subst (λ (g : List ℕ). IsNameFault g (length g - b) more.word (after_blanks more.rest) s) all more.fault;
      }

  stop_step : (f : List ℕ → List ℕ → Result (List ℕ × List ℕ) Stop) (given text : List ℕ) → b ≤ length given → length given ≤ b + 4
      → ((g t : List ℕ) → length t < length text → b ≤ length g → length g ≤ b + 4 → f g t ≡ Err s → IsNamesStop b g t s) → (name_turn b given text >>= after f) ≡ Err s → IsNamesStop b given text s
  stop_step f given text low high again h = go (after_blanks text) refl h
    where
      go : (bs : List ℕ) → after_blanks text ≡ bs → (name_by b given bs >>= after f) ≡ Err s → IsNamesStop b given text s
      go [] at e = cc
      go (c ∷ cs) at e =
          let word = run Word (c ∷ cs) in
          let turn : ℕ → Result (Turn (List ℕ) (List ℕ × List ℕ)) Stop = λ n. Ok (goes_on (given ++ n ∷ []) (behind Word (c ∷ cs))) in
          bind_fails (name_of given (length given - b) word (c ∷ cs) >>= turn) (after f) s e
          (λ k. bind_fails (name_of given (length given - b) word (c ∷ cs)) turn s k (λ l. stop_here given text c cs at high l) (λ n is_n l. cc))
          (λ z is_z next. bind_then (name_of given (length given - b) word (c ∷ cs)) turn z is_z (λ n is_n made.
          let name = name_then given (length given - b) word (c ∷ cs) n is_n in
          let count = name.few in
          let longer : length (given ++ n ∷ []) ≡ length given + 1 = length-append given (n ∷ []) in
          let is : name_turn b given text ≡ Ok (goes_on (given ++ n ∷ []) (behind Word (c ∷ cs))) = ap (name_by b given) at ∙ ap (λ r. r >>= turn) is_n in
          let less = turn_less (name_turn b) (name_turn_takes b) given text (given ++ n ∷ []) (behind Word (c ∷ cs)) is in
          stop_later given text c n cs at name
          (again (given ++ n ∷ []) (behind Word (c ∷ cs)) less (omega arith) (omega arith) (subst (λ w. after f w ≡ Err s) (sym (ok_is (goes_on (given ++ n ∷ []) (behind Word (c ∷ cs))) z made)) next))))

  name_turns-stop : (n : ℕ) (given text : List ℕ) → length text < n → b ≤ length given → length given ≤ b + 4 → turns (name_turn b) n given text ≡ Err s → IsNamesStop b given text s
  name_turns-stop zero given text less low high h = absurd (omega arith)
  name_turns-stop (suc n) given text less low high h = stop_step (turns (name_turn b) n) given text low high (λ g t shorter. name_turns-stop n g t (omega arith)) h

  all_names-stop : (given text : List ℕ) → b ≤ length given → length given ≤ b + 4 → all_turns (name_turn b) given text ≡ Err s → IsNamesStop b given text s
  unfolding all_turns
  all_names-stop given text low high h = name_turns-stop (suc (length text)) given text (omega arith) low high h

-- ---- the names of a line
names_stop-is : (before text : List ℕ) (s : Stop) → IsNamesStop (length before) before text s → IsNamesFault before text s
names_stop-is before text s h = go s h.fault
  where
    go : (r : Stop) → IsNameFault (before ++ h.names) (length (before ++ h.names) - length before) h.word (after_blanks h.rest) r → IsNamesFault before text r
    go r (no_letter none) = let few = h.few in let sum = length-append before h.names in bad_name h.names h.rest h.word h.back h.are (omega arith) h.is_word h.in_word h.some none
    go r (past_four letter high) = let few = h.few in let sum = length-append before h.names in fifth_name h.names h.rest h.word h.back h.are (omega arith) h.is_word letter
    go r (given_before l spelled letter low twice) = let sum = length-append before h.names in second_name h.names h.rest l h.back h.are (omega arith) (subst (λ w. IsWord w h.rest h.back) spelled h.is_word) letter twice

no_names_left : (before text : List ℕ) (x : List ℕ × List ℕ) → AreNamesRead (length before) before text x → length x.0 ≡ length before → AreBlanks text
no_names_left before text x h same = go h.names h.are (sym (length-append before h.names) ∙ ap length (sym h.put) ∙ same)
  where
    go : (names : List ℕ) → AreNames before text names h.rest → length before + length names ≡ length before → AreBlanks text
    go [] are e = subst AreBlanks (sym are) h.ends
    go (n ∷ ns) are e = absurd (omega arith)

names_at-fails : (before text : List ℕ) (s : Stop) → names_at before text ≡ Err s → IsNamesFault before text s
unfolding names_at
names_at-fails before text s h = bind_fails (all_turns (name_turn (length before)) before text) (some_names (length before)) s h
    (λ e. names_stop-is before text s (all_names-stop (length before) s before text (omega arith) (omega arith) e)) (λ x is_x more.
    let read = all_names-is (length before) before text x is_x in
    test_fails (length x.0 == length before) (stop Syntax x.1) s (Ok x.0) more
    (λ none same. subst (IsNamesFault before text) (ap (stop Syntax) (sym read.left) ∙ same) (no_names (no_names_left before text x read (grind (arith, nat_tests, none))))) (λ some k. cc))

by_word : (b : ℕ) (g bs word : List ℕ) → run Word bs ≡ word → 1 ≤ length word → name_by b g bs ≡ (name_of g (length g - b) word bs >>= λ n. Ok (goes_on (g ++ n ∷ []) (behind Word bs)))
by_word b g [] word h some = let none : length word ≡ 0 = ap length (sym h) in absurd (omega arith)
by_word b g (c ∷ cs) word h some = ap (λ w. name_of g (length g - b) w (c ∷ cs) >>= λ n. Ok (goes_on (g ++ n ∷ []) (behind Word (c ∷ cs)))) h

plain_is : (word : List ℕ) → AreIn Word word → 1 ≤ length word → IsPlain word
plain_is [] are some = absurd (omega arith)
plain_is (c ∷ cs) are some = are

names_stop : (before text names rest word back : List ℕ) (s : Stop) → AreNames before text names rest → length names ≤ 4 → IsWord word rest back → AreIn Word word → 1 ≤ length word
    → IsNameFault (before ++ names) (length (before ++ names) - length before) word (after_blanks rest) s → names_at before text ≡ Err s
unfolding names_at
names_stop before text names rest word back s are few is in_word some fault =
    let b = length before in
    let sum : length (before ++ names) ≡ length before + length names = length-append before names in
    let spelled : run Word (after_blanks rest) ≡ word = (word_is word rest back (plain_is word in_word some) is).0 in
    let stops = names_pass b before text names rest are (omega arith) (omega arith)
    ∙ turns_stop (name_turn b) (name_turn_takes b) (before ++ names) rest s
    (by_word b (before ++ names) (after_blanks rest) word spelled some ∙ ap (λ r. r >>= λ n. Ok (goes_on ((before ++ names) ++ n ∷ []) (behind Word (after_blanks rest)))) (is-name_fault (before ++ names) (length (before ++ names) - b) word (after_blanks rest) s fault)) in
    rw stops refl

pub append_less : (before names : List ℕ) → length (before ++ names) - length before ≡ length names
append_less before names = let e = length-append before names in omega arith

is-names_fault : (before text : List ℕ) (s : Stop) → IsNamesFault before text s → names_at before text ≡ Err s
unfolding names_at
is-names_fault before text s (no_names blanks) =
    let same : before ++ [] ≡ before = append-nil before in
    let none : (length (before ++ []) == length before) ≡ true = grind (arith, nat_tests, ap length same) in
    let high : length (before ++ []) ≤ length before + 4 = subst (λ (g : List ℕ). length g ≤ length before + 4) (sym same) (omega arith) in
    rw (is-all_names (length before) before text [] text refl blanks (omega arith) high, none) refl
is-names_fault before text s (bad_name names rest word back are few is in_word some none) = names_stop before text names rest word back (stop NameBad (after_blanks rest)) are few is in_word some (no_letter none)
is-names_fault before text s (fifth_name names rest word back are four is letter) =
    let count = append_less before names in
    let plain = subst IsPlain (sym letter.1) (letter_plain letter.0 letter.2) in
    names_stop before text names rest word back (stop TooManyNames (after_blanks rest)) are (omega arith) is (plain_in word plain) (subst (λ (w : List ℕ). 1 ≤ length w) (sym letter.1) (omega arith))
    (past_four letter (omega arith))
is-names_fault before text s (second_name names rest l back are few is letter twice) =
    let count = append_less before names in
    names_stop before text names rest (l ∷ []) back (stop NameTwice (after_blanks rest)) are (omega arith) is (letter_plain l letter) (omega arith) (given_before l refl letter (omega arith) twice)

-- ---- lines
pub in_line_fails : {A : Type 0} (content : List ℕ) (left : ℕ) (r : Result A Stop) (f : FileFail) → in_line content left r ≡ Err f → (s : Stop) × (r ≡ Err s) × (placed s content left ≡ f)
in_line_fails content left (Ok y) f h = cc
in_line_fails content left (Err s) f h = (s, refl, err_is (placed s content left) f h)

pub other_word-is : (keyword content : List ℕ) → IsPlain keyword → is_word keyword content ≡ false → IsOther keyword content
other_word-is keyword content plain h = λ rest is. clash (sym (is-is_word keyword content rest plain is) ∙ h)
  where
    clash : true ≡ false → ⊥
    clash e = cc

pub is-other_keyword : (keyword content : List ℕ) → IsOther keyword content → is_word keyword content ≡ false
is-other_keyword keyword content h = go (is_word keyword content) refl
  where
    go : (b : Bool) → is_word keyword content ≡ b → b ≡ false
    go false e = refl
    go true e = absurd (h (behind_word content) (is_word-is keyword content e))

pub names_of-fails : (keyword before : List ℕ) (lines : List (List ℕ)) (f : FileFail) → IsPlain keyword → names_of keyword before lines ≡ Err f → IsNamesLineFault keyword before lines f
unfolding names_of
names_of-fails keyword before lines f plain h = go (next_line lines) refl h
  where
    go : (o : Option (List ℕ × List (List ℕ))) → next_line lines ≡ o → names_by keyword before o ≡ Err f → IsNamesLineFault keyword before lines f
    go None at e = subst (IsNamesLineFault keyword before lines) (err_is fails.Ended f e) (no_line at)
    go (Some y) at e =
        let read = in_line y.0 (length y.1) (names_at before (behind_word y.0)) in
        other_fails (is_word keyword y.0) (fault_at UnknownWord y.0 (length y.1) (after_blanks y.0)) f (read >>= λ names. Ok (names, y.1)) e
        (λ other same. subst (IsNamesLineFault keyword before lines) same (other_keyword y.0 y.1 at (other_word-is keyword y.0 plain other)))
        (λ word more. bind_fails read (λ names. Ok (names, y.1)) f more
        (λ k. let s = in_line_fails y.0 (length y.1) (names_at before (behind_word y.0)) f k in
        subst (IsNamesLineFault keyword before lines) s.2 (in_names y.0 (behind_word y.0) y.1 s.0 at (is_word-is keyword y.0 word) (names_at-fails before (behind_word y.0) s.0 s.1)))
        (λ all is_all k. cc))

pub is-names_line_fault : (keyword before : List ℕ) (lines : List (List ℕ)) (f : FileFail) → IsPlain keyword → IsNamesLineFault keyword before lines f → names_of keyword before lines ≡ Err f
unfolding names_of
is-names_line_fault keyword before lines f plain (no_line none) = rw none refl
is-names_line_fault keyword before lines f plain (other_keyword content back next other) = rw (next, is-other_keyword keyword content other) refl
is-names_line_fault keyword before lines f plain (in_names content text back s next word fault) =
    rw (next, is-is_word keyword content text plain word, (word_is keyword content text plain word).1, is-names_fault before text s fault) refl
