-- Faults of coordinates: what stops the reader is a fault of the grammar, and each such fault stops it.
use Rattle.std.specs.Prelude.{ℕ, ◌≡◌, Bool, true, false, ◌==◌, nat_lt, List, [], ◌∷◌, ◌++◌, length, take, drop, if◌then◌else◌, Option, Some, None, IsSome, Ok, Err, refl}
use Rattle.std.specs.declared.result.Result.{Result}
use Rattle.std.proofs.Common.{sym, ap, ◌∙◌, subst, arith}
use Rattle.std.proofs.lemmas.Bool.Decides.{nat_tests}
use Rattle.lie_geometry.specs.Coordinates.{Space, Coordinate, jet}
use Rattle.lie_scan.specs.declared.fault.BadKind.TheVariants.{Syntax, UnknownName, Order}
use Rattle.lie_scan.specs.declared.runs.Class.TheVariants.{Letter}
use Rattle.lie_scan.specs.declared.stop.Stop.{Stop}
use Rattle.lie_scan.specs.Runs.{run, behind, is_in}
use Rattle.lie_scan.specs.Stops.{stop, ◌>>=◌}
use Rattle.lie_scan.specs.Names.{place_of, letter_counts}
use Rattle.lie_scan.specs.Tokens.{place_of_word, are_names, derivative_by, derivative, plain_by, plain, coordinate_by, coordinate_at}
use Rattle.lie_scan.specs.TokenGrammar.{BeginsOutside, IsNot}
use Rattle.lie_scan.specs.LineFaults.{IsLetters, IsName, IsWordRaised, IsCoordinateFault, no_coordinate, no_letter, no_name, not_dependent, not_independent, high_order}
use Rattle.lie_scan.proofs.Blanks.{run_is, run_in, run_front, behind_front, behind_none, behind_outside}
use Rattle.lie_scan.proofs.CoordinateLaws.{are_names-is, is-are_names, place_word-is}

-- ---- chains and tests that fail
pub err_is : {A E : Type 0} (d e : E) → ◌≡◌ {A = Result A E} (Err d) (Err e) → d ≡ e
err_is d e h = cc

pub bind_fails : {A B E : Type 0} {R : Type 0} (r : Result A E) (f : A → Result B E) (e : E) → (r >>= f) ≡ Err e → (r ≡ Err e → R) → ((x : A) → r ≡ Ok x → f x ≡ Err e → R) → R
bind_fails (Ok x) f e h k l = l x refl h
bind_fails (Err d) f e h k l = k (ap Err (err_is d e h))

pub test_fails : {A E : Type 0} {R : Type 0} (b : Bool) (d e : E) (r : Result A E) → (if b then Err d else r) ≡ Err e → (b ≡ true → d ≡ e → R) → (b ≡ false → r ≡ Err e → R) → R
test_fails true d e r h k l = k refl (cc)
test_fails false d e r h k l = l refl h

pub other_fails : {A E : Type 0} {R : Type 0} (b : Bool) (d e : E) (r : Result A E) → (if b then r else Err d) ≡ Err e → (b ≡ false → d ≡ e → R) → (b ≡ true → r ≡ Err e → R) → R
other_fails true d e r h k l = l refl h
other_fails false d e r h k l = k refl (cc)

abbrev with_rest : Result Coordinate Stop → List ℕ → Result (Coordinate × List ℕ) Stop
with_rest r rest = r >>= λ v. Ok (v, rest)

-- ---- names
named-is : (names word : List ℕ) (i : ℕ) → place_of_word names word ≡ Some i → IsName names word
named-is names word i h = let p = place_word-is names word i h in (p.0, i, p.1, p.2)

is-named : (names word : List ℕ) → IsName names word → (i : ℕ) × (place_of_word names word ≡ Some i)
is-named names word h = (h.1, ap (place_of_word names) h.2 ∙ h.3)

pub unnamed-is : (names word : List ℕ) → place_of_word names word ≡ None → IsName names word → ⊥
unnamed-is names word h is = let n = is-named names word is in let clash : ◌≡◌ {A = Option ℕ} None (Some n.0) = sym h ∙ n.1 in absurd (differ n.0 clash)
  where
    differ : (n : ℕ) → ◌≡◌ {A = Option ℕ} None (Some n) → ⊥
    differ n e = cc

is-unnamed : (names word : List ℕ) → (IsName names word → ⊥) → place_of_word names word ≡ None
is-unnamed names word h = go (place_of_word names word) refl
  where
    go : (o : Option ℕ) → place_of_word names word ≡ o → o ≡ None
    go None e = refl
    go (Some i) e = absurd (h (named-is names word i e))

not_names-is : (names word : List ℕ) → are_names names word ≡ false → (Rattle.std.specs.List.AllByRecursion (λ x. IsSome (place_of names x)) word → ⊥)
not_names-is names word h all = let clash : true ≡ false = sym (is-are_names names word all) ∙ h in absurd (differ clash)
  where
    differ : true ≡ false → ⊥
    differ e = cc

is-not_names : (names word : List ℕ) → (Rattle.std.specs.List.AllByRecursion (λ x. IsSome (place_of names x)) word → ⊥) → are_names names word ≡ false
is-not_names names word h = go (are_names names word) refl
  where
    go : (b : Bool) → are_names names word ≡ b → b ≡ false
    go false e = refl
    go true e = absurd (h (are_names-is names word e))

-- ---- what stops a coordinate
pub no_run : (bs : List ℕ) → (length (run Letter bs) == 0) ≡ true → BeginsOutside Letter bs
no_run [] e = tt
no_run (b ∷ bs) e = go (is_in Letter b) e
  where
    go : (t : Bool) → (length (if t then b ∷ run Letter bs else []) == 0) ≡ true → t ≡ false
    go false k = refl
    go true k = let none : length (b ∷ run Letter bs) ≡ 0 = grind (arith, nat_tests, k) in absurd (omega arith)

module _ (S : Space) (names text : List ℕ) where
  alone_fails : (word rest : List ℕ) (s : Stop) → text ≡ word ++ rest → IsLetters word → BeginsOutside Letter rest → IsNot 95 rest → with_rest (plain S names word text) rest ≡ Err s → IsCoordinateFault S names text s
  unfolding plain
  alone_fails word rest s spelled letters ended not h = go (place_of_word names word) refl h
    where
      go : (o : Option ℕ) → place_of_word names word ≡ o → with_rest (plain_by S o text) rest ≡ Err s → IsCoordinateFault S names text s
      go None at e = subst (IsCoordinateFault S names text) (err_is (stop UnknownName text) s e)
          (no_name word (record { rest = rest; letters = letters; spelled = spelled; ended = ended; alone = not }) (unnamed-is names word at))
      go (Some i) at e = cc

  derivative_fails : (word by : List ℕ) (s : Stop) → IsWordRaised text word by → derivative S names word by text ≡ Err s → IsCoordinateFault S names text s
  unfolding derivative
  derivative_fails word by s raised h = go (place_of_word (drop S.p names) word) refl h
    where
      go : (o : Option ℕ) → place_of_word (drop S.p names) word ≡ o → derivative_by S o (take S.p names) by text ≡ Err s → IsCoordinateFault S names text s
      go None at e = subst (IsCoordinateFault S names text) (err_is (stop UnknownName text) s e) (not_dependent word by raised (unnamed-is (drop S.p names) word at))
      go (Some a) at e =
          let made : Coordinate = jet a (take S.p (letter_counts (take S.p names) by)) in
          other_fails (are_names (take S.p names) by) (stop UnknownName text) s (if nat_lt 6 (length by) then Err (stop Order text) else Ok made) e
          (λ unknown same. subst (IsCoordinateFault S names text) same (not_independent word by raised (not_names-is (take S.p names) by unknown)))
          (λ known more. test_fails (nat_lt 6 (length by)) (stop Order text) s (Ok made) more
          (λ high same. subst (IsCoordinateFault S names text) same
          (high_order word by raised (named-is (drop S.p names) word a at) (are_names-is (take S.p names) by known) (grind (arith, nat_tests, high))))
          (λ low rest. cc))

  raised_fails : (word cs : List ℕ) (s : Stop) → text ≡ word ++ (95 ∷ cs) → IsLetters word
      → (if length (run Letter cs) == 0 then Err (stop Syntax cs) else with_rest (derivative S names word (run Letter cs) text) (behind Letter cs)) ≡ Err s → IsCoordinateFault S names text s
  raised_fails word cs s spelled letters h =
      test_fails (length (run Letter cs) == 0) (stop Syntax cs) s (with_rest (derivative S names word (run Letter cs) text) (behind Letter cs)) h
      (λ none same. subst (IsCoordinateFault S names text) same (no_letter word cs letters spelled (no_run cs none)))
      (λ some more.
      let raised : IsWordRaised text word (run Letter cs) = record {
        rest = behind Letter cs;
        letters = letters;
        by_letters = record { are = run_in Letter cs; some = grind (arith, nat_tests, some) };
        spelled = spelled ∙ ap (λ l. word ++ (95 ∷ l)) (run_is Letter cs);
        ended = behind_outside Letter cs;
      } in
      bind_fails (derivative S names word (run Letter cs) text) (λ v. Ok (v, behind Letter cs)) s more (λ e. derivative_fails word (run Letter cs) s raised e) (λ v is rest. cc))

  by_fails : (word rest : List ℕ) (s : Stop) → text ≡ word ++ rest → IsLetters word → BeginsOutside Letter rest → coordinate_by S names text word rest ≡ Err s → IsCoordinateFault S names text s
  by_fails word [] s spelled letters ended h = alone_fails word [] s spelled letters tt tt h
  by_fails word (c ∷ cs) s spelled letters ended h = go (c == 95) refl h
    where
      go : (t : Bool) → (c == 95) ≡ t
          → (if t then (if length (run Letter cs) == 0 then Err (stop Syntax cs) else with_rest (derivative S names word (run Letter cs) text) (behind Letter cs)) else with_rest (plain S names word text) (c ∷ cs)) ≡ Err s
          → IsCoordinateFault S names text s
      go false test e = alone_fails word (c ∷ cs) s spelled letters ended test e
      go true test e = let line : c ≡ 95 = grind (arith, nat_tests, test) in raised_fails word cs s (spelled ∙ ap (λ b. word ++ (b ∷ cs)) line) letters e

pub coordinate_at-fails : (S : Space) (names text : List ℕ) (s : Stop) → coordinate_at S names text ≡ Err s → IsCoordinateFault S names text s
unfolding coordinate_at
coordinate_at-fails S names text s h =
    test_fails (length (run Letter text) == 0) (stop Syntax text) s (coordinate_by S names text (run Letter text) (behind Letter text)) h
    (λ none same. subst (IsCoordinateFault S names text) same (no_coordinate (no_run text none)))
    (λ some more. by_fails S names text (run Letter text) (behind Letter text) s (run_is Letter text) (record { are = run_in Letter text; some = grind (arith, nat_tests, some) }) (behind_outside Letter text) more)

-- ---- each fault of a coordinate stops the reader
pub run_nothing : (bs : List ℕ) → BeginsOutside Letter bs → (length (run Letter bs) == 0) ≡ true
run_nothing [] h = refl
run_nothing (b ∷ bs) h = rw h refl

module _ (S : Space) (names text word : List ℕ) (letters : IsLetters word) where
  some_letters : (length word == 0) ≡ false
  some_letters = let some = letters.some in grind (arith, nat_tests, some)

  by_word : (rest : List ℕ) → text ≡ word ++ rest → BeginsOutside Letter rest → coordinate_at S names text ≡ coordinate_by S names text word rest
  unfolding coordinate_at
  by_word rest spelled ended =
      let front : run Letter text ≡ word = ap (run Letter) spelled ∙ run_front Letter word rest letters.are ended in
      let back : behind Letter text ≡ rest = ap (behind Letter) spelled ∙ behind_front Letter word rest letters.are ∙ behind_none Letter rest ended in
      rw (front, back, some_letters) refl

unknown_alone : (S : Space) (names text word rest : List ℕ) → IsNot 95 rest → (IsName names word → ⊥) → coordinate_by S names text word rest ≡ Err (stop UnknownName text)
unfolding plain
unknown_alone S names text word [] not unknown = rw (is-unnamed names word unknown) refl
unknown_alone S names text word (c ∷ cs) not unknown = rw (not, is-unnamed names word unknown) refl

raised_by : (S : Space) (names text word by rest : List ℕ) → IsLetters by → BeginsOutside Letter rest → coordinate_by S names text word (95 ∷ (by ++ rest)) ≡ with_rest (derivative S names word by text) rest
raised_by S names text word by rest letters ended =
    let front : run Letter (by ++ rest) ≡ by = run_front Letter by rest letters.are ended in
    let back : behind Letter (by ++ rest) ≡ rest = behind_front Letter by rest letters.are ∙ behind_none Letter rest ended in
    let some = letters.some in
    let more : (length by == 0) ≡ false = grind (arith, nat_tests, some) in
    rw (front, back, more) refl

raised_stops : (S : Space) (names text word by : List ℕ) (s : Stop) → IsWordRaised text word by → derivative S names word by text ≡ Err s → coordinate_at S names text ≡ Err s
raised_stops S names text word by s raised h =
    by_word S names text word raised.letters (95 ∷ (by ++ raised.rest)) raised.spelled refl ∙ raised_by S names text word by raised.rest raised.by_letters raised.ended ∙ ap (λ r. with_rest r raised.rest) h

pub is-coordinate_fault : (S : Space) (names text : List ℕ) (s : Stop) → IsCoordinateFault S names text s → coordinate_at S names text ≡ Err s
unfolding coordinate_at derivative
is-coordinate_fault S names text s (no_coordinate none) = rw (run_nothing text none) refl
is-coordinate_fault S names text s (no_letter word rest letters spelled none) =
    by_word S names text word letters (95 ∷ rest) spelled refl ∙ rw (run_nothing rest none) refl
is-coordinate_fault S names text s (no_name word alone unknown) =
    by_word S names text word alone.letters alone.rest alone.spelled alone.ended ∙ unknown_alone S names text word alone.rest alone.alone unknown
is-coordinate_fault S names text s (not_dependent word by raised unknown) = raised_stops S names text word by (stop UnknownName text) raised (rw (is-unnamed (drop S.p names) word unknown) refl)
is-coordinate_fault S names text s (not_independent word by raised unknown) = raised_stops S names text word by (stop UnknownName text) raised (go (place_of_word (drop S.p names) word))
  where
    go : (o : Option ℕ) → derivative_by S o (take S.p names) by text ≡ Err (stop UnknownName text)
    go None = refl
    go (Some a) = rw (is-not_names (take S.p names) by unknown) refl
is-coordinate_fault S names text s (high_order word by raised named independent high) =
    let n = is-named (drop S.p names) word named in
    let past : nat_lt 6 (length by) ≡ true = grind (arith, nat_tests, high) in
    raised_stops S names text word by (stop Order text) raised (rw (n.1, is-are_names (take S.p names) by independent, past) refl)
