-- Lines: what is read is of the grammar, and what is of the grammar is read.
use Rattle.std.specs.Prelude.{ℕ, ◌≡◌, ◌+◌, ◌<◌, ◌≤◌, Bool, true, false, ◌==◌, nat_le, List, [], ◌∷◌, ◌++◌, length, if◌then◌else◌, Option, Some, None, Ok, Err, codes, refl}
use Rattle.std.specs.declared.result.Result.{Result}
use Rattle.std.proofs.Common.{append_assoc, length-append, sym, ap, ◌∙◌, subst, arith}
use Rattle.std.proofs.lemmas.Bool.Decides.{nat_tests}
use Rattle.std.proofs.lemmas.List.{append-nil}
use Rattle.lie_geometry.specs.Coordinates.{Space}
use Rattle.lie_scan.specs.declared.fault.BadKind.TheVariants.{Header, UnknownWord, TooManyEquations, Syntax}
use Rattle.lie_scan.specs.declared.runs.Class.TheVariants.{Content}
use Rattle.lie_scan.specs.declared.stop.Stop.{Stop}
use Rattle.lie_scan.specs.Runs.{run, after_blanks}
use Rattle.lie_scan.specs.Stops.{◌>>=◌}
use Rattle.lie_system.specs.Systems.{EquationRead}
use Rattle.lie_file.specs.Places.{fault_at, next_line}
use Rattle.lie_file.specs.FileLines.{in_line, is_word, behind_word, is_header, header_by, after_header, names_at, names_by, names_of}
use Rattle.lie_file.specs.Files.{equation_at, nothing_behind, end_of, equation_line, end_line, line_of, further, equations_from}
use Rattle.lie_file.specs.FileGrammar.{IsHeader, IsNamesLine, IsEquationLine, IsEndLine, AreEquations, contents_of}
use Rattle.lie_scan.proofs.Blanks.{bind_then, guard_then, guard_else, ok_is}
use Rattle.lie_file.proofs.WordLaws.{is_word-is, IsPlain, word_is, is-is_word, is-other_word, nothing_left, nothing_more, is_header-is, is-is_header, names_at-is, is-names_at}
use Rattle.lie_file.proofs.EquationLaws.{equation_at-is, is-equation_at}

-- ---- lines that are not skipped
pub next_line-is : (lines : List (List ℕ)) (x : List ℕ × List (List ℕ)) → next_line lines ≡ Some x → contents_of lines ≡ x.0 ∷ contents_of x.1
next_line-is [] x h = cc
next_line-is (l ∷ ls) x h = go (length (after_blanks (run Content l)) == 0) (next_line-is ls x) h
  where
    go : (t : Bool) → (next_line ls ≡ Some x → contents_of ls ≡ x.0 ∷ contents_of x.1) → (if t then next_line ls else Some (run Content l, ls)) ≡ Some x
        → (if t then contents_of ls else run Content l ∷ contents_of ls) ≡ x.0 ∷ contents_of x.1
    go true k e = k e
    go false k e = let same : ◌≡◌ {A = List ℕ × List (List ℕ)} (run Content l, ls) x = cc in ap (λ (y : List ℕ × List (List ℕ)). y.0 ∷ contents_of y.1) same

pub no_line-is : (lines : List (List ℕ)) → next_line lines ≡ None → contents_of lines ≡ []
no_line-is [] h = refl
no_line-is (l ∷ ls) h = go (length (after_blanks (run Content l)) == 0) (no_line-is ls) h
  where
    go : (t : Bool) → (next_line ls ≡ None → contents_of ls ≡ []) → (if t then next_line ls else Some (run Content l, ls)) ≡ None → (if t then contents_of ls else run Content l ∷ contents_of ls) ≡ []
    go true k e = k e
    go false k e = cc

-- the first of the contents is that of the next line
pub record IsNextLine (lines : List (List ℕ)) (c : List ℕ) (cs : List (List ℕ)) : Type 0 where
  pub behind : List (List ℕ)
  pub next : next_line lines ≡ Some (c, behind)
  pub others : contents_of behind ≡ cs

pub is-next_line : (lines : List (List ℕ)) (c : List ℕ) (cs : List (List ℕ)) → contents_of lines ≡ c ∷ cs → IsNextLine lines c cs
is-next_line lines c cs h = go (next_line lines) refl
  where
    go : (o : Option (List ℕ × List (List ℕ))) → next_line lines ≡ o → IsNextLine lines c cs
    go None at = let clash : ◌≡◌ {A = List (List ℕ)} [] (c ∷ cs) = sym (no_line-is lines at) ∙ h in cc
    go (Some x) at =
        let same : x.0 ∷ contents_of x.1 ≡ c ∷ cs = sym (next_line-is lines x at) ∙ h in
        let first : x.0 ≡ c = cc in
        let others : contents_of x.1 ≡ cs = cc in
        record { behind = x.1; next = at ∙ ap (λ l. Some (l, x.1)) first; others = others }

pub is-no_line : (lines : List (List ℕ)) → contents_of lines ≡ [] → next_line lines ≡ None
is-no_line lines h = go (next_line lines) refl
  where
    go : (o : Option (List ℕ × List (List ℕ))) → next_line lines ≡ o → o ≡ None
    go None at = refl
    go (Some x) at = let clash : ◌≡◌ {A = List (List ℕ)} (x.0 ∷ contents_of x.1) [] = sym (next_line-is lines x at) ∙ h in cc

in_line_then : {A : Type 0} (content : List ℕ) (left : ℕ) (r : Result A Stop) (x : A) → in_line content left r ≡ Ok x → r ≡ Ok x
in_line_then content left (Ok y) x h = ap Ok (ok_is y x h)
in_line_then content left (Err s) x h = cc

-- ---- the header
pub after_header-is : (lines behind : List (List ℕ)) → after_header lines ≡ Ok behind → (c : List ℕ) × (contents_of lines ≡ c ∷ contents_of behind) × IsHeader c × (next_line lines ≡ Some (c, behind))
unfolding after_header
after_header-is lines behind h = go (next_line lines) refl h
  where
    go : (o : Option (List ℕ × List (List ℕ))) → next_line lines ≡ o → header_by o (length lines) ≡ Ok behind → (c : List ℕ) × (contents_of lines ≡ c ∷ contents_of behind) × IsHeader c × (next_line lines ≡ Some (c, behind))
    go None at e = cc
    go (Some x) at e =
        let g = guard_else (is_header x.0) (fault_at Header x.0 (length x.1) (after_blanks x.0)) (Ok x.1) behind e in
        (x.0, next_line-is lines x at ∙ ap (λ l. x.0 ∷ contents_of l) (ok_is x.1 behind g.1), is_header-is x.0 g.0, at ∙ ap (λ l. Some (x.0, l)) (ok_is x.1 behind g.1))

pub is-after_header : (lines : List (List ℕ)) (c : List ℕ) (cs : List (List ℕ)) → contents_of lines ≡ c ∷ cs → IsHeader c → (behind : List (List ℕ)) × (after_header lines ≡ Ok behind) × (contents_of behind ≡ cs)
unfolding after_header
is-after_header lines c cs h is = let n = is-next_line lines c cs h in (n.behind, rw (n.next, is-is_header c is) refl, n.others)

-- ---- lines of names
pub record IsNamesRead (keyword before : List ℕ) (lines : List (List ℕ)) (x : List ℕ × List (List ℕ)) : Type 0 where
  pub content : List ℕ
  pub names : List ℕ
  pub next : next_line lines ≡ Some (content, x.1)
  pub line : contents_of lines ≡ content ∷ contents_of x.1
  pub is : IsNamesLine keyword before content names
  pub put : x.0 ≡ before ++ names

pub names_of-is : (keyword before : List ℕ) (lines : List (List ℕ)) (x : List ℕ × List (List ℕ)) → names_of keyword before lines ≡ Ok x → IsNamesRead keyword before lines x
unfolding names_of
names_of-is keyword before lines x h = go (next_line lines) refl h
  where
    go : (o : Option (List ℕ × List (List ℕ))) → next_line lines ≡ o → names_by keyword before o ≡ Ok x → IsNamesRead keyword before lines x
    go None at e = cc
    go (Some y) at e =
        let read = in_line y.0 (length y.1) (names_at before (behind_word y.0)) in
        let g = guard_else (is_word keyword y.0) (fault_at UnknownWord y.0 (length y.1) (after_blanks y.0)) (read >>= λ names. Ok (names, y.1)) x e in
        bind_then read (λ names. Ok (names, y.1)) x g.1 (λ all is_all rest.
        let made : List ℕ × List (List ℕ) = (all, y.1) in
        let found = names_at-is before (behind_word y.0) all (in_line_then y.0 (length y.1) (names_at before (behind_word y.0)) all is_all) in
        subst (IsNamesRead keyword before lines) (ok_is made x rest) (record {
          content = y.0;
          names = found.names;
          next = at;
          line = next_line-is lines y at;
          is = record { behind = behind_word y.0; word = is_word-is keyword y.0 g.0; rest = found.rest; are = found.are; ends = found.ends; some = found.some; few = found.few };
          put = found.put;
        }))

pub is-names_of : (keyword before : List ℕ) (lines : List (List ℕ)) (c names : List ℕ) (cs : List (List ℕ)) → IsPlain keyword → contents_of lines ≡ c ∷ cs → IsNamesLine keyword before c names
    → (behind : List (List ℕ)) × (names_of keyword before lines ≡ Ok (before ++ names, behind)) × (contents_of behind ≡ cs)
unfolding names_of
is-names_of keyword before lines c names cs plain h is =
    let n = is-next_line lines c cs h in
    let word = is-is_word keyword c is.behind plain is.word in
    let rest = (word_is keyword c is.behind plain is.word).1 in
    (n.behind, rw (n.next, word, rest, is-names_at before is.behind names is.rest is.are is.ends is.some is.few) refl, n.others)

-- ---- equations and the end
abbrev pub IsLineRead : Space → List ℕ → ℕ → List ℕ → List (List ℕ) → Option EquationRead → Type 0
IsLineRead S names count content rest (Some e) = IsEquationLine S names content e × (count < 16)
IsLineRead S names count content rest None = IsEndLine content × (contents_of rest ≡ []) × (1 ≤ count)

nothing_then : (o : Option (List ℕ × List (List ℕ))) (u : Unit {0}) → nothing_behind o ≡ Ok u → o ≡ None
nothing_then None u h = refl
nothing_then (Some x) u h = cc

module _ (S : Space) (names : List ℕ) (count : ℕ) (content : List ℕ) (rest : List (List ℕ)) where
  equation_line-is : (o : Option EquationRead) → is_word (codes "eq") content ≡ true → equation_line S names count content rest ≡ Ok o → IsLineRead S names count content rest o
  equation_line-is o word h =
      let read = in_line content (length rest) (equation_at S names (behind_word content)) in
      let g = guard_then (nat_le 16 count) (fault_at TooManyEquations content (length rest) (after_blanks content)) (read >>= λ e. Ok (Some e)) o h in
      bind_then read (λ e. Ok (Some e)) o g.1 (λ e is_e done.
      let equation = equation_at-is S names (behind_word content) e (in_line_then content (length rest) (equation_at S names (behind_word content)) e is_e) in
      let low : count < 16 = grind (arith, nat_tests, g.0) in
      subst (IsLineRead S names count content rest) (ok_is (Some e) o done) ((behind_word content, is_word-is (codes "eq") content word, equation), low))

  end_line-is : (o : Option EquationRead) → is_word (codes "end") content ≡ true → end_line count content rest ≡ Ok o → IsLineRead S names count content rest o
  end_line-is o word h =
      let g = guard_then (count == 0) (fault_at Syntax content (length rest) (after_blanks content)) (end_of content rest >>= λ _. Ok None) o h in
      bind_then (end_of content rest) (λ _. Ok None) o g.1 (λ u is_u done.
      let left = guard_else (length (after_blanks (behind_word content)) == 0) (fault_at Syntax content (length rest) (after_blanks (behind_word content))) (nothing_behind (next_line rest)) u is_u in
      let none : 1 ≤ count = grind (arith, nat_tests, g.0) in
      subst (IsLineRead S names count content rest) (ok_is None o done)
      ((behind_word content, is_word-is (codes "end") content word, nothing_left (behind_word content) left.0), no_line-is rest (nothing_then (next_line rest) u left.1), none))

  pub line_of-is : (o : Option EquationRead) → line_of S names count content rest ≡ Ok o → IsLineRead S names count content rest o
  unfolding line_of
  line_of-is o h = go (is_word (codes "eq") content) (is_word (codes "end") content) (equation_line-is o) (end_line-is o) h
    where
      go : (e n : Bool) → (e ≡ true → equation_line S names count content rest ≡ Ok o → IsLineRead S names count content rest o) → (n ≡ true → end_line count content rest ≡ Ok o → IsLineRead S names count content rest o)
          → (if e then equation_line S names count content rest else if n then end_line count content rest else Err (fault_at UnknownWord content (length rest) (after_blanks content))) ≡ Ok o
          → IsLineRead S names count content rest o
      go true n k l h = k refl h
      go false true k l h = l refl h
      go false false k l h = cc

  pub is-equation_line : (e : EquationRead) → IsEquationLine S names content e → count < 16 → line_of S names count content rest ≡ Ok (Some e)
  unfolding line_of
  is-equation_line e h low =
      let plain : IsPlain (codes "eq") = (refl, (refl, tt)) in
      let few : nat_le 16 count ≡ false = grind (arith, nat_tests, low) in
      rw (is-is_word (codes "eq") content h.0 plain h.1, few, (word_is (codes "eq") content h.0 plain h.1).1, is-equation_at S names h.0 e h.2) refl

  is-end_line : IsEndLine content → contents_of rest ≡ [] → 1 ≤ count → line_of S names count content rest ≡ Ok None
  unfolding line_of
  is-end_line h none some =
      let plain : IsPlain (codes "end") = (refl, (refl, (refl, tt))) in
      let other : is_word (codes "eq") content ≡ false = is-other_word (codes "eq") (codes "end") content h.0 plain h.1 in
      let more : (count == 0) ≡ false = grind (arith, nat_tests, some) in
      rw (other, is-is_word (codes "end") content h.0 plain h.1, more, (word_is (codes "end") content h.0 plain h.1).1, nothing_more h.0 h.2, is-no_line rest none) refl

pub record AreEquationsRead (S : Space) (names : List ℕ) (es : List EquationRead) (lines : List (List ℕ)) (fs : List EquationRead) : Type 0 where
  pub new : List EquationRead
  pub are : AreEquations S names (contents_of lines) new
  pub put : fs ≡ es ++ new
  pub some : 1 ≤ length fs
  pub few : length es ≤ 16 → length fs ≤ 16

module _ (S : Space) (names : List ℕ) where
  line_then : (es : List EquationRead) (l : List ℕ) (ls : List (List ℕ)) (fs : List EquationRead) (o : Option EquationRead) → contents_of (l ∷ ls) ≡ run Content l ∷ contents_of ls
      → IsLineRead S names (length es) (run Content l) ls o → ((gs : List EquationRead) → equations_from S names gs ls ≡ Ok fs → AreEquationsRead S names gs ls fs)
      → further (λ more. equations_from S names more ls) es o ≡ Ok fs → AreEquationsRead S names es (l ∷ ls) fs
  line_then es l ls fs None kept is again h =
      let same : es ≡ fs = ok_is es fs h in
      let some = is.2 in
      record {
        new = [];
        are = subst (λ cs. AreEquations S names cs []) (sym kept) (is.0, is.1);
        put = sym same ∙ sym (append-nil es);
        some = subst (λ gs. 1 ≤ length gs) same some;
        few = λ low. subst (λ gs. length gs ≤ 16) same low;
      }
  line_then es l ls fs (Some e) kept is again h =
      let more = again (es ++ e ∷ []) h in
      let longer : length (es ++ e ∷ []) ≡ length es + 1 = length-append es (e ∷ []) in
      let count = is.1 in
      let few : length fs ≤ 16 = more.few (omega arith) in
      record {
        new = e ∷ more.new;
        are = subst (λ cs. AreEquations S names cs (e ∷ more.new)) (sym kept) (is.0, more.are);
        put = more.put ∙ append_assoc es (e ∷ []) more.new;
        some = more.some;
        few = λ low. few;
      }

  contents_skip : (l : List ℕ) (ls : List (List ℕ)) → (length (after_blanks (run Content l)) == 0) ≡ true → contents_of (l ∷ ls) ≡ contents_of ls
  contents_skip l ls at = rw at refl

  contents_keep : (l : List ℕ) (ls : List (List ℕ)) → (length (after_blanks (run Content l)) == 0) ≡ false → contents_of (l ∷ ls) ≡ run Content l ∷ contents_of ls
  contents_keep l ls at = rw at refl

  skip_then : (es : List EquationRead) (l : List ℕ) (ls : List (List ℕ)) (fs : List EquationRead) (t : Bool) → (length (after_blanks (run Content l)) == 0) ≡ t
      → (if t then equations_from S names es ls else line_of S names (length es) (run Content l) ls >>= further (λ more. equations_from S names more ls) es) ≡ Ok fs
      → ((gs : List EquationRead) → equations_from S names gs ls ≡ Ok fs → AreEquationsRead S names gs ls fs) → AreEquationsRead S names es (l ∷ ls) fs
  skip_then es l ls fs true at e again =
      let more = again es e in
      record { new = more.new; are = subst (λ cs. AreEquations S names cs more.new) (sym (contents_skip l ls at)) more.are; put = more.put; some = more.some; few = more.few }
  skip_then es l ls fs false at e again = bind_then (line_of S names (length es) (run Content l) ls) (further (λ more. equations_from S names more ls) es) fs e (λ o is_o rest.
      line_then es l ls fs o (contents_keep l ls at) (line_of-is S names (length es) (run Content l) ls o is_o) again rest)

  pub equations_from-is : (es : List EquationRead) (lines : List (List ℕ)) (fs : List EquationRead) → equations_from S names es lines ≡ Ok fs → AreEquationsRead S names es lines fs
  equations_from-is es [] fs h = cc
  equations_from-is es (l ∷ ls) fs h = skip_then es l ls fs (length (after_blanks (run Content l)) == 0) refl h (λ gs. equations_from-is gs ls fs)

  line_is : (es : List EquationRead) (c : List ℕ) (ls : List (List ℕ)) (new : List EquationRead) → AreEquations S names (c ∷ contents_of ls) new → 1 ≤ length (es ++ new) → length (es ++ new) ≤ 16
      → ((gs ms : List EquationRead) → AreEquations S names (contents_of ls) ms → 1 ≤ length (gs ++ ms) → length (gs ++ ms) ≤ 16 → equations_from S names gs ls ≡ Ok (gs ++ ms))
      → (line_of S names (length es) c ls >>= further (λ more. equations_from S names more ls) es) ≡ Ok (es ++ new)
  line_is es c ls [] h some few again =
      let same = append-nil es in
      let count : 1 ≤ length es = subst (λ (l : List EquationRead). 1 ≤ length l) same some in
      rw (is-end_line S names (length es) c ls h.0 h.1 count) (ap Ok (sym same))
  line_is es c ls (e ∷ new) h some few again =
      let all : es ++ (e ∷ new) ≡ (es ++ e ∷ []) ++ new = sym (append_assoc es (e ∷ []) new) in
      let sum : length (es ++ (e ∷ new)) ≡ length es + length (e ∷ new) = length-append es (e ∷ new) in
      rw (is-equation_line S names (length es) c ls e h.0 (omega arith))
      (again (es ++ e ∷ []) new h.1 (subst (λ (l : List EquationRead). 1 ≤ length l) all some) (subst (λ (l : List EquationRead). length l ≤ 16) all few) ∙ ap Ok (sym all))

  skip_is : (es : List EquationRead) (l : List ℕ) (ls : List (List ℕ)) (new : List EquationRead) (t : Bool) → (length (after_blanks (run Content l)) == 0) ≡ t
      → AreEquations S names (contents_of (l ∷ ls)) new → 1 ≤ length (es ++ new) → length (es ++ new) ≤ 16
      → ((gs ms : List EquationRead) → AreEquations S names (contents_of ls) ms → 1 ≤ length (gs ++ ms) → length (gs ++ ms) ≤ 16 → equations_from S names gs ls ≡ Ok (gs ++ ms))
      → equations_from S names es (l ∷ ls) ≡ Ok (es ++ new)
  skip_is es l ls new true at h some few again = rw at (again es new (subst (λ cs. AreEquations S names cs new) (contents_skip l ls at) h) some few)
  skip_is es l ls new false at h some few again = rw at (line_is es (run Content l) ls new (subst (λ cs. AreEquations S names cs new) (contents_keep l ls at) h) some few again)

  pub is-equations_from : (es : List EquationRead) (lines : List (List ℕ)) (new : List EquationRead) → AreEquations S names (contents_of lines) new → 1 ≤ length (es ++ new) → length (es ++ new) ≤ 16
      → equations_from S names es lines ≡ Ok (es ++ new)
  is-equations_from es [] new h some few = absurd h
  is-equations_from es (l ∷ ls) new h some few = skip_is es l ls new (length (after_blanks (run Content l)) == 0) refl h some few (λ gs ms. is-equations_from gs ls ms)
