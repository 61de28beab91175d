-- Faults of lines of equations: what stops the reader is a fault of the grammar, and each such fault stops it.
use Rattle.std.specs.Prelude.{ℕ, ◌≡◌, ◌+◌, ◌≤◌, Bool, true, false, ◌==◌, nat_le, List, [], ◌∷◌, ◌++◌, length, if◌then◌else◌, Option, Some, None, Ok, Err, codes, refl}
use Rattle.std.proofs.Common.{append_assoc, length-append, sym, ap, ◌∙◌, subst, arith}
use Rattle.std.proofs.lemmas.Bool.Decides.{nat_tests}
use Rattle.std.proofs.lemmas.List.{append-nil, nil_from_length}
use Rattle.lie_geometry.specs.Coordinates.{Space}
use Rattle.lie_scan.specs.declared.fault.BadKind.TheVariants.{UnknownWord, TooManyEquations, Syntax}
use Rattle.lie_scan.specs.declared.runs.Class.TheVariants.{Content}
use Rattle.lie_file.specs.declared.lines.FileFail.{FileFail}
use Rattle.lie_file.specs.declared.lines.FileFail.TheVariants as fails
use Rattle.lie_scan.specs.Runs.{run, after_blanks}
use Rattle.lie_scan.specs.Stops.{◌>>=◌}
use Rattle.lie_system.specs.Systems.{EquationRead}
use Rattle.lie_file.specs.Places.{next_line, fault_at}
use Rattle.lie_file.specs.FileLines.{in_line, is_word, behind_word}
use Rattle.lie_file.specs.Files.{equation_at, nothing_behind, end_of, equation_line, end_line, line_of, further, equations_from}
use Rattle.lie_file.specs.FileFaults.{IsNext, AreEquationLines, IsLineFault, no_end, other_word, seventeenth, in_equation, early_end, further_word, behind_end}
use Rattle.lie_file.proofs.WordLaws.{IsPlain, is_word-is, word_is, is-is_word, is-other_word, nothing_left, nothing_more}
use Rattle.lie_file.proofs.LineLaws.{IsLineRead, line_of-is, is-equation_line}
use Rattle.lie_scan.proofs.CoordinateFaults.{err_is, bind_fails, test_fails, other_fails}
use Rattle.lie_file.proofs.EquationFaults.{equation_at-fails, is-equation_fault}
use Rattle.lie_file.proofs.NameFaults.{in_line_fails, other_word-is, is-other_keyword}

pub plain_eq : IsPlain (codes "eq")
plain_eq = (refl, (refl, tt))

pub plain_end : IsPlain (codes "end")
plain_end = (refl, (refl, (refl, tt)))

-- ---- what stops a line
module _ (S : Space) (names : List ℕ) (es : List EquationRead) (lines : List (List ℕ)) (content : List ℕ) (rest : List (List ℕ)) (next : IsNext lines content rest) (f : FileFail) where
  equation_line-fails : is_word (codes "eq") content ≡ true → equation_line S names (length es) content rest ≡ Err f → IsLineFault S names es lines f
  equation_line-fails word h =
      let left = behind_word content in
      let read = in_line content (length rest) (equation_at S names left) in
      let is = is_word-is (codes "eq") content word in
      test_fails (nat_le 16 (length es)) (fault_at TooManyEquations content (length rest) (after_blanks content)) f (read >>= λ e. Ok (Some e)) h
      (λ many same. subst (IsLineFault S names es lines) same (seventeenth content left rest next is (grind (arith, nat_tests, many))))
      (λ few more. bind_fails read (λ e. Ok (Some e)) f more
      (λ k. let s = in_line_fails content (length rest) (equation_at S names left) f k in
      subst (IsLineFault S names es lines) s.2 (in_equation content left rest s.0 next is (grind (arith, nat_tests, few)) (equation_at-fails S names left s.0 s.1)))
      (λ e is_e k. cc))

  end_line-fails : is_word (codes "end") content ≡ true → end_line (length es) content rest ≡ Err f → IsLineFault S names es lines f
  end_line-fails word h =
      let left = behind_word content in
      let is = is_word-is (codes "end") content word in
      test_fails (length es == 0) (fault_at Syntax content (length rest) (after_blanks content)) f (end_of content rest >>= λ _. Ok None) h
      (λ none same. subst (IsLineFault S names es lines) same (early_end content left rest next is (nil_from_length es (grind (arith, nat_tests, none)))))
      (λ some more. bind_fails (end_of content rest) (λ _. Ok None) f more
      (λ k. other_fails (length (after_blanks left) == 0) (fault_at Syntax content (length rest) (after_blanks left)) f (nothing_behind (next_line rest)) k
      (λ word_left same. subst (IsLineFault S names es lines) same (further_word content left rest next is (grind (arith, nat_tests, some)) (grind (arith, nat_tests, word_left))))
      (λ none l. line_left (next_line rest) refl l (nothing_left left none) is (grind (arith, nat_tests, some))))
      (λ u is_u k. cc))
    where
      line_left : (o : Option (List ℕ × List (List ℕ))) → next_line rest ≡ o → nothing_behind o ≡ Err f → Rattle.lie_scan.specs.TokenGrammar.AreBlanks (behind_word content)
          → Rattle.lie_file.specs.FileGrammar.IsWord (codes "end") content (behind_word content) → 1 ≤ length es → IsLineFault S names es lines f
      line_left None at e blanks is some = cc
      line_left (Some x) at e blanks is some =
          subst (IsLineFault S names es lines) (err_is (fault_at UnknownWord x.0 (length x.1) (after_blanks x.0)) f e) (behind_end content (behind_word content) rest x.0 x.1 next is some blanks at)

  line_of-fails : line_of S names (length es) content rest ≡ Err f → IsLineFault S names es lines f
  unfolding line_of
  line_of-fails h = go (is_word (codes "eq") content) (is_word (codes "end") content) refl refl equation_line-fails end_line-fails h
    where
      go : (e n : Bool) → is_word (codes "eq") content ≡ e → is_word (codes "end") content ≡ n
          → (is_word (codes "eq") content ≡ true → equation_line S names (length es) content rest ≡ Err f → IsLineFault S names es lines f)
          → (is_word (codes "end") content ≡ true → end_line (length es) content rest ≡ Err f → IsLineFault S names es lines f)
          → (if e then equation_line S names (length es) content rest else if n then end_line (length es) content rest else Err (fault_at UnknownWord content (length rest) (after_blanks content))) ≡ Err f
          → IsLineFault S names es lines f
      go true n is_e is_n k l h = k is_e h
      go false true is_e is_n k l h = l is_n h
      go false false is_e is_n k l h =
          subst (IsLineFault S names es lines) (err_is (fault_at UnknownWord content (length rest) (after_blanks content)) f h)
          (other_word content rest next (other_word-is (codes "eq") content plain_eq is_e) (other_word-is (codes "end") content plain_end is_n))

-- ---- lines one by one
pub record IsBodyFault (S : Space) (names : List ℕ) (es : List EquationRead) (lines : List (List ℕ)) (f : FileFail) : Type 0 where
  pub new : List EquationRead
  pub left : List (List ℕ)
  pub are : AreEquationLines S names lines new left
  pub few : length (es ++ new) ≤ 16
  pub fault : IsLineFault S names (es ++ new) left f

line_fault_same : (S : Space) (names : List ℕ) (es : List EquationRead) (a b : List (List ℕ)) (f : FileFail) → next_line b ≡ next_line a → IsLineFault S names es a f → IsLineFault S names es b f
line_fault_same S names es a b f same (no_end none) = no_end (same ∙ none)
line_fault_same S names es a b f same (other_word content rest next x y) = other_word content rest (same ∙ next) x y
line_fault_same S names es a b f same (seventeenth content text rest next x y) = seventeenth content text rest (same ∙ next) x y
line_fault_same S names es a b f same (in_equation content text rest s next x y z) = in_equation content text rest s (same ∙ next) x y z
line_fault_same S names es a b f same (early_end content text rest next x y) = early_end content text rest (same ∙ next) x y
line_fault_same S names es a b f same (further_word content text rest next x y z) = further_word content text rest (same ∙ next) x y z
line_fault_same S names es a b f same (behind_end content text rest more left next x y z w) = behind_end content text rest more left (same ∙ next) x y z w

body_same : (S : Space) (names : List ℕ) (es : List EquationRead) (a b : List (List ℕ)) (f : FileFail) → next_line b ≡ next_line a → IsBodyFault S names es a f → IsBodyFault S names es b f
body_same S names es a b f same h = go h.new h.are h.few h.fault
  where
    go : (new : List EquationRead) → AreEquationLines S names a new h.left → length (es ++ new) ≤ 16 → IsLineFault S names (es ++ new) h.left f → IsBodyFault S names es b f
    go [] are few fault = record { new = []; left = b; are = refl; few = few; fault = line_fault_same S names (es ++ []) h.left b f (same ∙ ap next_line are) fault }
    go (e ∷ new) are few fault = record { new = e ∷ new; left = h.left; are = (are.0, are.1, same ∙ are.2, are.3, are.4); few = few; fault = fault }

module _ (S : Space) (names : List ℕ) where
  body_then : (es : List EquationRead) (lines : List (List ℕ)) (content : List ℕ) (ls : List (List ℕ)) (f : FileFail) (o : Option EquationRead) → IsNext lines content ls
      → IsLineRead S names (length es) content ls o → ((gs : List EquationRead) → length gs ≤ 16 → equations_from S names gs ls ≡ Err f → IsBodyFault S names gs ls f)
      → further (λ more. equations_from S names more ls) es o ≡ Err f → IsBodyFault S names es lines f
  body_then es lines content ls f None next is again h = cc
  body_then es lines content ls f (Some e) next is again h =
      let longer : length (es ++ e ∷ []) ≡ length es + 1 = length-append es (e ∷ []) in
      let count = is.1 in
      let more = again (es ++ e ∷ []) (omega arith) h in
      let all : (es ++ e ∷ []) ++ more.new ≡ es ++ (e ∷ more.new) = append_assoc es (e ∷ []) more.new in
      record {
        new = e ∷ more.new;
        left = more.left;
        are = (content, ls, next, is.0, more.are);
        few = subst (λ (gs : List EquationRead). length gs ≤ 16) all more.few;
        fault = subst (λ (gs : List EquationRead). IsLineFault S names gs more.left f) all more.fault;
      }

  skip_fails : (es : List EquationRead) (l : List ℕ) (ls : List (List ℕ)) (f : FileFail) (t : Bool) → (length (after_blanks (run Content l)) == 0) ≡ t → length es ≤ 16
      → (if t then equations_from S names es ls else line_of S names (length es) (run Content l) ls >>= further (λ more. equations_from S names more ls) es) ≡ Err f
      → ((gs : List EquationRead) → length gs ≤ 16 → equations_from S names gs ls ≡ Err f → IsBodyFault S names gs ls f) → IsBodyFault S names es (l ∷ ls) f
  skip_fails es l ls f true at few e again = body_same S names es ls (l ∷ ls) f (rw at refl) (again es few e)
  skip_fails es l ls f false at few e again =
      let next : IsNext (l ∷ ls) (run Content l) ls = rw at refl in
      let none : es ++ [] ≡ es = append-nil es in
      bind_fails (line_of S names (length es) (run Content l) ls) (further (λ more. equations_from S names more ls) es) f e
      (λ k. record {
        new = [];
        left = l ∷ ls;
        are = refl;
        few = subst (λ (gs : List EquationRead). length gs ≤ 16) (sym none) few;
        fault = subst (λ (gs : List EquationRead). IsLineFault S names gs (l ∷ ls) f) (sym none) (line_of-fails S names es (l ∷ ls) (run Content l) ls next f k);
      })
      (λ o is_o more. body_then es (l ∷ ls) (run Content l) ls f o next (line_of-is S names (length es) (run Content l) ls o is_o) again more)

  pub equations_from-fails : (es : List EquationRead) (lines : List (List ℕ)) (f : FileFail) → length es ≤ 16 → equations_from S names es lines ≡ Err f → IsBodyFault S names es lines f
  equations_from-fails es [] f few h =
      let none : es ++ [] ≡ es = append-nil es in
      record {
        new = [];
        left = [];
        are = refl;
        few = subst (λ (gs : List EquationRead). length gs ≤ 16) (sym none) few;
        fault = subst (IsLineFault S names (es ++ []) []) (err_is fails.Ended f h) (no_end refl);
      }
  equations_from-fails es (l ∷ ls) f few h = skip_fails es l ls f (length (after_blanks (run Content l)) == 0) refl few h (λ gs low. equations_from-fails gs ls f low)

  -- ---- each fault stops the reader
  from_next : (es : List EquationRead) (lines : List (List ℕ)) (content : List ℕ) (rest : List (List ℕ)) → IsNext lines content rest
      → equations_from S names es lines ≡ (line_of S names (length es) content rest >>= further (λ more. equations_from S names more rest) es)
  from_next es [] content rest next = cc
  from_next es (l ∷ ls) content rest next = go (length (after_blanks (run Content l)) == 0) next (from_next es ls content rest)
    where
      go : (t : Bool) → (if t then next_line ls else Some (run Content l, ls)) ≡ Some (content, rest)
          → (IsNext ls content rest → equations_from S names es ls ≡ (line_of S names (length es) content rest >>= further (λ more. equations_from S names more rest) es))
          → (if t then equations_from S names es ls else line_of S names (length es) (run Content l) ls >>= further (λ more. equations_from S names more ls) es)
          ≡ (line_of S names (length es) content rest >>= further (λ more. equations_from S names more rest) es)
      go true e k = k e
      go false e k =
          let same : ◌≡◌ {A = List ℕ × List (List ℕ)} (run Content l, ls) (content, rest) = cc in
          ap (λ (y : List ℕ × List (List ℕ)). line_of S names (length es) y.0 y.1 >>= further (λ more. equations_from S names more y.1) es) same

  from_none : (es : List EquationRead) (lines : List (List ℕ)) → next_line lines ≡ None → equations_from S names es lines ≡ Err fails.Ended
  from_none es [] none = refl
  from_none es (l ∷ ls) none = go (length (after_blanks (run Content l)) == 0) none (from_none es ls)
    where
      go : (t : Bool) → (if t then next_line ls else Some (run Content l, ls)) ≡ None → (next_line ls ≡ None → equations_from S names es ls ≡ Err fails.Ended)
          → (if t then equations_from S names es ls else line_of S names (length es) (run Content l) ls >>= further (λ more. equations_from S names more ls) es) ≡ Err fails.Ended
      go true e k = k e
      go false e k = cc

  stops_at : (es : List EquationRead) (lines : List (List ℕ)) (content : List ℕ) (rest : List (List ℕ)) (f : FileFail) → IsNext lines content rest → line_of S names (length es) content rest ≡ Err f
      → equations_from S names es lines ≡ Err f
  stops_at es lines content rest f next h = from_next es lines content rest next ∙ ap (λ r. r >>= further (λ more. equations_from S names more rest) es) h

  is-line_fault : (es : List EquationRead) (lines : List (List ℕ)) (f : FileFail) → IsLineFault S names es lines f → equations_from S names es lines ≡ Err f
  unfolding line_of
  is-line_fault es lines f (no_end none) = from_none es lines none
  is-line_fault es lines f (other_word content rest next x y) =
      stops_at es lines content rest f next (rw (is-other_keyword (codes "eq") content x, is-other_keyword (codes "end") content y) refl)
  is-line_fault es lines f (seventeenth content text rest next word many) =
      let high : nat_le 16 (length es) ≡ true = grind (arith, nat_tests, many) in
      stops_at es lines content rest f next (rw (is-is_word (codes "eq") content text plain_eq word, high) refl)
  is-line_fault es lines f (in_equation content text rest s next word few fault) =
      let low : nat_le 16 (length es) ≡ false = grind (arith, nat_tests, few) in
      stops_at es lines content rest f next (rw (is-is_word (codes "eq") content text plain_eq word, low, (word_is (codes "eq") content text plain_eq word).1, is-equation_fault S names text s fault) refl)
  is-line_fault es lines f (early_end content text rest next word none) =
      stops_at es lines content rest f next (rw (is-other_word (codes "eq") (codes "end") content text plain_end word, is-is_word (codes "end") content text plain_end word, none) refl)
  is-line_fault es lines f (further_word content text rest next word some more) =
      let one : (length es == 0) ≡ false = grind (arith, nat_tests, some) in
      let left : (length (after_blanks text) == 0) ≡ false = grind (arith, nat_tests, more) in
      stops_at es lines content rest f next
      (rw (is-other_word (codes "eq") (codes "end") content text plain_end word, is-is_word (codes "end") content text plain_end word, one, (word_is (codes "end") content text plain_end word).1, left) refl)
  is-line_fault es lines f (behind_end content text rest more left next word some blanks line) =
      let one : (length es == 0) ≡ false = grind (arith, nat_tests, some) in
      stops_at es lines content rest f next
      (rw (is-other_word (codes "eq") (codes "end") content text plain_end word, is-is_word (codes "end") content text plain_end word, one, (word_is (codes "end") content text plain_end word).1, nothing_more text blanks, line) refl)

  pub is-body_fault : (es : List EquationRead) (lines : List (List ℕ)) (new : List EquationRead) (left : List (List ℕ)) (f : FileFail) → AreEquationLines S names lines new left → length (es ++ new) ≤ 16
      → IsLineFault S names (es ++ new) left f → equations_from S names es lines ≡ Err f
  is-body_fault es lines [] left f are few fault =
      ap (equations_from S names es) are ∙ is-line_fault es left f (subst (λ (gs : List EquationRead). IsLineFault S names gs left f) (append-nil es) fault)
  is-body_fault es lines (e ∷ new) left f are few fault =
      let all : es ++ (e ∷ new) ≡ (es ++ e ∷ []) ++ new = sym (append_assoc es (e ∷ []) new) in
      let sum : length (es ++ (e ∷ new)) ≡ length es + length (e ∷ new) = length-append es (e ∷ new) in
      from_next es lines are.0 are.1 are.2
      ∙ ap (λ r. r >>= further (λ more. equations_from S names more are.1) es) (is-equation_line S names (length es) are.0 are.1 e are.3 (omega arith))
      ∙ is-body_fault (es ++ e ∷ []) are.1 new left f are.4 (subst (λ (gs : List EquationRead). length gs ≤ 16) all few) (subst (λ (gs : List EquationRead). IsLineFault S names gs left f) all fault)
