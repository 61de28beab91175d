-- Coordinates: what is read is of the grammar, and what is of the grammar is read.
use Rattle.std.specs.Prelude.{ℕ, ◌≡◌, ◌≤◌, ◌⊎◌, Bool, true, false, ◌==◌, nat_lt, List, [], ◌∷◌, ◌++◌, length, take, drop, if◌then◌else◌, Option, Some, None, IsSome, Ok, Err, refl}
use Rattle.std.specs.List.{AllByRecursion}
use Rattle.std.proofs.Common.{append_assoc, sym, ap, ◌∙◌, subst, inl, inr, arith}
use Rattle.std.proofs.lemmas.Bool.Decides.{nat_tests}
use Rattle.lie_geometry.specs.Coordinates.{Space, Coordinate, jet}
use Rattle.lie_scan.specs.declared.fault.BadKind.TheVariants.{Syntax, UnknownName, Order}
use Rattle.lie_scan.specs.declared.runs.Class.TheVariants.{Blank, Letter}
use Rattle.lie_scan.specs.Runs.{run, behind, after_blanks, is_in}
use Rattle.lie_scan.specs.Stops.{stop, ◌>>=◌}
use Rattle.lie_scan.specs.Names.{place_of, letter_counts, variable_at}
use Rattle.lie_scan.specs.Tokens.{place_of_word, is_name, are_names, derivative_by, derivative, plain_by, plain, coordinate_by, coordinate_at}
use Rattle.lie_scan.specs.TokenGrammar.{AreIn, IsVariableName, IsDerivativeName, IsCoordinateAt, BeginsOutside, IsNot}
use Rattle.lie_scan.proofs.Blanks.{bind_then, guard_then, guard_else, ok_is, run_is, run_in, run_front, behind_front, behind_none, behind_outside, blanks_to, after_outside, letter_range, no_blank_above}

-- ---- names
pub place_word-is : (names word : List ℕ) (i : ℕ) → place_of_word names word ≡ Some i → (l : ℕ) × (word ≡ l ∷ []) × (place_of names l ≡ Some i)
place_word-is names [] i h = cc
place_word-is names (c ∷ []) i h = (c, refl, h)
place_word-is names (c ∷ d ∷ cs) i h = cc

pub are_names-is : (names word : List ℕ) → are_names names word ≡ true → AllByRecursion (λ x. IsSome (place_of names x)) word
are_names-is names [] h = tt
are_names-is names (c ∷ cs) h = go (place_of names c) h (are_names-is names cs)
  where
    go : (o : Option ℕ) → is_name o (are_names names cs) ≡ true → (are_names names cs ≡ true → AllByRecursion (λ x. IsSome (place_of names x)) cs) → IsSome o × AllByRecursion (λ x. IsSome (place_of names x)) cs
    go None e k = cc
    go (Some i) e k = (refl, k e)

pub is-are_names : (names word : List ℕ) → AllByRecursion (λ x. IsSome (place_of names x)) word → are_names names word ≡ true
is-are_names names [] h = refl
is-are_names names (c ∷ cs) h = go (place_of names c) h.0 (is-are_names names cs h.1)
  where
    go : (o : Option ℕ) → IsSome o → are_names names cs ≡ true → is_name o (are_names names cs) ≡ true
    go None k e = cc
    go (Some i) k e = e

-- ---- variables
plain_then : (S : Space) (o : Option ℕ) (text : List ℕ) (v : Coordinate) → plain_by S o text ≡ Ok v → (i : ℕ) × (o ≡ Some i) × (variable_at S i ≡ v)
plain_then S None text v h = cc
plain_then S (Some i) text v h = (i, refl, ok_is (variable_at S i) v h)

plain-is : (S : Space) (names word text : List ℕ) (v : Coordinate) → AreIn Letter word → plain S names word text ≡ Ok v → IsVariableName S names word v
unfolding plain
plain-is S names word text v letters h =
    let found = plain_then S (place_of_word names word) text v h in
    let named = place_word-is names word found.0 found.1 in
    let first = subst (AreIn Letter) named.1 letters in
    record { letter = named.0; place = found.0; spelled = named.1; is_letter = first.0; named = named.2; means = sym found.2 }

is-plain : (S : Space) (names word text : List ℕ) (v : Coordinate) → IsVariableName S names word v → plain S names word text ≡ Ok v
unfolding plain
is-plain S names word text v h =
    ap (λ w. plain_by S (place_of_word names w) text) h.spelled ∙ ap (λ o. plain_by S o text) h.named ∙ ap Ok (sym h.means)

-- ---- derivatives
derivative_then : (S : Space) (o : Option ℕ) (names by text : List ℕ) (v : Coordinate) → derivative_by S o names by text ≡ Ok v
    → (a : ℕ) × (o ≡ Some a) × (are_names names by ≡ true) × (length by ≤ 6) × (jet a (take S.p (letter_counts names by)) ≡ v)
derivative_then S None names by text v h = cc
derivative_then S (Some a) names by text v h =
    let made : Coordinate = jet a (take S.p (letter_counts names by)) in
    let named = guard_else (are_names names by) (stop UnknownName text) (if nat_lt 6 (length by) then Err (stop Order text) else Ok made) v h in
    let low = guard_then (nat_lt 6 (length by)) (stop Order text) (Ok made) v named.1 in
    (a, refl, named.0, grind (arith, nat_tests, low.0), ok_is made v low.1)

derivative-is : (S : Space) (names word by text : List ℕ) (v : Coordinate) → AreIn Letter word → AreIn Letter by → 1 ≤ length by → derivative S names word by text ≡ Ok v
    → IsDerivativeName S names (word ++ (95 ∷ by)) v
unfolding derivative
derivative-is S names word by text v letters are some h =
    let found = derivative_then S (place_of_word (drop S.p names) word) (take S.p names) by text v h in
    let named = place_word-is (drop S.p names) word found.0 found.1 in
    let first = subst (AreIn Letter) named.1 letters in
    record {
      letter = named.0;
      place = found.0;
      by = by;
      spelled = ap (λ w. w ++ (95 ∷ by)) named.1;
      is_letter = first.0;
      named = named.2;
      are_letters = are;
      independent = are_names-is (take S.p names) by found.2;
      some = some;
      few = found.3;
      means = sym found.4;
    }

is-derivative : (S : Space) (names word text : List ℕ) (v : Coordinate) → (h : IsDerivativeName S names word v) → derivative S names (h.letter ∷ []) h.by text ≡ Ok v
unfolding derivative
is-derivative S names word text v h =
    let low = h.few in
    let few : nat_lt 6 (length h.by) ≡ false = grind (arith, nat_tests, low) in
    rw (h.named, is-are_names (take S.p names) h.by h.independent, few) (ap Ok (sym h.means))

-- ---- coordinates
record IsCoordinateRead (S : Space) (names text : List ℕ) (x : Coordinate × List ℕ) : Type 0 where
  word : List ℕ
  spelled : text ≡ word ++ x.1
  ended : BeginsOutside Letter x.1
  name : (IsVariableName S names word x.0 × IsNot 95 x.1) ⊎ IsDerivativeName S names word x.0

module _ (S : Space) (names text : List ℕ) where
  -- a word of letters alone
  alone-is : (word rest : List ℕ) (x : Coordinate × List ℕ) → text ≡ word ++ rest → AreIn Letter word → BeginsOutside Letter rest → IsNot 95 rest
      → (plain S names word text >>= λ v. Ok (v, rest)) ≡ Ok x → IsCoordinateRead S names text x
  alone-is word rest x spelled letters ended not h = bind_then (plain S names word text) (λ v. Ok (v, rest)) x h (λ v is more.
      let same : ◌≡◌ {A = Coordinate × List ℕ} (v, rest) x = ok_is (v, rest) x more in
      subst (IsCoordinateRead S names text) same (record { word = word; spelled = spelled; ended = ended; name = inl (plain-is S names word text v letters is, not) }))

  -- a word of letters and `_`
  raised-is : (word cs : List ℕ) (x : Coordinate × List ℕ) → text ≡ word ++ (95 ∷ cs) → AreIn Letter word
      → (if length (run Letter cs) == 0 then Err (stop Syntax cs) else derivative S names word (run Letter cs) text >>= λ v. Ok (v, behind Letter cs)) ≡ Ok x → IsCoordinateRead S names text x
  raised-is word cs x spelled letters h =
      let g = guard_then (length (run Letter cs) == 0) (stop Syntax cs) (derivative S names word (run Letter cs) text >>= λ v. Ok (v, behind Letter cs)) x h in
      let some : 1 ≤ length (run Letter cs) = grind (arith, nat_tests, g.0) in
      bind_then (derivative S names word (run Letter cs) text) (λ v. Ok (v, behind Letter cs)) x g.1 (λ v is rest.
      let same : ◌≡◌ {A = Coordinate × List ℕ} (v, behind Letter cs) x = ok_is (v, behind Letter cs) x rest in
      let parts : text ≡ (word ++ (95 ∷ run Letter cs)) ++ behind Letter cs = spelled ∙ ap (λ l. word ++ (95 ∷ l)) (run_is Letter cs) ∙ sym (append_assoc word (95 ∷ run Letter cs) (behind Letter cs)) in
      subst (IsCoordinateRead S names text) same (record {
        word = word ++ (95 ∷ run Letter cs);
        spelled = parts;
        ended = behind_outside Letter cs;
        name = inr (derivative-is S names word (run Letter cs) text v letters (run_in Letter cs) some is);
      }))

  -- what a word of letters and what stands behind it give
  by-is : (word rest : List ℕ) (x : Coordinate × List ℕ) → text ≡ word ++ rest → AreIn Letter word → BeginsOutside Letter rest → coordinate_by S names text word rest ≡ Ok x → IsCoordinateRead S names text x
  by-is word [] x spelled letters ended h = alone-is word [] x spelled letters tt tt h
  by-is word (c ∷ cs) x spelled letters ended h = go (c == 95) refl h
    where
      go : (t : Bool) → (c == 95) ≡ t
          → (if t then (if length (run Letter cs) == 0 then Err (stop Syntax cs) else derivative S names word (run Letter cs) text >>= λ v. Ok (v, behind Letter cs)) else plain S names word text >>= λ v. Ok (v, c ∷ cs)) ≡ Ok x
          → IsCoordinateRead S names text x
      go false test e = alone-is word (c ∷ cs) x spelled letters ended test e
      go true test e = let line : c ≡ 95 = grind (arith, nat_tests, test) in raised-is word cs x (spelled ∙ ap (λ b. word ++ (b ∷ cs)) line) letters e

  coordinate-is : (x : Coordinate × List ℕ) → coordinate_at S names text ≡ Ok x → IsCoordinateRead S names text x
  unfolding coordinate_at
  coordinate-is x h =
      let g = guard_then (length (run Letter text) == 0) (stop Syntax text) (coordinate_by S names text (run Letter text) (behind Letter text)) x h in
      by-is (run Letter text) (behind Letter text) x (run_is Letter text) (run_in Letter text) (behind_outside Letter text) g.1

pub coordinate_at-is : (S : Space) (names text : List ℕ) (x : Coordinate × List ℕ) → coordinate_at S names (after_blanks text) ≡ Ok x → IsCoordinateAt S names text x.0 x.1
coordinate_at-is S names text x h =
    let found = coordinate-is S names (after_blanks text) x h in
    record { word = found.word; front = blanks_to text (found.word ++ x.1) found.spelled; ended = found.ended; name = found.name }

-- a coordinate begins with a letter
first_letter : (S : Space) (names text : List ℕ) (c : Coordinate) (rest : List ℕ) → (h : IsCoordinateAt S names text c rest) → (l : ℕ) × (ls : List ℕ) × (is_in Letter l ≡ true) × (h.word ++ rest ≡ l ∷ ls)
first_letter S names text c rest h = elim (h.name) [
  | inl v ↦ (v.0.letter, rest, v.0.is_letter, ap (λ w. w ++ rest) v.0.spelled)
  | inr d ↦ (d.letter, 95 ∷ (d.by ++ rest), d.is_letter, ap (λ w. w ++ rest) d.spelled)
]

whole_word : (S : Space) (names text : List ℕ) (c : Coordinate) (rest : List ℕ) → (h : IsCoordinateAt S names text c rest) → after_blanks text ≡ h.word ++ rest
whole_word S names text c rest h =
    let first = first_letter S names text c rest h in
    let range = letter_range first.0 first.2 in
    let low = range.0 in
    after_outside text (h.word ++ rest) h.front (subst (BeginsOutside Blank) (sym first.3) (no_blank_above first.0 (omega arith)))

pub coordinate_front : (S : Space) (names text : List ℕ) (c : Coordinate) (rest : List ℕ) → IsCoordinateAt S names text c rest → (l : ℕ) × (ls : List ℕ) × (is_in Letter l ≡ true) × (after_blanks text ≡ l ∷ ls)
coordinate_front S names text c rest h = let first = first_letter S names text c rest h in (first.0, first.1, first.2, whole_word S names text c rest h ∙ first.3)

-- behind the letter of a variable
variable_by : (S : Space) (names text : List ℕ) (l : ℕ) (v : Coordinate) (rest : List ℕ) → plain S names (l ∷ []) text ≡ Ok v → IsNot 95 rest → coordinate_by S names text (l ∷ []) rest ≡ Ok (v, rest)
variable_by S names text l v [] is out = rw is refl
variable_by S names text l v (c ∷ cs) is out = rw (out, is) refl

is-variable : (S : Space) (names word : List ℕ) (c : Coordinate) (rest : List ℕ) → IsVariableName S names word c → BeginsOutside Letter rest → IsNot 95 rest → coordinate_at S names (word ++ rest) ≡ Ok (c, rest)
unfolding coordinate_at
is-variable S names word c rest h ended not =
    let l = h.letter in
    let front : run Letter (l ∷ rest) ≡ l ∷ [] = run_front Letter (l ∷ []) rest (h.is_letter, tt) ended in
    let back : behind Letter (l ∷ rest) ≡ rest = behind_front Letter (l ∷ []) rest (h.is_letter, tt) ∙ behind_none Letter rest ended in
    let plain_is : plain S names (l ∷ []) (l ∷ rest) ≡ Ok c = ap (λ w. plain S names w (l ∷ rest)) (sym h.spelled) ∙ is-plain S names word (l ∷ rest) c h in
    rw (h.spelled) (rw (front, back) (variable_by S names (l ∷ rest) l c rest plain_is not))

is-derivative_at : (S : Space) (names word : List ℕ) (c : Coordinate) (rest : List ℕ) → IsDerivativeName S names word c → BeginsOutside Letter rest → coordinate_at S names (word ++ rest) ≡ Ok (c, rest)
unfolding coordinate_at
is-derivative_at S names word c rest h ended =
    let l = h.letter in
    let text : List ℕ = l ∷ 95 ∷ (h.by ++ rest) in
    let front : run Letter text ≡ l ∷ [] = run_front Letter (l ∷ []) (95 ∷ (h.by ++ rest)) (h.is_letter, tt) refl in
    let back : behind Letter text ≡ 95 ∷ (h.by ++ rest) = behind_front Letter (l ∷ []) (95 ∷ (h.by ++ rest)) (h.is_letter, tt) in
    let by_front : run Letter (h.by ++ rest) ≡ h.by = run_front Letter h.by rest h.are_letters ended in
    let by_back : behind Letter (h.by ++ rest) ≡ rest = behind_front Letter h.by rest h.are_letters ∙ behind_none Letter rest ended in
    let some = h.some in
    let none : (length h.by == 0) ≡ false = grind (arith, nat_tests, some) in
    rw (h.spelled) (rw (front, back) (rw (by_front, by_back, none, is-derivative S names word text c h) refl))

pub is-coordinate_at : (S : Space) (names text : List ℕ) (c : Coordinate) (rest : List ℕ) → IsCoordinateAt S names text c rest → coordinate_at S names (after_blanks text) ≡ Ok (c, rest)
is-coordinate_at S names text c rest h =
    ap (coordinate_at S names) (whole_word S names text c rest h)
    ∙ elim (h.name) [ inl v ↦ is-variable S names h.word c rest v.0 h.ended v.1 | inr d ↦ is-derivative_at S names h.word c rest d h.ended ]
