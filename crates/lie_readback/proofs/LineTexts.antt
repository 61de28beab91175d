-- The lines of names and of unknowns are read back.
use Rattle.std.specs.Prelude.{ℕ, zero, suc, ◌≡◌, ◌+◌, ◌<◌, ◌≤◌, ◌^◌, ◌==◌, nat_lt, eqb, cond, not, ◌&&◌, ◌||◌, Bool, true, false, List, [], ◌∷◌, ◌++◌, length, map, filter, take, drop, get_or, codes, decimal, Some, refl}
use Rattle.std.specs.List.{list_any, flat_map, range_with_len, IsDistinct, AllByRecursion as Every}
use Rattle.std.specs.List.Sorted.{IsStrictlySortedBy}
use Rattle.std.specs.Ordering.{nat_cmp, MatchOrdering}
use Rattle.std.specs.Cmp.{ranks}
use Rattle.std.proofs.Common.{sym, ap, ap₂, ◌∙◌, subst, arith, Less}
use Rattle.std.proofs.lemmas.Bool.Decides.{nat_tests}
use Rattle.lie_math.specs.LinearSystem.{Unknown}
use Rattle.lie_systems.specs.ValidSystems.{HasVariablesBelow}
use Rattle.lie_system.specs.Written.{IsLowercase, AreDistinctLetters}
use Rattle.lie_print.specs.Printing.{name_at}
use Rattle.lie_report.specs.SystemLines.{names_words, listed, free_line, numbered_lines}
use Rattle.lie_scan.specs.Runs.{is_in}
use Rattle.lie_scan.specs.Names.{place_from}
use Rattle.lie_scan.specs.TokenGrammar.{AreIn}
use Rattle.lie_scan.specs.declared.runs.Class.TheVariants.{Letter, Digit}
use Rattle.lie_scan.proofs.Blanks.{and_true, letter_range, digit_range}
use Rattle.lie_readback.specs.SystemDrafts.{names_in, are_names, is_free, free_lines, behind_free, stand_in, variables_in, unknowns_in}
use Rattle.lie_readback.specs.WellFormed.{AreNumberedFrom}
use Rattle.lie_readback.proofs.NameTexts.{IsNameAt, named_at}
use Rattle.lie_readback.proofs.Separators.{decimal_digits}

-- ---- names
blanks_left_out : (ns : List ℕ) → Every IsLowercase ns → filter (λ b. not (b == 32)) (flat_map (λ n. 32 ∷ n ∷ []) ns) ≡ ns
blanks_left_out [] h = refl
blanks_left_out (n ∷ ns) h =
    let low = h.0.0 in
    let other : (n == 32) ≡ false = grind (arith, nat_tests, low) in
    rw other (ap (λ (l : List ℕ). n ∷ l) (blanks_left_out ns h.1))

pub vars_back : (ns : List ℕ) → Every IsLowercase ns → names_in (names_words (codes "vars") ns) ≡ ns
vars_back ns h = blanks_left_out ns h

pub deps_back : (ns : List ℕ) → Every IsLowercase ns → names_in (names_words (codes "deps") ns) ≡ ns
deps_back ns h = blanks_left_out ns h

letter_in : (n : ℕ) → IsLowercase n → is_in Letter n ≡ true
letter_in n h = let low = h.0 in let high = h.1 in grind (arith, nat_tests, low, high)

none_same : (n : ℕ) (ns : List ℕ) → Every (λ m. (n == m) ≡ false) ns → list_any (λ m. m == n) ns ≡ false
none_same n [] h = refl
none_same n (m ∷ ns) h = let first = h.0 in let e : (m == n) ≡ false = grind (arith, nat_tests, first) in rw e (none_same n ns h.1)

distinct_names : (ns : List ℕ) → Every IsLowercase ns → IsDistinct (λ a b. a == b) ns → are_names ns ≡ true
unfolding IsDistinct
distinct_names [] l d = refl
distinct_names (n ∷ ns) l d = rw (letter_in n l.0, none_same n ns d.0) (distinct_names ns l.1 d.1)

pub letters_are_names : (ns : List ℕ) → AreDistinctLetters ns → are_names ns ≡ true
letters_are_names ns h = distinct_names ns h.letters h.distinct

not_true : (b : Bool) → not b ≡ true → b ≡ false
not_true true h = cc
not_true false h = refl

same_none : (n : ℕ) (ns : List ℕ) → list_any (λ m. m == n) ns ≡ false → Every (λ m. (n == m) ≡ false) ns
same_none n [] h = tt
same_none n (m ∷ ns) h = go (m == n) refl h (same_none n ns)
  where
    go : (b : Bool) → (m == n) ≡ b → (b || list_any (λ m. m == n) ns) ≡ false → (list_any (λ m. m == n) ns ≡ false → Every (λ m. (n == m) ≡ false) ns)
        → ((n == m) ≡ false) × Every (λ m. (n == m) ≡ false) ns
    go true e f k = cc
    go false e f k = ((grind (arith, nat_tests, e)), k f)

names_letters : (ns : List ℕ) → are_names ns ≡ true → Every IsLowercase ns × IsDistinct (λ a b. a == b) ns
unfolding IsDistinct
names_letters [] h = (tt, tt)
names_letters (n ∷ ns) h =
    let a = and_true (is_in Letter n) (not (list_any (λ m. m == n) ns) && are_names ns) h in
    let b = and_true (not (list_any (λ m. m == n) ns)) (are_names ns) a.1 in
    let rest = names_letters ns b.1 in
    ((letter_range n a.0, rest.0), (same_none n ns (not_true (list_any (λ m. m == n) ns) b.0), rest.1))

pub names_are_letters : (ns : List ℕ) → are_names ns ≡ true → AreDistinctLetters ns
names_are_letters ns h = let r = names_letters ns h in record { letters = r.0; distinct = r.1 }

-- ---- the variables of an unknown
any_joined : (p : ℕ → Bool) (xs ys : List ℕ) → list_any p (xs ++ ys) ≡ (list_any p xs || list_any p ys)
any_joined p [] ys = refl
any_joined p (x ∷ xs) ys = go (p x) (any_joined p xs ys)
  where
    go : (b : Bool) → list_any p (xs ++ ys) ≡ (list_any p xs || list_any p ys) → (b || list_any p (xs ++ ys)) ≡ ((b || list_any p xs) || list_any p ys)
    go true e = refl
    go false e = e

or_false : (b : Bool) → (b || false) ≡ b
or_false true = refl
or_false false = refl

get_name : (g : ℕ → Bool) (names : List ℕ) (i letter : ℕ) → name_at names i ≡ letter ∷ [] → get_or (map g names) i false ≡ g letter
get_name g [] zero letter h = cc
get_name g [] (suc i) letter h = cc
get_name g (n ∷ ns) zero letter h = let e : n ≡ letter = cc in ap g e
get_name g (n ∷ ns) (suc i) letter h = get_name g ns i letter h

get_none : (g : ℕ → Bool) (names : List ℕ) (i : ℕ) → length names ≤ i → get_or (map g names) i false ≡ false
get_none g [] i h = refl
get_none g (n ∷ ns) zero h = absurd (omega arith)
get_none g (n ∷ ns) (suc i) h = get_none g ns i (omega arith)

module _ (names : List ℕ) (letters : AreDistinctLetters names) where
  -- the v-th name is the i-th one just where i is v
  same_place : (i v : ℕ) (a : IsNameAt 0 names i) (b : IsNameAt 0 names v) → (b.letter == a.letter) ≡ eqb i v
  same_place i v a b = go (b.letter == a.letter) (eqb i v) refl refl
    where
      go : (s t : Bool) → (b.letter == a.letter) ≡ s → eqb i v ≡ t → s ≡ t
      go true true e f = refl
      go false false e f = refl
      go true false e f =
          let same : b.letter ≡ a.letter = grind (arith, nat_tests, e) in
          let place : Some (0 + v) ≡ Some (0 + i) = sym b.place ∙ ap (place_from 0 names) same ∙ a.place in
          let number : 0 + v ≡ 0 + i = cc in
          absurd (grind (arith, nat_tests, f, number))
      go false true e f =
          let number : v ≡ i = grind (arith, nat_tests, f) in
          let spelled : b.letter ∷ [] ≡ a.letter ∷ [] = sym b.spelled ∙ ap (name_at names) number ∙ a.spelled in
          let same : b.letter ≡ a.letter = cc in
          absurd (grind (arith, nat_tests, e, same))

  -- a name stands among the names of variables just where its variable is one of them
  listed_any : (i : ℕ) (a : IsNameAt 0 names i) (vs : List ℕ) → Every (λ v. v < length names) vs → list_any (λ b. b == a.letter) (listed (map (name_at names) vs)) ≡ list_any (eqb i) vs
  listed_any i a [] h = refl
  listed_any i a (v ∷ vs) h =
      let b = named_at names letters v h.0 in
      ap (λ (l : List ℕ). list_any (λ b. b == a.letter) (l ++ flat_map (λ g. 44 ∷ g) (map (name_at names) vs))) b.spelled
      ∙ ap₂ ◌||◌ (same_place i v a b) (further vs h.1)
    where
      comma : (44 == a.letter) ≡ false
      comma = let low = (a.lower).0 in grind (arith, nat_tests, low)

      further : (vs : List ℕ) → Every (λ v. v < length names) vs → list_any (λ b. b == a.letter) (flat_map (λ g. 44 ∷ g) (map (name_at names) vs)) ≡ list_any (eqb i) vs
      further [] h = refl
      further (v ∷ vs) h =
          let b = named_at names letters v h.0 in
          ap (λ (l : List ℕ). list_any (λ b. b == a.letter) ((44 ∷ l) ++ flat_map (λ g. 44 ∷ g) (map (name_at names) vs))) b.spelled
          ∙ rw comma (ap₂ ◌||◌ (same_place i v a b) (further vs h.1))

  digits_any : (ds : List ℕ) (n : ℕ) → 97 ≤ n → AreIn Digit ds → list_any (λ b. b == n) ds ≡ false
  digits_any [] n high h = refl
  digits_any (d ∷ ds) n high h =
      let r = (digit_range d h.0).1 in
      let l : d < n = omega arith in
      let e : (d == n) ≡ false = grind (arith, nat_tests, l) in
      rw e (digits_any ds n high h.1)

  -- what stands behind `free f`
  abbrev variables_text : ℕ → Unknown → List ℕ
  variables_text k f = ((decimal k ++ codes "(") ++ listed (map (name_at names) f.variables)) ++ codes ")"

  text_any : (i k : ℕ) (a : IsNameAt 0 names i) (f : Unknown) → k < 2 ^ 32 → Every (λ v. v < length names) f.variables
      → list_any (λ b. b == a.letter) (variables_text k f) ≡ list_any (eqb i) f.variables
  text_any i k a f small below =
      let low = (a.lower).0 in
      let open_other : (40 == a.letter) ≡ false = grind (arith, nat_tests, low) in
      let close_other : (41 == a.letter) ≡ false = grind (arith, nat_tests, low) in
      let is = (λ (b : ℕ). b == a.letter) in
      let opened : list_any is (codes "(") ≡ false = rw open_other refl in
      let closed : list_any is (codes ")") ≡ false = rw close_other refl in
      let number : list_any is (decimal k ++ codes "(") ≡ false = any_joined is (decimal k) (codes "(") ∙ rw (digits_any (decimal k) a.letter low (decimal_digits k (omega arith)), opened) refl in
      let front : list_any is ((decimal k ++ codes "(") ++ listed (map (name_at names) f.variables)) ≡ list_any (eqb i) f.variables =
      any_joined is (decimal k ++ codes "(") (listed (map (name_at names) f.variables)) ∙ rw number (listed_any i a f.variables below) in
      any_joined is ((decimal k ++ codes "(") ++ listed (map (name_at names) f.variables)) (codes ")") ∙ rw (front, closed) (or_false (list_any (eqb i) f.variables))

  place_stands : (i k : ℕ) (f : Unknown) → k < 2 ^ 32 → Every (λ v. v < length names) f.variables
      → get_or (stand_in names (free_line names k f)) i false ≡ list_any (eqb i) f.variables
  place_stands i k f small below = go (nat_lt i (length names)) refl
    where
      none : (vs : List ℕ) → length names ≤ i → Every (λ v. v < length names) vs → list_any (eqb i) vs ≡ false
      none [] le h = refl
      none (v ∷ vs) le h =
          let lt = h.0 in
          let l : v < i = omega arith in
          let e : eqb i v ≡ false = grind (arith, nat_tests, l) in rw e (none vs le h.1)

      go : (b : Bool) → nat_lt i (length names) ≡ b → get_or (stand_in names (free_line names k f)) i false ≡ list_any (eqb i) f.variables
      go true e =
          let lt : i < length names = grind (arith, nat_tests, e) in
          let a = named_at names letters i lt in
          get_name (λ n. list_any (λ b. b == n) (variables_text k f)) names i a.letter a.spelled ∙ text_any i k a f small below
      go false e =
          let le : length names ≤ i = grind (arith, nat_tests, e) in
          get_none (λ n. list_any (λ b. b == n) (variables_text k f)) names i le ∙ sym (none f.variables le below)

  -- a list that rises is what a range has of it
  rising_is : (p : ℕ → Bool) (m k : ℕ) (vs : List ℕ) → IsStrictlySortedBy nat_cmp vs → Every (λ v. k ≤ v) vs → Every (λ v. v < k + m) vs
      → ((i : ℕ) → k ≤ i → p i ≡ list_any (eqb i) vs) → filter p (range_with_len k m) ≡ vs
  unfolding IsStrictlySortedBy
  rising_is p zero k [] sorted from below h = refl
  rising_is p zero k (v ∷ vs) sorted from below h = let a = from.0 in let b = below.0 in absurd (omega arith)
  rising_is p (suc m) k [] sorted from below h = rw (h k (omega arith)) (rising_is p m (k + 1) [] tt tt tt (λ i le. h i (omega arith)))
  rising_is p (suc m) k (v ∷ vs) sorted from below h = go (eqb k v) refl (rising_is p m (k + 1))
    where
      later : (w : ℕ) → nat_cmp v w ≡ Less → v < w
      later w e = subst (λ o. MatchOrdering o (v < w) (v ≡ w) (w < v)) e (ranks v w)

      above : (ws : List ℕ) → Every (λ w. nat_cmp v w ≡ Less) ws → Every (λ w. v < w) ws
      above [] h = tt
      above (w ∷ ws) h = (later w h.0, above ws h.1)

      weaker : (a : ℕ) → a ≤ v → (ws : List ℕ) → Every (λ w. v < w) ws → Every (λ w. a + 1 ≤ w) ws
      weaker a le [] h = tt
      weaker a le (w ∷ ws) h = (let lt = h.0 in omega arith, weaker a le ws h.1)

      moved : (ws : List ℕ) → Every (λ w. w < k + suc m) ws → Every (λ w. w < k + 1 + m) ws
      moved [] h = tt
      moved (w ∷ ws) h = (let lt = h.0 in omega arith, moved ws h.1)

      absent : (ws : List ℕ) → Every (λ w. k + 1 ≤ w) ws → list_any (eqb k) ws ≡ false
      absent [] h = refl
      absent (w ∷ ws) h = let lt = h.0 in let e : eqb k w ≡ false = let l : k < w = omega arith in grind (arith, nat_tests, l) in rw e (absent ws h.1)

      go : (b : Bool) → eqb k v ≡ b
          → ((ws : List ℕ) → IsStrictlySortedBy nat_cmp ws → Every (λ v. k + 1 ≤ v) ws → Every (λ v. v < k + 1 + m) ws → ((i : ℕ) → k + 1 ≤ i → p i ≡ list_any (eqb i) ws) → filter p (range_with_len (k + 1) m) ≡ ws)
          → filter p (range_with_len k (suc m)) ≡ v ∷ vs
      go true e rises =
          let same : k ≡ v = grind (arith, nat_tests, e) in
          let here : p k ≡ true = h k (omega arith) ∙ rw e refl in
          let rest : filter p (range_with_len (k + 1) m) ≡ vs =
          rises vs sorted.1 (weaker k (omega arith) vs (above vs sorted.0)) (moved vs below.1)
          (λ i le. h i (omega arith) ∙ (let l : v < i = omega arith in let o : eqb i v ≡ false = grind (arith, nat_tests, l) in rw o refl)) in
          rw here (ap₂ (λ (x : ℕ) (l : List ℕ). x ∷ l) same rest)
      go false e rises =
          let first = from.0 in
          let other : ¬ (k ≡ v) = (λ s. grind (arith, nat_tests, e, s)) in
          let high : k + 1 ≤ v = omega (arith, other) in
          let none : p k ≡ false = h k (omega arith) ∙ rw e (absent vs (weaker k (omega arith) vs (above vs sorted.0))) in
          rw none (rises (v ∷ vs) sorted (high, weaker k (omega arith) vs (above vs sorted.0)) (moved (v ∷ vs) below) (λ i le. h i (omega arith)))

  pub variables_back : (k : ℕ) (f : Unknown) → k < 2 ^ 32 → length names ≤ 8 → HasVariablesBelow (length names) f → variables_in names (free_line names k f) ≡ f.variables
  variables_back k f small few h =
      rising_is (λ i. get_or (stand_in names (free_line names k f)) i false) 8 0 f.variables h.0 (zero_from f.variables) (wider f.variables h.1) (λ i le. place_stands i k f small h.1)
    where
      zero_from : (vs : List ℕ) → Every (λ v. 0 ≤ v) vs
      zero_from [] = tt
      zero_from (v ∷ vs) = ((omega arith), zero_from vs)

      wider : (vs : List ℕ) → Every (λ v. v < length names) vs → Every (λ v. v < 0 + 8) vs
      wider [] h = tt
      wider (v ∷ vs) h = (let lt = h.0 in omega arith, wider vs h.1)

  pub unknowns_back : (n : ℕ) (us : List Unknown) → n + length us < 2 ^ 32 → length names ≤ 8 → AreNumberedFrom n us → Every (HasVariablesBelow (length names)) us
      → unknowns_in names n (numbered_lines (free_line names) n us) ≡ us
  unknowns_back n [] small few numbered h = refl
  unknowns_back n (f ∷ us) small few numbered h =
      ap₂ (λ (g : Unknown) (gs : List Unknown). g ∷ gs)
      (ap₂ (λ (k : ℕ) (vs : List ℕ). record { number = k; variables = vs }) (sym numbered.0) (variables_back n f (omega arith) few h.0))
      (unknowns_back (n + 1) us (omega arith) few numbered.1 h.1)

-- ---- the lines of unknowns
pub free_front : (names : List ℕ) (n : ℕ) (us : List Unknown) (l : List ℕ) (rest : List (List ℕ)) → is_free l ≡ false → free_lines (numbered_lines (free_line names) n us ++ l ∷ rest) ≡ numbered_lines (free_line names) n us
free_front names n [] l rest h = rw h refl
free_front names n (f ∷ us) l rest h = ap (λ (ls : List (List ℕ)). free_line names n f ∷ ls) (free_front names (n + 1) us l rest h)

pub free_back : (names : List ℕ) (n : ℕ) (us : List Unknown) (l : List ℕ) (rest : List (List ℕ)) → is_free l ≡ false → behind_free (numbered_lines (free_line names) n us ++ l ∷ rest) ≡ l ∷ rest
free_back names n [] l rest h = rw h refl
free_back names n (f ∷ us) l rest h = free_back names (n + 1) us l rest h
